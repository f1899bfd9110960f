-- A sound store's words, cell by cell: those of a cell follow from what the cell is; and two outcomes of one request.
-- In order:
--   Holds, register_words, heap_words   the words of a cell of a sound store, by the cell
--   same_register, same_heap            a cell that is the same in two sound stores has the same words
--   laid_once                           two stores in which d's cell and the new cells are the same, and the others too
--   left_once                           what is left by a request that is done, refused for room or refused otherwise
-- Assumes nothing.
use mathlib.Core.Path.{◌≡◌, refl, sym, ◌∙◌}
use mathlib.Core.Logic.{◌⊎◌, inl, inr, ◌≢◌}
use mathlib.Core.List.{List}
use Prim.Native.Nat.{ℕ, ◌+◌, ◌-◌, ◌≤◌, ◌<◌}
use native.Mathlib.Decide.{ℕ_discrete}
use native.Mathlib.Omega.{arith}
use lib.ListN.{length}
use Rattle.words.specs.Cell.{first_word, second_word}
use Rattle.words.proofs.Cells.{words_ext}
use Rattle.meaning.specs.Sound.{Cell, fst, snd, at, Sound}
use Rattle.meaning.specs.Verdicts.{Done}
use Rattle.meaning.proofs.Lists.{lt_or_ge}
use Rattle.meaning.proofs.sound.Cells.{read, bracket_words, term_words, register_rule, heap_rule}
use Rattle.promises.specs.Cells.{OnlyThere}

-- the words of a cell of a sound store, by the cell
module _ (F : ℕ) (p : 0 < F) (v : List ℕ) (t : ℕ) (s : Sound F v t) where
  abbrev pub Holds : ℕ → Cell → Type 0
  Holds c b = (first_word v c ≡ fst b) × (second_word v c ≡ snd b)

  pub register_words : (i : ℕ) → i < F → (b : Cell) → at v i ≡ b → Holds i b
  unfolding at read
  register_words i h b e =
      let w = bracket_words F t (first_word v i) (second_word v i) p (register_rule s i h) in rw (← e)
      (sym w.one, sym w.two)

  pub heap_words : (c : ℕ) → F ≤ c → c < t → (b : Cell) → at v c ≡ b → Holds c b
  unfolding at read
  heap_words c f h b e =
      let w =
      term_words F c (first_word v c) (second_word v c) p (heap_rule s c f h) in rw (← e) (sym w.one, sym w.two)

-- a cell that is the same in two sound stores has the same words
module _ (F : ℕ) (p : 0 < F) (u v : List ℕ) (t t' : ℕ) (s : Sound F u t) (s' : Sound F v t') where
  pub same_register : (i : ℕ) → i < F → at u i ≡ at v i
      → (first_word u i ≡ first_word v i) × (second_word u i ≡ second_word v i)
  same_register i h e =
      let x = register_words F p u t s i h (at v i) e in
      let y = register_words F p v t' s' i h (at v i) refl in
      (x.0 ∙ sym y.0, x.1 ∙ sym y.1)

  pub same_heap : (c : ℕ) → F ≤ c → c < t → c < t' → at u c ≡ at v c
      → (first_word u c ≡ first_word v c) × (second_word u c ≡ second_word v c)
  same_heap c f h k e =
      let x = heap_words F p u t s c f h (at v c) e in
      let y = heap_words F p v t' s' c f k (at v c) refl in
      (x.0 ∙ sym y.0, x.1 ∙ sym y.1)

-- two outcomes with the same `top`, each of which changes of w only the cell of register d and n cells from t on
module _ (F : ℕ) (r q : Done) (w : List ℕ) (d t n : ℕ) (hd : d < F) (low : F ≤ t) (s : Sound F r.words r.top)
    (s' : Sound F q.words q.top) (top : r.top ≡ t + n) (top' : q.top ≡ t + n)
    (others : OnlyThere d t n w r.words) (others' : OnlyThere d t n w q.words)
    (set : at r.words d ≡ at q.words d)
    (laid : (j : ℕ) → j < n → at r.words (t + j) ≡ at q.words (t + j)) where
  abbrev Same : ℕ → Type 0
  Same c = (first_word r.words c ≡ first_word q.words c) × (second_word r.words c ≡ second_word q.words c)

  cell_once : (c : ℕ) → Same c
  cell_once c = go (ℕ_discrete c d) (lt_or_ge c t) (lt_or_ge c (t + n))
    where
      p : 0 < F
      p = omega arith

      both : c ≢ d → (c < t) ⊎ (t + n ≤ c) → Same c
      both m l =
          let i = others c m l in
          let j = others' c m l in
          (i.0 ∙ sym j.0, i.1 ∙ sym j.1)

      go : Dec (c ≡ d) → (c < t) ⊎ (t ≤ c) → (c < t + n) ⊎ (t + n ≤ c) → Same c
      go (yes m) k l = rw m (same_register F p r.words q.words r.top q.top s s' d hd set)
      go (no m) (inl k) l = both m (inl k)
      go (no m) (inr k) (inr l) = both m (inr l)
      go (no m) (inr k) (inl l) =
          let z : t + (c - t) ≡ c = omega arith in
          rw z at (same_heap F p r.words q.words r.top q.top s s' (t + (c - t)) (omega arith)
          (omega (arith, top)) (omega (arith, top')) (laid (c - t) (omega arith)))

  pub laid_once : length r.words ≡ length q.words → r.words ≡ q.words
  laid_once l =
      words_ext r.words q.words l s.allowed.even (λ c _. (cell_once c).0) (λ c _. (cell_once c).1)

-- ---- by the status

module _ (r q : Done) (e : r.verdict.status ≡ q.verdict.status) where
  -- r leaves u and x where its status keeps to A
  abbrev LeftWhere : (ℕ → Type 0) → List ℕ → ℕ → Done → Type 0
  LeftWhere A u x y = A y.verdict.status → (y.words ≡ u) × (y.top ≡ x)

  abbrev Refusal : ℕ → Type 0
  Refusal c = (c ≢ 0) × (c ≢ 16)

  pub left_once : (r.verdict.status ≡ 0 → q.verdict.status ≡ 0 → (r.words ≡ q.words) × (r.top ≡ q.top))
      → (u : List ℕ) (x : ℕ) → LeftWhere (λ c. c ≡ 16) u x r → LeftWhere (λ c. c ≡ 16) u x q
      → (w : List ℕ) (y : ℕ) → LeftWhere Refusal w y r → LeftWhere Refusal w y q
      → (r.words ≡ q.words) × (r.top ≡ q.top)
  left_once done u x full full' w y refused refused' =
      go (ℕ_discrete r.verdict.status 0) (ℕ_discrete r.verdict.status 16)
    where
      both : (v : List ℕ) (z : ℕ) → (r.words ≡ v) × (r.top ≡ z) → (q.words ≡ v) × (q.top ≡ z)
          → (r.words ≡ q.words) × (r.top ≡ q.top)
      both v z a b = (a.0 ∙ sym b.0, a.1 ∙ sym b.1)

      go : Dec (r.verdict.status ≡ 0) → Dec (r.verdict.status ≡ 16) → (r.words ≡ q.words) × (r.top ≡ q.top)
      go (yes f) k = done f (sym e ∙ f)
      go (no f) (yes k) = both u x (full k) (full' (sym e ∙ k))
      go (no f) (no k) = both w y (refused (f, k)) (refused' (λ z. f (e ∙ z), λ z. k (e ∙ z)))
