-- A window's notes: one cell more, and what a look along them tells. In order:
--   noted_begin               before the first cell
--   noted_turn                a turn of the loop over the cells
--   between_past, held_past   a cell is held where a run that begins at or before it reaches beyond it
--   past_or, past_none        how far the runs reach that pass one test or another, or none
--   along_held, window_held   a look along a window tells whether each of its cells is held, or of its first n
-- Assumes nothing.
use mathlib.Core.Path.{◌≡◌, refl, sym, ap, ap₂, ◌∙◌, subst}
use mathlib.Core.Bool.{Bool, true, false, cond, ◌&&◌, ◌||◌}
use mathlib.Core.List.{List, [], ◌∷◌}
use Prim.Native.Nat.{ℕ, zero, suc, ◌+◌, ◌-◌, ◌≤◌, ◌<◌, max}
use native.Mathlib.Nat.{max_comm, zero-max}
use native.Mathlib.Numerals.{add-one}
use native.Mathlib.Omega.{arith}
use lib.Dec.{ltb, leb, eqb}
use lib.ListN.{length, get_or, set, take, replicate, length-set}
use lib.Seq.{get_or-set_same, get_or-set_other, get_or-take, length-take-le}
use borrow.Author.Tests.{ltb-true, ltb-false, leb-true, leb-false, eqb-true, eqb-false}
use borrow.Author.Tests.{lt-ltb, le-ltb}
use Rattle.words.specs.Cell.{first_word, second_word}
use Rattle.words.specs.Second.{bracket_to}
use Rattle.meaning.specs.Sound.{Cell, code, empty, ends, cell_of, at}
use Rattle.meaning.specs.Reach.{between, held_below}
use Rattle.file.specs.Windows.{held_from, past_if, past, placed, Noted, noted, along}

-- ---- one cell more

noted_length : (w : ℕ) (b : Cell) (far : List ℕ) → length (noted w b far) ≡ length far
noted_length w (code a) far = refl
noted_length w empty far = refl
noted_length w (ends l r) far = length-set far (l - w) (max (get_or far (l - w) 0) (suc r))

noted_place : (w : ℕ) (b : Cell) (far : List ℕ) (j x : ℕ) → j < length far → get_or far j 0 ≡ x
    → get_or (noted w b far) j 0 ≡ max (past_if (placed w j) b) x
noted_place w (code a) far j x h e = e ∙ sym (zero-max x)
noted_place w empty far j x h e = e ∙ sym (zero-max x)
noted_place w (ends l r) far j x h e = go (eqb (l - w) j) refl
  where
    go : (t : Bool) → eqb (l - w) j ≡ t
        → get_or (set far (l - w) (max (get_or far (l - w) 0) (suc r))) j 0 ≡ max (cond (eqb (l - w) j) (suc r) 0) x
    go true q =
        rw (q, eqb-true (l - w) j q)
        (get_or-set_same far j (max (get_or far j 0) (suc r)) 0 h
        ∙ (ap (λ (y : ℕ). max y (suc r)) e ∙ max_comm x (suc r)))
    go false q =
        rw q (get_or-set_other far (l - w) j (max (get_or far (l - w) 0) (suc r)) 0 (λ d. eqb-false (l - w) j q (sym d))
        ∙ (e ∙ sym (zero-max x)))

noted_step : (k : ℕ → Cell) (m w : ℕ) (far : List ℕ) → Noted k m w far → Noted k (suc m) w (noted w (k m) far)
noted_step k m w far h j l =
    let g : j < length far = subst (λ (y : ℕ). j < y) (noted_length w (k m) far) l in
    noted_place w (k m) far j (past (placed w j) k m) g (h j g)

-- before the first
pub noted_begin : (k : ℕ → Cell) (w n : ℕ) → Noted k 0 w (replicate n 0)
noted_begin k w zero j h = absurd (omega arith)
noted_begin k w (suc n) zero h = refl
noted_begin k w (suc n) (suc j) h = noted_begin k w n j (omega arith)

-- a turn of the loop over the cells
pub noted_turn : (ws : List ℕ) (c w a b : ℕ) (far far' : List ℕ) → a ≡ first_word ws c → b ≡ second_word ws c
    → far' ≡ noted w (cell_of (ltb b (bracket_to 0)) a b) far → Noted (at ws) c w far
    → (length far' ≡ length far) × Noted (at ws) (c + 1) w far'
unfolding at
noted_turn ws c w a b far far' p q e h =
    let f : far' ≡ noted w (at ws c) far = e ∙ rw (p, q) refl in
    rw (f, add-one c) (noted_length w (at ws c) far, noted_step (at ws) c w far h)

-- ---- how far runs reach

ltb_max : (x a b : ℕ) → ltb x (max a b) ≡ (ltb x a || ltb x b)
ltb_max x a b = go (ltb x a) (ltb x b) refl refl
  where
    go : (s t : Bool) → ltb x a ≡ s → ltb x b ≡ t → ltb x (max a b) ≡ (s || t)
    go true t p q = lt-ltb x (max a b) (omega (arith, ltb-true x a p))
    go false true p q = lt-ltb x (max a b) (omega (arith, ltb-true x b q))
    go false false p q = le-ltb x (max a b) (omega (arith, ltb-false x a p, ltb-false x b q))

between_past : (t : ℕ → Bool) (x : ℕ) → ((l : ℕ) → t l ≡ leb l x) → (b : Cell) → between b x ≡ ltb x (past_if t b)
between_past t x e (code a) = sym (le-ltb x 0 (omega arith))
between_past t x e empty = sym (le-ltb x 0 (omega arith))
between_past t x e (ends l r) = rw (e l) (go (leb l x) (leb x r) refl)
  where
    go : (s u : Bool) → leb x r ≡ u → (s && u) ≡ ltb x (cond s (suc r) 0)
    go true true p = sym (lt-ltb x (suc r) (omega (arith, leb-true x r p)))
    go true false p = sym (le-ltb x (suc r) (omega (arith, leb-false x r p)))
    go false u p = sym (le-ltb x 0 (omega arith))

-- a cell is held where a run that begins at or before it reaches beyond it
held_past : (k : ℕ → Cell) (t : ℕ → Bool) (x : ℕ) → ((l : ℕ) → t l ≡ leb l x) → (m : ℕ)
    → ltb x (past t k m) ≡ held_below k m x
held_past k t x e zero = le-ltb x 0 (omega arith)
held_past k t x e (suc m) =
    ltb_max x (past_if t (k m)) (past t k m)
    ∙ ap₂ (λ (p q : Bool). p || q) (sym (between_past t x e (k m))) (held_past k t x e m)

-- one test or the other
past_if_or : (t u v : ℕ → Bool) → ((l : ℕ) → v l ≡ (t l || u l)) → (b : Cell)
    → max (past_if t b) (past_if u b) ≡ past_if v b
past_if_or t u v e (code a) = refl
past_if_or t u v e empty = refl
past_if_or t u v e (ends l r) = rw (e l) (go (t l) (u l))
  where
    go : (p q : Bool) → max (cond p (suc r) 0) (cond q (suc r) 0) ≡ cond (p || q) (suc r) 0
    go true true = omega arith
    go true false = omega arith
    go false true = omega arith
    go false false = omega arith

past_or : (k : ℕ → Cell) (t u v : ℕ → Bool) → ((l : ℕ) → v l ≡ (t l || u l)) → (m : ℕ)
    → max (past t k m) (past u k m) ≡ past v k m
past_or k t u v e zero = refl
past_or k t u v e (suc m) = omega (arith, past_if_or t u v e (k m), past_or k t u v e m)

past_none : (k : ℕ → Cell) (t : ℕ → Bool) → ((l : ℕ) → t l ≡ false) → (m : ℕ) → past t k m ≡ 0
past_none k t e zero = refl
past_none k t e (suc m) = omega (arith, none (k m), past_none k t e m)
  where
    none : (b : Cell) → past_if t b ≡ 0
    none (code a) = refl
    none empty = refl
    none (ends l r) = rw (e l) refl

-- ---- the look

-- runs that belong to places before j
abbrev before : ℕ → ℕ → ℕ → Bool
before w j l = ltb (l - w) j

before_suc : (w j l : ℕ) → before w (suc j) l ≡ (before w j l || placed w j l)
before_suc w j l = go (ltb (l - w) j) (eqb (l - w) j) refl refl
  where
    go : (s t : Bool) → ltb (l - w) j ≡ s → eqb (l - w) j ≡ t → ltb (l - w) (suc j) ≡ (s || t)
    go true t p q = lt-ltb (l - w) (suc j) (omega (arith, ltb-true (l - w) j p))
    go false true p q = lt-ltb (l - w) (suc j) (omega (arith, eqb-true (l - w) j q))
    go false false p q = le-ltb (l - w) (suc j) (above (ltb-false (l - w) j p) (eqb-false (l - w) j q))
      where
        above : j ≤ l - w → (l - w ≡ j → ⊥) → suc j ≤ l - w
        above h n = pick (ltb j (l - w)) refl
          where
            pick : (b : Bool) → ltb j (l - w) ≡ b → suc j ≤ l - w
            pick true r = ltb-true j (l - w) r
            pick false r = absurd (let z : l - w ≡ j = omega (arith, ltb-false j (l - w) r) in n z)

before_leb : (w j l : ℕ) → before w (suc j) l ≡ leb l (w + j)
before_leb w j l = go (leb l (w + j)) refl
  where
    go : (t : Bool) → leb l (w + j) ≡ t → ltb (l - w) (suc j) ≡ t
    go true e = lt-ltb (l - w) (suc j) (omega (arith, leb-true l (w + j) e))
    go false e = le-ltb (l - w) (suc j) (omega (arith, leb-false l (w + j) e))

module _ (k : ℕ → Cell) (m w : ℕ) where
  along_from : (j : ℕ) (xs : List ℕ) → ((i : ℕ) → i < length xs → get_or xs i 0 ≡ past (placed w (j + i)) k m)
      → along (w + j) (past (before w j) k m) xs ≡ held_from k m (w + j) (length xs)
  along_from j [] h = refl
  along_from j (x ∷ xs) h =
      let z : j + 0 ≡ j = omega arith in
      let e : x ≡ past (placed w j) k m = subst (λ (y : ℕ). x ≡ past (placed w y) k m) z (h 0 (omega arith)) in
      let f : max (past (before w j) k m) x ≡ past (before w (suc j)) k m =
      ap (λ (y : ℕ). max (past (before w j) k m) y) e
      ∙ past_or k (before w j) (placed w j) (before w (suc j)) (before_suc w j) m in
      let s : suc (w + j) ≡ w + suc j = omega arith in
      let r = along_from (suc j) xs (λ i l.
      let g : j + suc i ≡ suc j + i = omega arith in
      subst (λ (y : ℕ). get_or xs i 0 ≡ past (placed w y) k m) g (h (suc i) (omega arith))) in
      rw f
      (ap₂ (λ (p q : Bool). p && q) (held_past k (before w (suc j)) (w + j) (before_leb w j) m)
      (subst (λ (y : ℕ). along y (past (before w (suc j)) k m) xs ≡ held_from k m y (length xs)) (sym s) r))

  -- a look along a window tells whether each of its cells is held
  pub along_held : (far : List ℕ) → Noted k m w far → along w 0 far ≡ held_from k m w (length far)
  along_held far h =
      let z : w + 0 ≡ w = omega arith in
      let p : past (before w 0) k m ≡ 0 = past_none k (before w 0) (λ l. le-ltb (l - w) 0 (omega arith)) m in
      subst (λ (y : ℕ). along y 0 far ≡ held_from k m y (length far)) z
      (subst (λ (y : ℕ). along (w + 0) y far ≡ held_from k m (w + 0) (length far)) p
      (along_from 0 far (λ i l. let g : 0 + i ≡ i = omega arith in rw g (h i l))))

  -- the same of its first n places
  pub window_held : (far : List ℕ) (n : ℕ) → n ≤ length far → Noted k m w far
      → along w 0 (take n far) ≡ held_from k m w n
  window_held far n l h =
      let e : length (take n far) ≡ n = length-take-le n far l in
      along_held (take n far) (λ j i. get_or-take n far j 0 (omega arith) ∙ h j (omega arith))
      ∙ ap (λ (x : ℕ). held_from k m w x) e
