-- One outcome: two that satisfy the same claim are equal. In order:
--   one_answer                   an answer of which the promise says its number and values
--   judged_once                  a store is judged once
--   one_check, one_fresh         the check, and a fresh store;  done_parts  an answer by its parts
--   one_collected, one_collect   the collected store, and collecting;  unsound_check  a store that is refused
--   Left                         what is left of a list of requests: the answers, the words and `top`
--   one_batch, one_look          a batch, and the look
-- Assumes nothing.
use mathlib.Core.Path.{◌≡◌, refl, sym, ap, ap₂, subst, ◌∙◌}
use mathlib.Core.Logic.{◌⊎◌, inl, inr, ◌≢◌}
use mathlib.Core.Bool.{Bool, true, false}
use mathlib.Core.List.{List, ◌∷◌, ◌++◌}
use Prim.Native.Nat.{ℕ, zero, suc, ◌+◌, ◌-◌, ◌≤◌, ◌<◌}
use native.Mathlib.Omega.{arith}
use lib.ListN.{length, replicate}
use lib.Seq.{ext_get_or}
use Rattle.words.specs.Cell.{first_word, second_word}
use Rattle.meaning.specs.Sound.{Cell, code, empty, ends, at, capacity, Allowed, CellRule, Sound}
use Rattle.meaning.specs.Reach.{live}
use Rattle.meaning.specs.Collected.{map_ends, new}
use Rattle.meaning.specs.Verdicts.{Verdict, only, damaged_at, Done}
use Rattle.meaning.specs.Check.{length_test, check}
use Rattle.meaning.specs.Effect.{effect}
use Rattle.meaning.specs.Batch.{Outcome, as_lent}
use Rattle.meaning.proofs.Lists.{lt_or_ge}
use Rattle.meaning.proofs.Counting.{refuted}
use Rattle.meaning.proofs.sound.Cells.{good, BracketIn, free_words}
use Rattle.meaning.proofs.check.Checking.{length_yes, yes_length, check_sound, sound_check}
use Rattle.meaning.proofs.collected.Determined.{is_collected}
use Rattle.promises.specs.Table.{Not, rules, FirstOf, TopRule, Judged, bad_length, bad_top, bad_cell, is_sound}
use Rattle.promises.specs.Table.{Batched, unsound, bad_calls, bad_space, runs}
use Rattle.promises.specs.Requests.{Request, call, typed, in_words}
use Rattle.promises.specs.Calls.{Did, Answered, none, next, BatchRun}
use Rattle.promises.specs.Unique.{OneAnswer, OneCheck, OneFresh, OneCollected, OneLook, OneCollect, OneBatch}
use Rattle.promises.proofs.unique.Words.{register_words, heap_words}
use Rattle.promises.proofs.unique.Calls.{one_call}
use Rattle.promises.proofs.unique.Texts.{typed_once}
use Rattle.promises.proofs.Verdicts.{verdict_parts}
use Rattle.promises.proofs.table.Cells.{first_once}

pub one_answer : OneAnswer
one_answer A B numbers inj b x y e f = inj x y (e ∙ sym f)

-- ---- the check

sound_rules : {F : ℕ} {ws : List ℕ} {top : ℕ} → Sound F ws top
    → Allowed F (length ws) × TopRule F ws top × ((c : ℕ) → c < capacity ws → CellRule F ws top c)
sound_rules s = (s.allowed, (s.low, s.high), s.cells)

module _ (F : ℕ) (ws : List ℕ) (top : ℕ) where
  pub judged_once : (v w : Verdict) → Judged F ws top v → Judged F ws top w → v ≡ w
  judged_once v w (bad_length n) (bad_length k) = refl
  judged_once v w (bad_length n) (bad_top l k) = absurd (n l)
  judged_once v w (bad_length n) (bad_cell c q l t h k f b) = absurd (n l)
  judged_once v w (bad_length n) (is_sound s) = absurd (n (sound_rules s).0)
  judged_once v w (bad_top l n) (bad_length k) = absurd (k l)
  judged_once v w (bad_top l n) (bad_top m k) = refl
  judged_once v w (bad_top l n) (bad_cell c q m t h k f b) = absurd (n t)
  judged_once v w (bad_top l n) (is_sound s) = absurd (n (sound_rules s).1)
  judged_once v w (bad_cell c q l t h n f b) (bad_length k) = absurd (k l)
  judged_once v w (bad_cell c q l t h n f b) (bad_top m k) = absurd (k t)
  judged_once v w (bad_cell c q l t h n f b) (bad_cell x r m u g k e d) =
      let z = lowest (lt_or_ge c x) (lt_or_ge x c) in
      ap₂ damaged_at z (first_once (rules F top c (first_word ws c) (second_word ws c)) q r f (subst
      (λ (y : ℕ). FirstOf (rules F top y (first_word ws y) (second_word ws y)) r) (sym z) e))
    where
      lowest : (c < x) ⊎ (x ≤ c) → (x < c) ⊎ (c ≤ x) → c ≡ x
      lowest (inl y) z = absurd (n (d c y))
      lowest (inr y) (inl z) = absurd (k (b x z))
      lowest (inr y) (inr z) = omega arith
  judged_once v w (bad_cell c q l t h n f b) (is_sound s) = absurd (n ((sound_rules s).2 c h))
  judged_once v w (is_sound s) (bad_length k) = absurd (k (sound_rules s).0)
  judged_once v w (is_sound s) (bad_top m k) = absurd (k (sound_rules s).1)
  judged_once v w (is_sound s) (bad_cell c q m t h k f b) = absurd (k ((sound_rules s).2 c h))
  judged_once v w (is_sound s) (is_sound z) = refl

pub one_check : OneCheck
one_check F ws top v w a b = judged_once F ws top v w a.judged b.judged

-- ---- by parts

pub done_parts : (r q : Done) → r.verdict ≡ q.verdict → r.words ≡ q.words → r.top ≡ q.top → r ≡ q
done_parts r q e f g = rw (e, f, g) refl

pub one_fresh : OneFresh
one_fresh F ws r q a b = go (length_test F (length ws)) refl
  where
    both : (s : ℕ) (w : List ℕ) (t : ℕ) → (r.verdict.status ≡ s) × (r.words ≡ w) × (r.top ≡ t)
        → (q.verdict.status ≡ s) × (q.words ≡ w) × (q.top ≡ t) → r ≡ q
    both s w t x y =
        done_parts r q (verdict_parts r.verdict q.verdict
        (x.0 ∙ sym y.0) (a.value ∙ sym b.value) (a.rule ∙ sym b.rule))
        (x.1 ∙ sym y.1) (x.2 ∙ sym y.2)

    go : (t : Bool) → length_test F (length ws) ≡ t → r ≡ q
    go true e = let l = length_yes F (length ws) e in both 0 _ F (a.made l) (b.made l)
    go false e =
        let n =
        refuted (length_test F (length ws)) (yes_length F (length ws)) e in both 1 ws 0 (a.refused n) (b.refused n)

-- ---- collecting

pub one_collected : OneCollected
one_collected F p ws top s v g =
    let t = F + live F ws top in
    is_collected F ws top p s v g.len
    (λ i h. register_words F p v t g.sound i h (map_ends (new F ws top) (at ws i))
    (g.registers i h))
    (λ c r. let l = g.low c r in heap_words F p v t g.sound (new F ws top c) l.0 l.1
    (map_ends (new F ws top) (at ws c)) (g.cells c r))
    (λ i l h. free_words F v t g.sound i l (rw g.len h))

pub unsound_check : (F : ℕ) (ws : List ℕ) (top n : ℕ) → (check F ws top).status ≡ suc n → Not (Sound F ws top)
unsound_check F ws top n e s =
    let z : (check F ws top).status ≡ 0 = ap (λ (v : Verdict). v.status) (sound_check F ws top s) in omega arith

pub one_collect : OneCollect
one_collect F ws top r q a b = go (check F ws top).status refl
  where
    go : (n : ℕ) → (check F ws top).status ≡ n → r ≡ q
    go zero e =
        let s = check_sound F ws top e in
        let x = a.collects s in
        let y = b.collects s in
        let f = a.rule (λ z. omega (arith, x.0, z)) in
        let g = b.rule (λ z. omega (arith, y.0, z)) in
        done_parts r q
        (verdict_parts r.verdict q.verdict (x.0 ∙ sym y.0) (x.1 ∙ sym y.1) (f ∙ sym g))
        (x.2 ∙ sym y.2) (x.3 ∙ sym y.3)
    go (suc n) e =
        let x = a.refused (unsound_check F ws top n e) in
        let y = b.refused (unsound_check F ws top n e) in
        done_parts r q (judged_once F ws top r.verdict q.verdict x.0 y.0) (x.2 ∙ sym y.2)
        (x.3 ∙ sym y.3)

-- ---- a batch

-- what is left of a list of requests: the answers, the words and `top`
pub record Left : Type 0 where
  pub said : List Verdict
  pub words : List ℕ
  pub top : ℕ

did_once : (F : ℕ) → 0 < F → (ws : List ℕ) (top : ℕ) → Sound F ws top → (q : Request) (r r' : Done)
    → Did F ws top q r → Did F ws top q r' → (r ≡ r') × Sound F r.words r.top
did_once F p ws top s (call o d a b) r r' x y = (
  one_call F p ws top s o d a b (effect F ws top o d a b).need r r' x y,
  x.sound,
)
did_once F p ws top s (typed d bs) r r' x y = (typed_once F ws top d bs s r r' x y, x.sound)

answered_once : (F : ℕ) → 0 < F → {ws : List ℕ} {top : ℕ} {qs : List Request} {said said' : List Verdict}
    {v v' : List ℕ} {t t' : ℕ} → Sound F ws top → Answered F ws top qs said v t → Answered F ws top qs said' v' t'
    → ◌≡◌ {A = Left} (record { said = said; words = v; top = t }) (record { said = said'; words = v'; top = t' })
answered_once F p s none none = refl
answered_once F p s (next {ws} {top} {q} {qs} r x k) (next {said = said'} {v = v'} {t = t'} r' y m) =
    let e = did_once F p ws top s q r r' x y in
    let m' = subst (λ (u : Done). Answered F u.words u.top qs said' v' t') (sym e.0) m in
    rw (← e.0)
    (ap (λ (l : Left). record { said = r.verdict ∷ l.said; words = l.words; top = l.top })
    (answered_once F p e.1 k m'))

module _ (F : ℕ) (p : 0 < F) (ws : List ℕ) (top : ℕ) (calls out : List ℕ) where
  both_run : Sound F ws top → (r q : Outcome) → r.verdict ≡ only 0 → q.verdict ≡ only 0
      → BatchRun F ws top calls out r → BatchRun F ws top calls out q → r ≡ q
  both_run s r q e f x y =
      let z = answered_once F p s x.answered y.answered in
      let w : r.words ≡ q.words = ap (λ (u : Left). u.words) z in
      let t : r.top ≡ q.top = ap (λ (u : Left). u.top) z in
      let a : r.answers ≡ q.answers =
      x.answers
      ∙ (ap (λ (u : Left). in_words u.said ++ replicate (length out - length (in_words u.said)) 0) z
      ∙ sym y.answers) in
      rw (e ∙ sym f, w, t, a) refl

  -- a store is sound or it is not
  clash : (v : Verdict) → Judged F ws top v → v.status ≢ 0 → Not (Sound F ws top)
  clash v j n s = n (ap (λ (x : Verdict). x.status) (judged_once F ws top v (only 0) j (is_sound s)))

  batched_once : (r q : Outcome) → Batched F ws top calls out r → Batched F ws top calls out q
      → (Sound F ws top → r.verdict ≡ only 0 → q.verdict ≡ only 0 → r ≡ q) → r ≡ q
  batched_once r q (unsound v j n) (unsound w k m) h =
      ap (λ (x : Verdict). as_lent x ws top out) (judged_once F ws top v w j k)
  batched_once r q (unsound v j n) (bad_calls s c) h = absurd (clash v j n s)
  batched_once r q (unsound v j n) (bad_space s c l) h = absurd (clash v j n s)
  batched_once r q (unsound v j n) (runs x s c l e) h = absurd (clash v j n s)
  batched_once r q (bad_calls s c) (unsound w k m) h = absurd (clash w k m s)
  batched_once r q (bad_calls s c) (bad_calls t d) h = refl
  batched_once r q (bad_calls s c) (bad_space t d l) h = absurd (c d)
  batched_once r q (bad_calls s c) (runs x t d l e) h = absurd (c d)
  batched_once r q (bad_space s c l) (unsound w k m) h = absurd (clash w k m s)
  batched_once r q (bad_space s c l) (bad_calls t d) h = absurd (d c)
  batched_once r q (bad_space s c l) (bad_space t d m) h = refl
  batched_once r q (bad_space s c l) (runs x t d m e) h = absurd (l m)
  batched_once r q (runs x s c l e) (unsound w k m) h = absurd (clash w k m s)
  batched_once r q (runs x s c l e) (bad_calls t d) h = absurd (d c)
  batched_once r q (runs x s c l e) (bad_space t d m) h = absurd (m l)
  batched_once r q (runs x s c l e) (runs y t d m f) h = h s e f

pub one_batch : OneBatch
one_batch F p ws top calls out r q a b =
    batched_once F p ws top calls out r q a.table.batched b.table.batched
    (λ s e f. both_run F p ws top calls out s r q e f (a.run (ap (λ (v : Verdict). v.status) e))
    (b.run (ap (λ (v : Verdict). v.status) f)))

-- ---- the look

pub one_look : OneLook
one_look F p ws top i x y a b = go (check F ws top).status refl (lt_or_ge i F)
  where
    cell : Sound F ws top → i < F → (k : Cell) → at ws i ≡ k → BracketIn F top k → x ≡ y
    cell s h (code c) e t = absurd t
    cell s h empty e t = a.no_contents e ∙ sym (b.no_contents e)
    cell s h (ends l r) e t =
        let u = a.cells l r s h e in
        let v = b.cells l r s h e in
        let n : length x ≡ length y = u.0 ∙ sym v.0 in
        ext_get_or 0 x y n (λ j m. u.1 j m ∙ sym (v.1 j (rw (← n) m)))

    go : (n : ℕ) → (check F ws top).status ≡ n → (i < F) ⊎ (F ≤ i) → x ≡ y
    go zero e (inl h) = let s = check_sound F ws top e in cell s h (at ws i) refl ((good F ws top p s).regs i h)
    go zero e (inr h) = a.none h ∙ sym (b.none h)
    go (suc n) e h = let m = unsound_check F ws top n e in a.unsound m ∙ sym (b.unsound m)
