-- The check's answer by the rule that decides it. Assumes nothing.
use mathlib.Core.Path.{◌≡◌, refl}
use mathlib.Core.Logic.{inl, inr, ◌≢◌}
use mathlib.Core.List.{List, [], ◌∷◌}
use Prim.Native.Nat.{ℕ}
use native.Mathlib.Omega.{arith}
use lib.ListN.{length}
use Rattle.words.specs.Cell.{first_word, second_word}
use Rattle.meaning.specs.Sound.{capacity}
use Rattle.meaning.specs.Verdicts.{Verdict}
use Rattle.meaning.specs.Check.{broken_rule, cell_test, length_test, top_test, check}
use Rattle.meaning.proofs.Counting.{refuted}
use Rattle.meaning.proofs.sound.Cells.{limit_fits}
use Rattle.meaning.proofs.check.Checking.{length_yes, yes_length, top_yes, yes_top, cell_yes, yes_cell, CheckCases}
use Rattle.meaning.proofs.check.Checking.{length_bad, top_bad, cell_bad, sound, check_cases}
use Rattle.promises.specs.Table.{OneOf, Judged, bad_length, bad_top, bad_cell, is_sound}
use Rattle.promises.proofs.table.Cells.{first_broken, broken_number}

judge : (F : ℕ) (ws : List ℕ) (top : ℕ) (v : Verdict) → CheckCases F ws top v → Judged F ws top v
judge F ws top v (length_bad e) = bad_length (refuted (length_test F (length ws)) (yes_length F (length ws)) e)
judge F ws top v (top_bad l e) =
    bad_top (length_yes F (length ws) l)
    (refuted (top_test F (capacity ws) top) (λ t. yes_top F (capacity ws) top t.0 t.1) e)
judge F ws top v (cell_bad c l t m e b) =
    let h = top_yes F (capacity ws) top t in
    let a = length_yes F (length ws) l in
    bad_cell c (broken_rule F top c (first_word ws c) (second_word ws c)) a h m
    (refuted (cell_test F top c (first_word ws c) (second_word ws c))
    (yes_cell F ws top (omega (arith, h.1, a.small, limit_fits)) c) e)
    (first_broken F top c (first_word ws c) (second_word ws c)) (λ x k. cell_yes F ws top h.0 x (b x k))
judge F ws top v (sound s) = is_sound s

module _ (F : ℕ) (ws : List ℕ) (top : ℕ) where
  pub judged : Judged F ws top (check F ws top)
  judged = judge F ws top (check F ws top) (check_cases F ws top)

  -- whatever else is in a table
  pub judged_number : (more : List ℕ) (v : Verdict) → Judged F ws top v → OneOf v.status (0 ∷ 1 ∷ 2 ∷ 3 ∷ more)
  judged_number more v (bad_length n) = inr (inl refl)
  judged_number more v (bad_top l n) = inr (inr (inl refl))
  judged_number more v (bad_cell c q l t m n f b) = inr (inr (inr (inl refl)))
  judged_number more v (is_sound s) = inl refl

  -- value and rule, but for 3
  pub judged_zero : (v : Verdict) → Judged F ws top v → v.status ≢ 3 → (v.value ≡ 0) × (v.rule ≡ 0)
  judged_zero v (bad_length n) h = (refl, refl)
  judged_zero v (bad_top l n) h = (refl, refl)
  judged_zero v (bad_cell c q l t m n f b) h = absurd (h refl)
  judged_zero v (is_sound s) h = (refl, refl)

  -- the rule of 3
  pub check_broken : (check F ws top).status ≡ 3 → OneOf (check F ws top).rule (1 ∷ 2 ∷ 3 ∷ 4 ∷ 5 ∷ 6 ∷ [])
  check_broken e = go (check_cases F ws top) e
    where
      go : {v : Verdict} → CheckCases F ws top v → v.status ≡ 3 → OneOf v.rule (1 ∷ 2 ∷ 3 ∷ 4 ∷ 5 ∷ 6 ∷ [])
      go (length_bad a) z = absurd (omega arith)
      go (top_bad a b) z = absurd (omega arith)
      go (cell_bad c a b l x y) z = broken_number F top c (first_word ws c) (second_word ws c) x
      go (sound s) z = absurd (omega arith)
