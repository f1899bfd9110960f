-- The values that come back are cells of a store or their number: at most the limit, which a word holds.
-- Assumes nothing.
use mathlib.Core.Path.{◌≡◌, refl}
use mathlib.Core.List.{List}
use Prim.Native.Nat.{ℕ, zero, suc, ◌≤◌, ◌<◌}
use native.Mathlib.Omega.{arith}
use lib.ListN.{length}
use Rattle.meaning.specs.Limits.{limit}
use Rattle.meaning.specs.Sound.{Sound}
use Rattle.meaning.specs.Verdicts.{Verdict, Done, on_zero, if_sound}
use Rattle.meaning.specs.Check.{check, collect_in}
use Rattle.meaning.specs.Batch.{Outcome, ended, batch}
use Rattle.meaning.proofs.check.Checking.{CheckCases, length_bad, top_bad, cell_bad, sound, check_cases}
use Rattle.meaning.proofs.check.Checking.{check_sound, length_yes}
use Rattle.meaning.proofs.reach.Reaching.{live_le}
use Rattle.meaning.proofs.batch.Cases.{Cases, unsound, bad_calls, short_answers, run, cases}

module _ (F : ℕ) (ws : List ℕ) (top : ℕ) where
  pub check_most : (check F ws top).value ≤ limit
  check_most = go (check F ws top) (check_cases F ws top)
    where
      go : (v : Verdict) → CheckCases F ws top v → v.value ≤ limit
      go v (length_bad a) = omega arith
      go v (top_bad a b) = omega arith
      go v (cell_bad c a b l x y) = omega (arith, (length_yes F (length ws) a).small)
      go v (sound s) = omega arith

  -- what holds of both, where the store is sound and where it is not
  pub by_check : {A : Type 0} (P : A → Type 0) (x y : A) → (Sound F ws top → P x) → P y
      → P (if_sound (check F ws top) x y)
  by_check P x y h k = go (check F ws top).status refl
    where
      go : (s : ℕ) → (check F ws top).status ≡ s → P (on_zero s x y)
      go zero e = h (check_sound F ws top e)
      go (suc s) e = k

  collect_most : 0 < F → (collect_in F ws top).verdict.value ≤ limit
  unfolding collect_in
  collect_most p =
      by_check (λ (d : Done). d.verdict.value ≤ limit) _ _
      (λ s. omega (arith, live_le F ws top p s, s.high, s.allowed.small)) check_most

  batch_most : (calls out : List ℕ) → (batch F ws top calls out).verdict.value ≤ limit
  unfolding ended
  batch_most calls out = go (batch F ws top calls out) (cases F ws top calls out)
    where
      go : (r : Outcome) → Cases F ws top calls out r → r.verdict.value ≤ limit
      go r (unsound n) = check_most
      go r (bad_calls s e) = omega arith
      go r (short_answers s a h) = omega arith
      go r (run s a h) = omega arith

  pub check_fits : {v : Verdict} → v ≡ check F ws top → v.value ≤ limit
  check_fits e = rw e check_most

  pub collect_fits : 0 < F → {d : Done} → d ≡ collect_in F ws top → d.verdict.value ≤ limit
  collect_fits p e = rw e (collect_most p)

  pub batch_fits : (calls out : List ℕ) {o : Outcome} → o ≡ batch F ws top calls out → o.verdict.value ≤ limit
  batch_fits calls out e = rw e (batch_most calls out)
