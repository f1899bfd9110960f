-- A batch by its tests: each one that fails is one refusal, and past the last the calls run. In order:
--   calls_yes, yes_calls                the test of the call list passes exactly where its length is allowed
--   bad_calls, short_answers, all_run   in a sound store, by the tests after the check
--   batch_sound                         a batch in a sound store is what those tests say
--   Cases, cases                        the four cases of a batch, and that it is one of them
--   batch_run, batch_runs               the one that runs, from its tests, and from status 0
--   batch_answers, batch_top            with just room for the answers: they and `top` are those of the calls
-- Assumes nothing.
use mathlib.Core.Path.{◌≡◌, refl, sym, ap, ◌∙◌}
use mathlib.Core.Logic.{◌≢◌}
use mathlib.Core.Bool.{Bool, true, false, cond, false≢true}
use mathlib.Core.List.{List, append-nil}
use Prim.Native.Nat.{ℕ, zero, suc, ◌-◌, ◌*◌, ◌/◌, ◌%◌, ◌≤◌, ◌<◌}
use native.Mathlib.Omega.{arith}
use lib.Dec.{leb, eqb}
use lib.ListN.{length}
use borrow.Author.Tests.{leb-true, leb-false, le-leb, lt-leb, eqb-true}
use Rattle.meaning.specs.Limits.{calls_limit}
use Rattle.meaning.specs.Sound.{Sound}
use Rattle.meaning.specs.Verdicts.{only, on_zero}
use Rattle.meaning.specs.Check.{check}
use Rattle.meaning.specs.Batch.{Ran, Outcome, runs, as_lent, ended, AllowedCalls, calls_test, batch_of, batch}
use Rattle.meaning.proofs.check.Checking.{check_sound, sound_check}
use Rattle.meaning.proofs.batch.Batches.{runs_length}

-- ---- the call list

pub calls_yes : (n : ℕ) → calls_test n ≡ true → AllowedCalls n
unfolding calls_test
calls_yes n q = go (leb n calls_limit) refl q
  where
    go : (t : Bool) → leb n calls_limit ≡ t → cond t (eqb (n % 4) 0) false ≡ true → AllowedCalls n
    go true e r = record { short = leb-true n calls_limit e; whole = eqb-true (n % 4) 0 r }
    go false e r = absurd (false≢true r)

pub yes_calls : (n : ℕ) → AllowedCalls n → calls_test n ≡ true
unfolding calls_test
yes_calls n a = rw (le-leb n calls_limit a.short, a.whole) refl

module _ (F : ℕ) (ws : List ℕ) (top : ℕ) (calls out : List ℕ) where
  -- ---- in a sound store

  pub bad_calls_lem : calls_test (length calls) ≡ false → batch_of F ws top calls out ≡ as_lent (only 4) ws top out
  unfolding batch_of
  bad_calls_lem e = rw e refl

  pub short_answers_lem : calls_test (length calls) ≡ true → length out < 2 * (length calls / 4)
      → batch_of F ws top calls out ≡ as_lent (only 5) ws top out
  unfolding batch_of
  short_answers_lem e h = rw (e, lt-leb (2 * (length calls / 4)) (length out) h) refl

  pub all_run : calls_test (length calls) ≡ true → 2 * (length calls / 4) ≤ length out
      → batch_of F ws top calls out ≡ ended (runs F ws top calls) out
  unfolding batch_of
  all_run e h = rw (e, le-leb (2 * (length calls / 4)) (length out) h) refl

  pub batch_sound : Sound F ws top → batch F ws top calls out ≡ batch_of F ws top calls out
  unfolding batch
  batch_sound s = rw (sound_check F ws top s) refl

  -- ---- the cases

  pub data Cases : Outcome → Type 0 where
    unsound : (check F ws top).status ≢ 0 → Cases (as_lent (check F ws top) ws top out)
    bad_calls : Sound F ws top → calls_test (length calls) ≡ false → Cases (as_lent (only 4) ws top out)
    short_answers : Sound F ws top → AllowedCalls (length calls) → length out < 2 * (length calls / 4)
        → Cases (as_lent (only 5) ws top out)
    run : Sound F ws top → AllowedCalls (length calls) → 2 * (length calls / 4) ≤ length out
        → Cases (ended (runs F ws top calls) out)

  pub cases : Cases (batch F ws top calls out)
  unfolding batch batch_of
  cases = one (check F ws top).status refl
    where
      two : Sound F ws top → (t u : Bool) → calls_test (length calls) ≡ t
          → leb (2 * (length calls / 4)) (length out) ≡ u
          → Cases (cond t (cond u (ended (runs F ws top calls) out) (as_lent (only 5) ws top out))
          (as_lent (only 4) ws top out))
      two s false u e f = bad_calls s e
      two s true false e f =
          short_answers s (calls_yes (length calls) e) (leb-false (2 * (length calls / 4)) (length out) f)
      two s true true e f = run s (calls_yes (length calls) e) (leb-true (2 * (length calls / 4)) (length out) f)

      one : (n : ℕ) → (check F ws top).status ≡ n
          → Cases (on_zero n (batch_of F ws top calls out) (as_lent (check F ws top) ws top out))
      one zero e =
          two (check_sound F ws top e) (calls_test (length calls)) (leb (2 * (length calls / 4)) (length out)) refl refl
      one (suc n) e = unsound (λ z. omega arith)

  -- ---- the one that runs, from either side

  pub batch_run : Sound F ws top → AllowedCalls (length calls) → 2 * (length calls / 4) ≤ length out
      → batch F ws top calls out ≡ ended (runs F ws top calls) out
  batch_run s a h = rw (batch_sound s, all_run (yes_calls (length calls) a) h) refl

  pub batch_runs : (batch F ws top calls out).verdict.status ≡ 0
      → Sound F ws top × AllowedCalls (length calls) × (batch F ws top calls out ≡ ended (runs F ws top calls) out)
  unfolding ended
  batch_runs q = go (batch F ws top calls out) cases refl q
    where
      go : (r : Outcome) → Cases r → batch F ws top calls out ≡ r → r.verdict.status ≡ 0
          → Sound F ws top × AllowedCalls (length calls)
          × (batch F ws top calls out ≡ ended (runs F ws top calls) out)
      go r (unsound n) e z = absurd (n z)
      go r (bad_calls s b) e z = absurd (omega arith)
      go r (short_answers s a h) e z = absurd (omega arith)
      go r (run s a h) e z = (s, a, e)

-- ---- with just room for the answers

ended_answers : (r : Ran) (out : List ℕ) → length out ≡ length r.answers → (ended r out).answers ≡ r.answers
unfolding ended
ended_answers r out e =
    let z : length out - length r.answers ≡ 0 = omega arith in
    rw z (append-nil r.answers)

module _ (F : ℕ) (ws : List ℕ) (top : ℕ) (calls out : List ℕ) (s : Sound F ws top)
    (list : AllowedCalls (length calls)) (space : length out ≡ 2 * (length calls / 4)) where
  pub batch_answers : (batch F ws top calls out).answers ≡ (runs F ws top calls).answers
  batch_answers =
      ap (λ (o : Outcome). o.answers) (batch_run F ws top calls out s list (omega arith))
      ∙ ended_answers (runs F ws top calls) out (space ∙ sym (runs_length F ws top calls))

  pub batch_top : (batch F ws top calls out).top ≡ (runs F ws top calls).top
  unfolding ended
  batch_top = ap (λ (o : Outcome). o.top) (batch_run F ws top calls out s list (omega arith))
