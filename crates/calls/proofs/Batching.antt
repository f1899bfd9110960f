-- A batch by the tests that it passes, as the code makes them. Assumes nothing.
use mathlib.Core.Path.{◌≡◌, refl, ◌∙◌}
use mathlib.Core.Bool.{true}
use mathlib.Core.List.{List, ◌++◌}
use Prim.Native.Nat.{ℕ, ◌-◌, ◌*◌, ◌/◌, ◌≤◌}
use native.Mathlib.Omega.{arith}
use lib.ListN.{length, take, replicate}
use lib.Seq.{length-take-le}
use Rattle.meaning.specs.Limits.{first_heap_cell}
use Rattle.meaning.specs.Verdicts.{only}
use Rattle.meaning.specs.Batch.{runs, ended, calls_test, batch_of}
use Rattle.meaning.proofs.batch.Cases.{all_run}
use Rattle.calls.specs.Calling.{ran_to}

module _ (ws : List ℕ) (top : ℕ) (calls out : List ℕ) where
  -- all calls are run: their answers, and zeros after them
  pub filled : (out' : List ℕ) {t : ℕ} {ws' out'' : List ℕ} → calls_test (length calls) ≡ true
      → 2 * (length calls / 4) ≤ length out
      → runs first_heap_cell ws top calls ≡ ran_to t ws' (take (2 * (length calls / 4)) out') → length out' ≡ length out
      → out'' ≡ take (2 * (length calls / 4)) out' ++ replicate (length out' - 2 * (length calls / 4)) 0
      → batch_of first_heap_cell ws top calls out ≡ record { verdict = only 0; words = ws'; top = t; answers = out'' }
  unfolding ended
  filled out' e h r l z =
      let m = length-take-le (2 * (length calls / 4)) out' (omega arith) in
      all_run first_heap_cell ws top calls out e h ∙ rw (r, m, z, l) refl
