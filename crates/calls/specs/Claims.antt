-- What holds of every batch and is no function's promise. Assumes nothing.
use Rattle.std.specs.Prelude.{◌≡◌, List, ℕ, Result}
use Rattle.calls.specs.Answers.{Runs}
use Rattle.calls.specs.declared.NotRun.{NotRun}

-- no second outcome satisfies the promise of `run`: its answer, every word of the store and every answer word are
-- determined
abbrev pub OneOutcome : Type 0
OneOutcome =
    (ws : List ℕ) (top : ℕ) (calls out : List ℕ) (r r' : Result ℕ NotRun) (v v' a a' : List ℕ)
    → Runs ws top calls out r v a → Runs ws top calls out r' v' a' → (r ≡ r') × (v ≡ v') × (a ≡ a')
