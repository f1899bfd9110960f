-- The claim that collecting's statement leaves no second outcome (SCOPE 8.5). Proved in
-- proofs/Final.antt.
-- Assumes nothing.
use Rattle.std.specs.Prelude.{◌≡◌, Result, List, ℕ}
use Rattle.store.specs.declared.Unsound.{Unsound}
use Rattle.collect.specs.Answers.{Collects}
use Rattle.collect.specs.declared.Collected.{Collected}

-- the answer and every word of the slice
abbrev pub OneCollect : Type 0
OneCollect =
    (ws : List ℕ) (top : ℕ) (r r' : Result Collected Unsound) (vs vs' : List ℕ)
    → Collects ws top r vs → Collects ws top r' vs' → (r ≡ r') × (vs ≡ vs')
