-- The claim that typing's statement leaves no second outcome (SCOPE 8.5). Proved in proofs/Final.antt.
-- Assumes nothing.
use Rattle.std.specs.Prelude.{◌≡◌, List, ℕ, Result}
use Rattle.typing.specs.Answers.{Types}
use Rattle.typing.specs.declared.NotTyped.{NotTyped}

-- the answer and every word of the store
abbrev pub OneType : Type 0
OneType =
    (ws : List ℕ) (top d : ℕ) (bs : List ℕ) (r r' : Result ℕ NotTyped) (vs vs' : List ℕ)
    → Types ws top d bs r vs → Types ws top d bs r' vs' → (r ≡ r') × (vs ≡ vs')
