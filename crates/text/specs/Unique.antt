-- The claim that printing's statement leaves no second outcome (SCOPE 8.5). Proved in proofs/Final.antt.
-- Assumes nothing.
use Rattle.std.specs.Prelude.{◌≡◌, List, ℕ, Result}
use Rattle.text.specs.Answers.{Prints}
use Rattle.text.specs.declared.NoText.{NoText}

-- the answer and every byte of the text space
abbrev pub OnePrint : Type 0
OnePrint =
    (ws : List ℕ) (top i : ℕ) (out : List ℕ) (r r' : Result ℕ NoText) (vs vs' : List ℕ)
    → Prints ws top i out r vs → Prints ws top i out r' vs' → (r ≡ r') × (vs ≡ vs')
