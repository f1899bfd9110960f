-- The claims that no statement leaves a second outcome (SCOPE 8.5). Proved in proofs/Final.antt. Assumes nothing.
use Rattle.std.specs.Prelude.{◌≡◌, List, ℕ, Result}
use Rattle.file.specs.Answers.{Loads, Saves}
use Rattle.file.specs.declared.NotLoaded.{NotLoaded}
use Rattle.file.specs.declared.NotSaved.{NotSaved}
use Rattle.file.specs.declared.Saved.{Saved}

-- the answer and every word of the slice
abbrev pub OneLoad : Type 0
OneLoad =
    (bs ws : List ℕ) (r r' : Result ℕ NotLoaded) (vs vs' : List ℕ) → Loads bs ws r vs → Loads bs ws r' vs'
    → (r ≡ r') × (vs ≡ vs')

-- the answer, every word of the store and every byte of the space
abbrev pub OneSave : Type 0
OneSave =
    (ws : List ℕ) (top : ℕ) (out : List ℕ) (r r' : Result Saved NotSaved) (vs vs' ss ss' : List ℕ)
    → Saves ws top out r vs ss → Saves ws top out r' vs' ss' → (r ≡ r') × (vs ≡ vs') × (ss ≡ ss')
