-- The claims that the promises leave no second outcome (SCOPE 8.5): every field of the state and of the answer. Proved
-- in proofs/Final.antt. Assumes nothing.
use Rattle.std.specs.Prelude.{◌≡◌, List, ℕ}
use Rattle.pieces.specs.States.{Starts, Feeds, Ends}
use Rattle.pieces.specs.declared.Counted.{Counted}
use Rattle.pieces.specs.declared.Pieces.{Pieces}

abbrev pub OneStart : Type 0
OneStart = (r r' : Pieces) → Starts r → Starts r' → r ≡ r'

abbrev pub OneFeed : Type 0
OneFeed = (s : Pieces) (bs : List ℕ) (r r' : Pieces) → Feeds s bs r → Feeds s bs r' → r ≡ r'

abbrev pub OneEnd : Type 0
OneEnd = (s : Pieces) (r r' : Counted) → Ends s r → Ends s r' → r ≡ r'
