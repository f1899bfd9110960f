-- Bytes at the start of a lent space. Assumes nothing.
use Rattle.std.specs.Prelude.{◌≡◌, List, ◌++◌, ℕ, length, drop}

-- xs stands at the start of a space that was lent as l and is l' now, and is r bytes long; the rest is as it was lent
abbrev pub Front : List ℕ → List ℕ → List ℕ → ℕ → Type 0
Front l xs l' r = (r ≡ length xs) × (l' ≡ xs ++ drop r l)
