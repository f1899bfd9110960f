-- What a pass of the check says of the cells that it went over.
-- Assumes nothing.
use Rattle.std.specs.Prelude.{◌≡◌, Bool, true, List, ℕ, ◌≤◌, ◌<◌}
use Rattle.meaning.specs.Sound.{CellRule}

-- a pass over the cells from `low` up to `high`, whose test of c may answer what `tests c` says: where its answer r is
-- true, each passed
abbrev pub Tested : (ℕ → Bool → Type 0) → ℕ → ℕ → Bool → Type 0
Tested tests low high r = r ≡ true → (c : ℕ) → low ≤ c → c < high → tests c true

-- the cells from `low` up to `high` keep their rules where the answer r is true; where it is not, it does not say which
-- fails
abbrev pub Passed : ℕ → List ℕ → ℕ → ℕ → ℕ → Bool → Type 0
Passed F ws top low high r = r ≡ true → (c : ℕ) → low ≤ c → c < high → CellRule F ws top c
