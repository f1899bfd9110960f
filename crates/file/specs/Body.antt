-- The store in a file, from its body, the bytes from the first heap cell on: f is that cell, n is the number of its
-- heap cells. Assumes nothing.
use Rattle.std.specs.Prelude.{◌≡◌, List, ℕ, ◌+◌, ◌≤◌, length}
use Rattle.octets.specs.Little.{words_of}
use Rattle.meaning.specs.Limits.{limit}
use Rattle.meaning.specs.File.{distance_for, cells_in}

-- its occupied cells
abbrev pub store_in : ℕ → ℕ → List ℕ → List ℕ
store_in f n body = cells_in f n (words_of body)

-- no byte is missing, none stands before the first heap cell, and a store may have so many cells
pub record Whole (f n : ℕ) (body : List ℕ) : Type 0 where
  pub long : length body ≡ distance_for f n
  pub few : f + n ≤ limit
