-- The two words of a cell of a store, read and replaced. Cell c is words 2c and 2c + 1 (SCOPE 1.1).
-- Assumes nothing.
use Rattle.std.specs.Prelude.{List, ℕ, ◌+◌, ◌*◌, get_or, set}

-- its first word, li (SCOPE 1.2)
abbrev pub first_word : List ℕ → ℕ → ℕ
first_word ws c = get_or ws (2 * c) 0

-- its second word, with the fields br, used, lc, rc and ri
abbrev pub second_word : List ℕ → ℕ → ℕ
second_word ws c = get_or ws (2 * c + 1) 0

-- the store with the words of cell c replaced by a and b
abbrev pub put_cell : List ℕ → ℕ → ℕ → ℕ → List ℕ
put_cell ws c a b = set (set ws (2 * c) a) (2 * c + 1) b
