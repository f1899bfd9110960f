-- The numbers of the store. Each stands here once, and those that the code shares once more in src/lib.rt.
-- Assumes nothing.
use Rattle.std.specs.Prelude.{Bool, ◌&&◌, List, [], ◌∷◌, ℕ, leb}

-- the first heap cell: cells 0 to 15 are the registers
abbrev pub first_heap_cell : ℕ
first_heap_cell = 16

-- The greatest capacity of a store, in cells. `limit_fits` bounds it; length_ok, program_cells_lem and Worked unfold
-- it.
unfoldable pub limit : ℕ
limit = 4096

-- What a symbol's code may be: 1 to 268,435,455. `code_range` and `range_code` say it to proofs.
unfoldable pub code_test : ℕ → Bool
code_test a = leb 1 a && leb a 268435455

-- the most brackets that may be open at one place of a text
unfoldable pub depth_limit : ℕ
depth_limit = 64

-- The most terms that a text may have, on all levels. `limit_within` says that a store has no more cells.
unfoldable pub terms_limit : ℕ
terms_limit = 65536

-- the longest call list, in words
unfoldable pub calls_limit : ℕ
calls_limit = 4096

-- the program's own greatest capacity, in cells, and its longest input, in bytes
unfoldable pub program_cells : ℕ
program_cells = 4096

unfoldable pub program_bytes : ℕ
program_bytes = 16388

-- the kinds of file, a row for each edition from 0 on: the first heap cell of its stores, or 0 where there is no such
-- edition
abbrev pub kinds : List ℕ
kinds = 0 ∷ first_heap_cell ∷ []

-- the edition that is written
abbrev pub edition : ℕ
edition = 1
