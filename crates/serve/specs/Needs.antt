-- What the functions that run a batch ask of what is lent to them. Assumes nothing.
use Rattle.std.specs.Prelude.{◌≡◌, List, ℕ, ◌+◌, ◌-◌, ◌*◌, ◌/◌, ◌%◌, ◌≤◌, length}
use Rattle.meaning.specs.Limits.{first_heap_cell, program_cells, program_bytes}
use Rattle.meaning.specs.Sound.{Allowed}
use Rattle.meaning.specs.Batch.{AllowedCalls}

-- the answers to the longest input, two a call
abbrev pub program_answers : ℕ
program_answers = (program_bytes - 4) / 8

-- room for every output: eleven bytes an answer, and the last line
abbrev pub output_room : ℕ
output_room = 11 * program_answers + 25

-- neither the store nor the batch is refused, and the answers fill their space
pub record BatchFits (ws calls answers : List ℕ) : Type 0 where
  pub store : Allowed first_heap_cell (length ws)
  pub list : AllowedCalls (length calls)
  pub space : length answers ≡ 2 * (length calls / 4)

-- a capacity, a call list and room for the output
pub record CallsFit (cells : ℕ) (calls : List ℕ) (room : ℕ) : Type 0 where
  pub low : first_heap_cell ≤ cells
  pub high : cells ≤ program_cells
  pub list : AllowedCalls (length calls)
  pub fits : output_room ≤ room

-- a capacity, the length of an input of whole calls, and room for the output
pub record InputFits (cells bytes room : ℕ) : Type 0 where
  pub low : first_heap_cell ≤ cells
  pub high : cells ≤ program_cells
  pub some : 4 ≤ bytes
  pub most : bytes ≤ program_bytes
  pub whole : (bytes - 4) % 16 ≡ 0
  pub fits : output_room ≤ room
