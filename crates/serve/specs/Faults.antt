-- What the tests of an input say. Assumes nothing.
use Rattle.std.specs.Prelude.{◌≡◌, List, ℕ, Result, Ok, Err, get_or}
use Rattle.octets.specs.Little.{words_of}
use Rattle.meaning.specs.Limits.{first_heap_cell}
use Rattle.meaning.specs.Program.{input_fault}
use Rattle.serve.specs.declared.Fault.{Fault}
use Rattle.serve.specs.declared.Fault.TheVariants.{Capacity, Length}

-- the number of a refusal
abbrev pub fault_number : Fault → ℕ
fault_number Capacity = 1
fault_number Length = 4

-- an answer to an input: its capacity where nothing is wrong with it, or what is wrong
abbrev pub Tested : List ℕ → Result ℕ Fault → Type 0
Tested input (Ok cells) = (input_fault first_heap_cell input ≡ 0) × (cells ≡ get_or (words_of input) 0 0)
Tested input (Err fault) = input_fault first_heap_cell input ≡ fault_number fault
