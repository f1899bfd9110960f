-- The program: what it writes for what it reads (SCOPE 6). Which input is refused with 1 and
-- which with 4, in that order; for any other the lines of its batch, and `top`. An input is a list of bytes. In order:
--   CapacityRule, BytesRule   what an input has to be
--   batch_in                   the batch that it stands for
--   lines_for, top_line         what is written of that batch
--   ProgramWrites             what is written for every input
--   ProgramReads              how much of an input counts
-- That the running program reads and writes these bytes no statement of Rattle says: docs/GAPS.md.
-- Assumes nothing.
use Rattle.std.specs.Prelude.{◌≡◌, List, [], ◌∷◌, ◌++◌, ℕ, ◌+◌, ◌-◌, ◌*◌, ◌/◌, ◌%◌, ◌≤◌, length, get_or, take, drop}
use Rattle.std.specs.Prelude.{replicate}
use Rattle.octets.specs.Little.{words_of}
use Rattle.octets.specs.Decimal.{decimal}
use Rattle.meaning.specs.Limits.{program_cells, program_bytes}
use Rattle.meaning.specs.Verdicts.{Verdict, only}
use Rattle.meaning.specs.Fresh.{fresh}
use Rattle.meaning.specs.Batch.{Outcome, batch}
use Rattle.meaning.specs.Program.{program}
use Rattle.promises.specs.Table.{Not}
use Rattle.promises.specs.Requests.{verdicts}

-- ---- what an input has to be

-- "a little-endian word for the capacity": the first four bytes, the lowest first
abbrev pub capacity_in : List ℕ → ℕ
capacity_in input = get_or input 0 0 + 256 * get_or input 1 0 + 65536 * get_or input 2 0 + 16777216 * get_or input 3 0

-- else refused with 1: "under 4 bytes or a bad capacity"
abbrev pub CapacityRule : ℕ → List ℕ → Type 0
CapacityRule F input = (4 ≤ length input) × (F ≤ capacity_in input) × (capacity_in input ≤ program_cells)

-- else refused with 4: "over 16,388 bytes or a broken call"; a call has 16 bytes
abbrev pub BytesRule : List ℕ → Type 0
BytesRule input = (length input ≤ program_bytes) × ((length input - 4) % 16 ≡ 0)

-- ---- the batch that it stands for

-- "then calls of 16 bytes": the words of the bytes after the capacity
abbrev pub calls_in : List ℕ → List ℕ
calls_in input = words_of (drop 4 input)

-- "makes a fresh store of that capacity, runs the batch": with two answer words a call
abbrev pub batch_in : ℕ → List ℕ → Outcome
batch_in F input =
    batch F (fresh F (capacity_in input)) F (calls_in input) (replicate (2 * (length (calls_in input) / 4)) 0)

-- ---- what is written

-- the lines `refused 1 0` and `refused 4 0`
abbrev pub refused_one : List ℕ
refused_one = 114 ∷ 101 ∷ 102 ∷ 117 ∷ 115 ∷ 101 ∷ 100 ∷ 32 ∷ 49 ∷ 32 ∷ 48 ∷ 10 ∷ []

abbrev pub refused_four : List ℕ
refused_four = 114 ∷ 101 ∷ 102 ∷ 117 ∷ 115 ∷ 101 ∷ 100 ∷ 32 ∷ 52 ∷ 32 ∷ 48 ∷ 10 ∷ []

-- "one line `status value` a call": in decimal, a space between them, and the line's end
abbrev pub lines_for : List Verdict → List ℕ
lines_for [] = []
lines_for (v ∷ vs) = decimal v.status ++ (32 ∷ decimal v.value ++ (10 ∷ lines_for vs))

-- "then `top N`"
abbrev pub top_line : ℕ → List ℕ
top_line n = 116 ∷ 111 ∷ 112 ∷ 32 ∷ decimal n ++ (10 ∷ [])

-- what is written of a batch: it is run to its end, and has an answer for each 16 bytes after the capacity
pub record BatchWritten (F : ℕ) (input output : List ℕ) : Type 0 where
  pub ended : (batch_in F input).verdict ≡ only 0
  pub many : 16 * length (verdicts (batch_in F input).answers) ≡ length input - 4
  pub lines : output ≡ lines_for (verdicts (batch_in F input).answers) ++ top_line (batch_in F input).top

-- 1 before 4, and a refused batch writes that line only
pub record ProgramTable (F : ℕ) (input output : List ℕ) : Type 0 where
  pub one : Not (CapacityRule F input) → output ≡ refused_one
  pub four : CapacityRule F input → Not (BytesRule input) → output ≡ refused_four
  pub runs : CapacityRule F input → BytesRule input → BatchWritten F input output

abbrev pub ProgramWrites : Type 0
ProgramWrites = (F : ℕ) (input : List ℕ) → ProgramTable F input (program F input)

-- ---- how much of an input counts: one byte more than the longest

abbrev pub ProgramReads : Type 0
ProgramReads = (F : ℕ) (input : List ℕ) → program F (take (program_bytes + 1) input) ≡ program F input
