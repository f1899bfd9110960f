-- What the program writes for what it reads, byte for byte (SCOPE 6).
-- Assumes nothing.
use Rattle.std.specs.Prelude.{cond, ◌||◌, List, [], ◌∷◌, ◌++◌, ℕ, ◌-◌, ◌%◌, ltb, length, get_or, drop}
use Rattle.octets.specs.Little.{words_of}
use Rattle.octets.specs.Decimal.{decimal}
use Rattle.meaning.specs.Limits.{program_cells, program_bytes}
use Rattle.meaning.specs.Verdicts.{on_zero}
use Rattle.meaning.specs.Fresh.{fresh}
use Rattle.meaning.specs.Batch.{Ran, runs}

-- a line `status value` for each two answers
abbrev pub lines_of : List ℕ → List ℕ
lines_of [] = []
lines_of (s ∷ []) = []
lines_of (s ∷ v ∷ answers) = decimal s ++ (32 ∷ decimal v ++ (10 ∷ lines_of answers))

-- the lines, then `top N`
unfoldable pub written : Ran → List ℕ
written r = lines_of r.answers ++ (116 ∷ 111 ∷ 112 ∷ 32 ∷ decimal r.top ++ (10 ∷ []))

-- `refused N V`
unfoldable pub refusal : ℕ → ℕ → List ℕ
refusal s v = 114 ∷ 101 ∷ 102 ∷ 117 ∷ 115 ∷ 101 ∷ 100 ∷ 32 ∷ decimal s ++ (32 ∷ decimal v ++ (10 ∷ []))

-- a batch on a fresh store of `cells` cells
unfoldable pub output : ℕ → ℕ → List ℕ → List ℕ
output F cells calls = written (runs F (fresh F cells) F calls)

-- what is wrong with an input: 1 for its capacity, which is its first word, then 4 for its length, else 0
unfoldable pub input_fault : ℕ → List ℕ → ℕ
input_fault F input =
    let cells = get_or (words_of input) 0 0 in
    cond (ltb (length input) 4 || ltb cells F || ltb program_cells cells) 1
    (cond (ltb program_bytes (length input) || ltb 0 ((length input - 4) % 16)) 4 0)

-- the words after the capacity are the calls
unfoldable pub program : ℕ → List ℕ → List ℕ
program F input =
    on_zero (input_fault F input) (output F (get_or (words_of input) 0 0) (drop 1 (words_of input)))
    (refusal (input_fault F input) 0)
