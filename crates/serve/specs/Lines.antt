-- The last line of the output by itself. Assumes nothing.
use Rattle.std.specs.Prelude.{List, [], ℕ}
use Rattle.meaning.specs.Program.{written}

-- `top N`: what is written where there are no answers
abbrev pub top_line : ℕ → List ℕ
top_line n = written (record { words = []; top = n; answers = [] })
