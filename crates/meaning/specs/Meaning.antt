-- The expression that a register denotes (SCOPE 2.2).
-- Assumes nothing.
use Rattle.std.specs.Prelude.{List, ℕ, zero, suc, ◌-◌, length}
use Rattle.meaning.specs.Expr.{Expr, nothing, symbol, parens, append}
use Rattle.meaning.specs.Sound.{Cell, code, empty, ends, at}

-- the terms of n cells from l on, in order; `t` has each cell's term, as an expression of one term
abbrev pub run : (ℕ → Expr) → ℕ → ℕ → Expr
run t l zero = nothing
run t l (suc n) = append (t l) (run t (suc l) n)

-- the expression inside a bracket: the terms of cells l to r
abbrev pub inside : (ℕ → Expr) → Cell → Expr
inside t (code a) = nothing
inside t empty = nothing
inside t (ends l r) = run t l (suc r - l)

-- A symbol cell denotes its code, a bracket a pair of parentheses around the terms of its cells.
abbrev pub term_of : (ℕ → Expr) → Cell → Expr
term_of t (code a) = symbol a nothing
term_of t empty = parens nothing nothing
term_of t (ends l r) = parens (run t l (suc r - l)) nothing

-- The term of a cell, through at most n brackets. References point down, so in a sound store no more than c brackets
-- lie within one another in cell c, and n makes no difference from c + 1 on (`term_depth`).
abbrev pub term : (ℕ → Cell) → ℕ → ℕ → Expr
term k zero c = nothing
term k (suc n) c = term_of (term k n) (k c)

-- the term of a store's cell
abbrev pub term_at : List ℕ → ℕ → Expr
term_at ws = term (at ws) (length ws)

-- register i denotes the expression inside its parentheses
unfoldable pub meaning : List ℕ → ℕ → Expr
meaning ws i = inside (term_at ws) (at ws i)
