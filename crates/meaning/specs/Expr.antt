-- Expressions: nothing, or a first term and the rest. A term is a symbol, by its code, or a pair of parentheses around
-- an expression. (First term and rest in one type, since a list of terms inside a term is not to be had.)
-- SCOPE 2.1. Assumes nothing.
use Rattle.std.specs.Prelude.{ℕ, zero, suc}

pub data Expr : Type 0 where
  nothing : Expr
  symbol : ℕ → Expr → Expr
  parens : Expr → Expr → Expr

-- the terms of the one, then those of the other
abbrev pub append : Expr → Expr → Expr
append nothing e = e
append (symbol s r) e = symbol s (append r e)
append (parens i r) e = parens i (append r e)

-- the number of top-level terms
abbrev pub terms : Expr → ℕ
terms nothing = zero
terms (symbol s r) = suc (terms r)
terms (parens i r) = suc (terms r)

-- the first term, as an expression of one term; nothing has none
abbrev pub first_term : Expr → Expr
first_term nothing = nothing
first_term (symbol s r) = symbol s nothing
first_term (parens i r) = parens i nothing

-- what is left without the first term
abbrev pub less_first : Expr → Expr
less_first nothing = nothing
less_first (symbol s r) = r
less_first (parens i r) = r

-- the contents of the first term, where that is a pair of parentheses
abbrev pub opened : Expr → Expr
opened nothing = nothing
opened (symbol s r) = nothing
opened (parens i r) = i

-- the code of the first term, where that is a symbol
abbrev pub first_code : Expr → ℕ
first_code nothing = zero
first_code (symbol s r) = s
first_code (parens i r) = zero
