-- An expression laid in new cells, one a term (SCOPE 4.2, 5.8): the contents of its brackets first, left to right and
-- inward by the same rule, then its own terms side by side. No cell refers to an old one. Assumes nothing.
use Rattle.std.specs.Prelude.{List, [], ◌∷◌, ◌++◌, ℕ, zero, suc, ◌+◌, ◌-◌}
use Rattle.meaning.specs.Expr.{Expr, nothing, symbol, parens, terms}
use Rattle.meaning.specs.Sound.{Cell, code, empty, ends}
use Rattle.meaning.specs.Verdicts.{Done, done}
use Rattle.meaning.specs.Actions.{put}

-- the number of terms on all levels: each needs one cell
abbrev pub all_terms : Expr → ℕ
all_terms nothing = 0
all_terms (symbol a r) = suc (all_terms r)
all_terms (parens i r) = suc (all_terms i + all_terms r)

-- a bracket around the last n cells below cell c
abbrev pub last_below : ℕ → ℕ → Cell
last_below c zero = empty
last_below c (suc n) = ends (c - suc n) (c - 1)

-- an expression's own terms, where the contents of its brackets are laid from cell c on
abbrev pub own_cells : ℕ → Expr → List Cell
own_cells c nothing = []
own_cells c (symbol a r) = code a ∷ own_cells c r
own_cells c (parens i r) = last_below (c + all_terms i) (terms i) ∷ own_cells (c + all_terms i) r

-- the contents of its brackets, left to right and inward by the same rule
abbrev pub deep_cells : ℕ → Expr → List Cell
deep_cells c nothing = []
deep_cells c (symbol a r) = deep_cells c r
deep_cells c (parens i r) = (deep_cells c i ++ own_cells c i) ++ deep_cells (c + all_terms i) r

-- the contents first, then the own terms side by side
abbrev pub laid : ℕ → Expr → List Cell
laid c e = deep_cells c e ++ own_cells c e

-- cells put from c on
abbrev pub puts : List ℕ → ℕ → List Cell → List ℕ
puts ws c [] = ws
puts ws c (x ∷ xs) = puts (put ws c x) (suc c) xs

-- the action: new cells from `top` on, and register d last
unfoldable pub new_cells : ℕ → Expr → List ℕ → ℕ → Done
new_cells d e ws top =
    done (put (puts ws top (laid top e)) d (last_below (top + all_terms e) (terms e))) (top + all_terms e) 0
