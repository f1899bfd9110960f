-- What laying an expression needs and leaves. The expression is that whose text comes next in the bytes bs that are
-- left; its cells go to the free ones from `low` up to but not including `high`. Assumes nothing.
use Rattle.std.specs.Prelude.{◌≡◌, List, [], ◌∷◌, ◌++◌, ℕ, ◌+◌, ◌*◌, ◌≤◌, ◌<◌, length}
use Rattle.meaning.specs.Limits.{limit, depth_limit}
use Rattle.meaning.specs.Expr.{Expr, terms, first_term, less_first}
use Rattle.meaning.specs.Text.{text, Readable}
use Rattle.meaning.specs.Reader.{expression, reads, blank}
use Rattle.meaning.specs.Lay.{all_terms, own_cells, deep_cells, laid}
use Rattle.typing.specs.Cells.{LieFrom, LieBelow, Kept}
use Rattle.typing.specs.declared.laying.Laid.{Laid}

-- an expression ends at a closing bracket or at the end of the text
abbrev pub Ends : List ℕ → Type 0
Ends [] = Unit {0}
Ends (b ∷ bs) = b ≡ 41

-- the expression has at most `left` brackets within one another, and room for its cells
pub record Ready (ws bs : List ℕ) (low high left : ℕ) (e : Expr) (rest : List ℕ) : Type 0 where
  pub bytes : bs ≡ text e ++ rest
  pub over : Ends rest
  pub readable : Readable left e
  pub fits : low + all_terms e ≤ high
  pub room : 2 * high ≤ length ws
  pub small : high ≤ limit

-- the expression e is laid
pub record LaidAs (ws : List ℕ) (low high : ℕ) (e : Expr) (rest : List ℕ) (r : Laid) (ws' : List ℕ) : Type 0 where
  pub next : r.rest.now ≡ rest
  pub end : r.end ≡ low + all_terms e
  pub count : r.terms ≡ terms e
  pub cells : LieFrom ws' low (laid low e)
  pub kept : Kept ws low high ws'

-- its first term is laid: the contents of a bracket, and the term's own cell, which waits
pub record TermLaidAs (ws : List ℕ) (low high : ℕ) (e : Expr) (rest bs' : List ℕ) (end' : ℕ) (ws' : List ℕ)
    : Type 0 where
  pub next : bs' ≡ text (less_first e) ++ rest
  pub end : end' ≡ low + length (deep_cells low (first_term e))
  pub cells : LieFrom ws' low (deep_cells low (first_term e))
  pub waits : LieBelow ws' high (own_cells low (first_term e))
  pub kept : Kept ws low high ws'

-- the contracts: some expression is ready, and each that is comes to be laid
abbrev pub CanLay : List ℕ → List ℕ → ℕ → ℕ → ℕ → Type 0
CanLay ws bs low high left = (e : Expr) × (rest : List ℕ) × Ready ws bs low high left e rest

abbrev pub CanLayTerm : List ℕ → List ℕ → ℕ → ℕ → ℕ → Type 0
CanLayTerm ws bs low high left = (e : Expr) × (rest : List ℕ) × Ready ws bs low high left e rest × (0 < terms e)

abbrev pub IsLaid : List ℕ → List ℕ → ℕ → ℕ → ℕ → Laid → List ℕ → Type 0
IsLaid ws bs low high left r ws' =
    (e : Expr) (rest : List ℕ) → Ready ws bs low high left e rest → LaidAs ws low high e rest r ws'

-- with the bytes that are left then, and the cell after those that are laid
abbrev pub TermIsLaid : List ℕ → List ℕ → ℕ → ℕ → ℕ → List ℕ → ℕ → List ℕ → Type 0
TermIsLaid ws bs low high left bs' end' ws' =
    (e : Expr) (rest : List ℕ) → Ready ws bs low high left e rest → 0 < terms e
    → TermLaidAs ws low high e rest bs' end' ws'

-- what a text denotes
unfoldable pub expr_of : List ℕ → Expr
expr_of bs = expression (reads blank bs)

-- the text is whole, and its expression has n terms on all levels
pub record IsText (bs : List ℕ) (n : ℕ) : Type 0 where
  pub bytes : text (expr_of bs) ≡ bs
  pub readable : Readable depth_limit (expr_of bs)
  pub need : n ≡ all_terms (expr_of bs)
