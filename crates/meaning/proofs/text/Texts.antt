-- Laws of the text of an expression. In order:
--   tail, tail_append        what stands behind a term: the text of the rest, with its space
--   text_append              an expression, and another behind it
--   gap_filled, gap_append   the space before an expression that is not empty
--   text_one, text_joined    a symbol;  two rows of terms
--   text_after, text_code    what is not empty behind any expression;  a symbol behind one
--   readable_append          two that may be read
--   term_of_filled            a cell's term is one term
-- Assumes nothing.
use mathlib.Core.Path.{◌≡◌, refl, sym, ap, ◌∙◌}
use mathlib.Core.List.{List, [], ◌∷◌, ◌++◌, append_assoc, append-nil}
use Prim.Native.Nat.{ℕ, zero, suc, ◌<◌}
use native.Mathlib.Omega.{arith}
use lib.ListN.{drop}
use Rattle.octets.specs.Decimal.{decimal}
use Rattle.meaning.specs.Expr.{Expr, nothing, symbol, parens, append, terms}
use Rattle.meaning.specs.Sound.{Cell, code, empty, ends}
use Rattle.meaning.specs.Meaning.{term_of}
use Rattle.meaning.specs.Text.{gap, text, Readable}

-- what stands behind a term
abbrev pub tail : Expr → List ℕ
tail e = gap e ++ text e

tail_append : (e f : Expr) → tail (append e f) ≡ tail e ++ tail f
tail_append nothing f = refl
tail_append (symbol a r) f =
    ap (λ (t : List ℕ). 32 ∷ (decimal a ++ t)) (tail_append r f)
    ∙ ap (λ (t : List ℕ). 32 ∷ t) (sym (append_assoc (decimal a) (tail r) (tail f)))
tail_append (parens i r) f =
    ap (λ (t : List ℕ). 32 ∷ 40 ∷ (text i ++ (41 ∷ t))) (tail_append r f)
    ∙ ap (λ (t : List ℕ). 32 ∷ 40 ∷ t) (sym (append_assoc (text i) (41 ∷ tail r) (tail f)))

-- an expression with a term in it, and another behind it: the same less the space before it
pub text_append : (e f : Expr) → 0 < terms e → text (append e f) ≡ text e ++ tail f
text_append nothing f h = absurd (omega arith)
text_append (symbol a r) f h = ap (drop 1) (tail_append (symbol a r) f)
text_append (parens i r) f h = ap (drop 1) (tail_append (parens i r) f)

pub gap_filled : (e : Expr) → 0 < terms e → gap e ≡ 32 ∷ []
gap_filled nothing h = absurd (omega arith)
gap_filled (symbol a r) h = refl
gap_filled (parens i r) h = refl

pub gap_append : (e f : Expr) → 0 < terms e → gap (append e f) ≡ 32 ∷ []
gap_append nothing f h = absurd (omega arith)
gap_append (symbol a r) f h = refl
gap_append (parens i r) f h = refl

pub text_one : (a : ℕ) → text (symbol a nothing) ≡ decimal a
text_one a = append-nil (decimal a)

pub text_joined : (e f : Expr) → 0 < terms e → 0 < terms f → text (append e f) ≡ text e ++ (32 ∷ text f)
text_joined e f h k = text_append e f h ∙ ap (λ (t : List ℕ). text e ++ (t ++ text f)) (gap_filled f k)

-- what is not empty, behind any expression
pub text_after : (e f : Expr) → 0 < terms f → text (append e f) ≡ text e ++ (gap e ++ text f)
text_after nothing f h = refl
text_after (symbol a r) f h = text_joined (symbol a r) f (omega arith) h
text_after (parens i r) f h = text_joined (parens i r) f (omega arith) h

pub text_code : (e : Expr) (a : ℕ) → text (append e (symbol a nothing)) ≡ text e ++ (gap e ++ decimal a)
text_code e a =
    text_after e (symbol a nothing) (omega arith) ∙ ap (λ (t : List ℕ). text e ++ (gap e ++ t)) (text_one a)

pub readable_append : (left : ℕ) (e f : Expr) → Readable left e → Readable left f → Readable left (append e f)
readable_append left nothing f p q = q
readable_append left (symbol a r) f p q = (p.0, readable_append left r f p.1 q)
readable_append zero (parens i r) f p q = absurd p
readable_append (suc left) (parens i r) f p q = (p.0, readable_append (suc left) r f p.1 q)

-- a cell's term is one term
pub term_of_filled : (t : ℕ → Expr) (k : Cell) → 0 < terms (term_of t k)
term_of_filled t (code a) = omega arith
term_of_filled t empty = omega arith
term_of_filled t (ends l r) = omega arith
