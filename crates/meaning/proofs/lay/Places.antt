-- Where the cells of an expression are laid, as terms are added to it. In order:
--   own_length, deep_length, laid_length   how many cells its own terms take, the contents of its brackets, and all
--   all_terms_append                        the terms on all levels of two expressions side by side
--   after, after_parens                    where the contents of a further bracket begin;  past a bracket in front
--   own_append, deep_append                the cells of two side by side
-- Assumes nothing.
use mathlib.Core.Path.{◌≡◌, refl, sym, ap, ◌∙◌}
use mathlib.Core.List.{List, ◌∷◌, ◌++◌, append_assoc}
use Prim.Native.Nat.{ℕ, suc, ◌+◌}
use native.Mathlib.Omega.{arith}
use lib.ListN.{length, length-append}
use Rattle.meaning.specs.Expr.{Expr, nothing, symbol, parens, append, terms}
use Rattle.meaning.specs.Sound.{Cell, code}
use Rattle.meaning.specs.Lay.{all_terms, last_below, own_cells, deep_cells, laid}

pub own_length : (c : ℕ) (e : Expr) → length (own_cells c e) ≡ terms e
own_length c nothing = refl
own_length c (symbol a r) = ap suc (own_length c r)
own_length c (parens i r) = ap suc (own_length (c + all_terms i) r)

-- the contents of the brackets take as many cells as there are terms that are not the expression's own
pub deep_length : (c : ℕ) (e : Expr) → length (deep_cells c e) + terms e ≡ all_terms e
deep_length c nothing = refl
deep_length c (symbol a r) = omega (arith, deep_length c r)
deep_length c (parens i r) =
    omega (
      arith,
      deep_length c i,
      deep_length (c + all_terms i) r,
      own_length c i,
      length-append (deep_cells c i) (own_cells c i),
      length-append (deep_cells c i ++ own_cells c i) (deep_cells (c + all_terms i) r),
    )

pub laid_length : (c : ℕ) (e : Expr) → length (laid c e) ≡ all_terms e
laid_length c e = omega (arith, deep_length c e, own_length c e, length-append (deep_cells c e) (own_cells c e))

pub all_terms_append : (e f : Expr) → all_terms (append e f) ≡ all_terms e + all_terms f
all_terms_append nothing f = omega arith
all_terms_append (symbol a r) f = omega (arith, all_terms_append r f)
all_terms_append (parens i r) f = omega (arith, all_terms_append r f)

-- where the contents of a further bracket begin
abbrev pub after : ℕ → Expr → ℕ
after c e = c + length (deep_cells c e)

pub after_parens : (c : ℕ) (i r : Expr) → after c (parens i r) ≡ after (c + all_terms i) r
after_parens c i r =
    omega (arith, laid_length c i, length-append (laid c i) (deep_cells (c + all_terms i) r))

pub own_append : (c : ℕ) (e f : Expr) → own_cells c (append e f) ≡ own_cells c e ++ own_cells (after c e) f
own_append c nothing f = let z : c + 0 ≡ c = omega arith in rw z refl
own_append c (symbol a r) f = ap (λ (l : List Cell). code a ∷ l) (own_append c r f)
own_append c (parens i r) f =
    ap (λ (l : List Cell). last_below (c + all_terms i) (terms i) ∷ l)
    (own_append (c + all_terms i) r f
    ∙ ap (λ (n : ℕ). own_cells (c + all_terms i) r ++ own_cells n f) (sym (after_parens c i r)))

pub deep_append : (c : ℕ) (e f : Expr) → deep_cells c (append e f) ≡ deep_cells c e ++ deep_cells (after c e) f
deep_append c nothing f = let z : c + 0 ≡ c = omega arith in rw z refl
deep_append c (symbol a r) f = deep_append c r f
deep_append c (parens i r) f =
    ap (λ (l : List Cell). laid c i ++ l)
    (deep_append (c + all_terms i) r f
    ∙ ap (λ (n : ℕ). deep_cells (c + all_terms i) r ++ deep_cells n f) (sym (after_parens c i r)))
    ∙ sym (append_assoc (laid c i) (deep_cells (c + all_terms i) r) (deep_cells (after c (parens i r)) f))
