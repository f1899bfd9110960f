-- What holds of each cell of an expression as it is laid, in one store or in two side by side: of a code that is one,
-- and of a bracket on cells that are laid already. In order:
--   Coded                  the codes of an expression are codes
--   Each, each_append      a relation holds of two rows of cells, place by place, from cell c on
--   terms_le               an expression's own terms are no more than all
--   own_each, deep_each    it holds of the own terms, and of the contents of the brackets
--   laid_each              of all cells
-- Assumes nothing.
use mathlib.Core.Path.{◌≡◌}
use mathlib.Core.List.{List, [], ◌∷◌, ◌++◌}
use Prim.Native.Nat.{ℕ, suc, ◌+◌, ◌≤◌, ◌<◌}
use native.Mathlib.Nat.{add-zero, add-suc, suc-add}
use native.Mathlib.Omega.{arith}
use lib.ListN.{length}
use Rattle.meaning.specs.Expr.{Expr, nothing, symbol, parens, terms}
use Rattle.meaning.specs.Sound.{IsCode, Cell, code}
use Rattle.meaning.specs.Lay.{all_terms, last_below, own_cells, deep_cells, laid}
use Rattle.meaning.proofs.lay.Places.{deep_length, laid_length, after, after_parens}

-- the codes of an expression are codes
abbrev pub Coded : Expr → Type 0
Coded nothing = Unit {0}
Coded (symbol a r) = IsCode a × Coded r
Coded (parens i r) = Coded i × Coded r

-- R holds of two rows of cells, place by place; the first row's cells are c, c + 1 and so on
abbrev pub Each : (ℕ → Cell → Cell → Type 0) → ℕ → List Cell → List Cell → Type 0
Each R c [] [] = Unit {0}
Each R c [] (y ∷ ys) = ⊥
Each R c (x ∷ xs) [] = ⊥
Each R c (x ∷ xs) (y ∷ ys) = R c x y × Each R (suc c) xs ys

pub each_append : (R : ℕ → Cell → Cell → Type 0) (c : ℕ) (xs xs' ys ys' : List Cell) → Each R c xs xs'
    → Each R (c + length xs) ys ys' → Each R c (xs ++ ys) (xs' ++ ys')
each_append R c [] [] ys ys' h k = rw (add-zero c) at k
each_append R c [] (y ∷ xs') ys ys' h k = absurd h
each_append R c (x ∷ xs) [] ys ys' h k = absurd h
each_append R c (x ∷ xs) (y ∷ xs') ys ys' h k =
    (h.0, each_append R (suc c) xs xs' ys ys' h.1 (rw (add-suc c (length xs), ← suc-add c (length xs)) at k))

pub terms_le : (e : Expr) → terms e ≤ all_terms e
terms_le e = omega (arith, deep_length 0 e)

-- two rows of n cells, from `top` and from top' on
module _ (top top' n : ℕ) (R : ℕ → Cell → Cell → Type 0) (codes : (c a : ℕ) → IsCode a → R c (code a) (code a))
    (brackets : (x c c' k : ℕ) → top + k ≤ c → c + top' ≡ c' + top → c ≤ x → x < top + n
    → R x (last_below c k) (last_below c' k)) where
  -- the own terms, from x on
  own_each : (e : Expr) → Coded e → (x c c' : ℕ) → top ≤ c → c + top' ≡ c' + top → after c e ≤ x
      → x + terms e ≤ top + n → Each R x (own_cells c e) (own_cells c' e)
  own_each nothing q x c c' l m h k = tt
  own_each (symbol a r) q x c c' l m h k =
      (codes x a q.0, own_each r q.1 (suc x) c c' l m (omega arith) (omega arith))
  own_each (parens i r) q x c c' l m h k =
      let z = after_parens c i r in (
        brackets x (c + all_terms i) (c' + all_terms i) (terms i) (omega (arith, terms_le i)) (omega arith)
            (omega (arith, z)) (omega arith),
        own_each r q.1 (suc x) (c + all_terms i) (c' + all_terms i) (omega arith) (omega arith) (omega (arith, z))
            (omega arith),
      )

  own_behind : (e : Expr) → Coded e → (c c' : ℕ) → top ≤ c → c + top' ≡ c' + top → c + all_terms e ≤ top + n
      → Each R (after c e) (own_cells c e) (own_cells c' e)
  own_behind e q c c' l m h = own_each e q (after c e) c c' l m (omega arith) (omega (arith, deep_length c e))

  deep_each : (e : Expr) → Coded e → (c c' : ℕ) → top ≤ c → c + top' ≡ c' + top → c + all_terms e ≤ top + n
      → Each R c (deep_cells c e) (deep_cells c' e)
  deep_each nothing q c c' l m h = tt
  deep_each (symbol a r) q c c' l m h = deep_each r q.1 c c' l m (omega arith)
  deep_each (parens i r) q c c' l m h =
      each_append R c (laid c i) (laid c' i) (deep_cells (c + all_terms i) r) (deep_cells (c' + all_terms i) r)
      (each_append R c (deep_cells c i) (deep_cells c' i) (own_cells c i) (own_cells c' i)
      (deep_each i q.0 c c' l m (omega arith)) (own_behind i q.0 c c' l m (omega arith)))
      (rw (laid_length c i)
      (deep_each r q.1 (c + all_terms i) (c' + all_terms i) (omega arith) (omega arith) (omega arith)))

  pub laid_each : (e : Expr) → Coded e → (c c' : ℕ) → top ≤ c → c + top' ≡ c' + top → c + all_terms e ≤ top + n
      → Each R c (laid c e) (laid c' e)
  laid_each e q c c' l m h =
      each_append R c (deep_cells c e) (deep_cells c' e) (own_cells c e) (own_cells c' e) (deep_each e q c c' l m h)
      (own_behind e q c c' l m h)
