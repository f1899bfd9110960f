-- The numbers of a call: which statuses its own words, its operand and the room can give, and the first that applies.
-- Assumes nothing.
use mathlib.Core.Path.{refl}
use mathlib.Core.Logic.{inl, inr}
use mathlib.Core.Bool.{Bool, true, false, cond}
use mathlib.Core.List.{List, [], ◌∷◌}
use Prim.Native.Nat.{ℕ}
use Rattle.meaning.specs.Expr.{Expr, nothing, symbol, parens}
use Rattle.meaning.specs.Operands.{Op, CLEAR, COPY, SYMBOL, WRAP, JOIN, HEAD, REST, OPEN, LENGTH, FIRST, LIVE, COLLECT}
use Rattle.meaning.specs.Effect.{Facts, does, on_empty, on_open, on_first, or_else}
use Rattle.promises.specs.Table.{OneOf}
use Rattle.promises.specs.OwnWords.{OwnFault, no_operation, no_register, stray, no_code, no_fault}

pub own_number : {F o d a b f : ℕ} → OwnFault F o d a b f → OneOf f (0 ∷ 10 ∷ 11 ∷ 12 ∷ 13 ∷ [])
own_number (no_operation h) = inr (inl refl)
own_number (no_register h x) = inr (inr (inl refl))
own_number (stray h x y) = inr (inr (inr (inl refl)))
own_number (no_code h x y w) = inr (inr (inr (inr (inl refl))))
own_number (no_fault h x y w) = inl refl

empty_number : (e : Expr) → OneOf (on_empty e) (0 ∷ 14 ∷ 15 ∷ [])
empty_number nothing = inr (inl refl)
empty_number (symbol s r) = inl refl
empty_number (parens i r) = inl refl

open_number : (e : Expr) → OneOf (on_open e) (0 ∷ 14 ∷ 15 ∷ [])
open_number nothing = inr (inl refl)
open_number (symbol s r) = inr (inr (inl refl))
open_number (parens i r) = inl refl

first_number : (e : Expr) → OneOf (on_first e) (0 ∷ 14 ∷ 15 ∷ [])
first_number nothing = inr (inl refl)
first_number (symbol s r) = inl refl
first_number (parens i r) = inr (inr (inl refl))

pub unfit_number : (o : Op) (e : ℕ → Expr) (fs : Facts) (d a b : ℕ)
    → OneOf (does o e fs d a b).unfit (0 ∷ 14 ∷ 15 ∷ [])
unfit_number CLEAR e fs d a b = inl refl
unfit_number COPY e fs d a b = inl refl
unfit_number SYMBOL e fs d a b = inl refl
unfit_number WRAP e fs d a b = inl refl
unfit_number JOIN e fs d a b = inl refl
unfit_number HEAD e fs d a b = empty_number (e a)
unfit_number REST e fs d a b = empty_number (e a)
unfit_number OPEN e fs d a b = open_number (e a)
unfit_number LENGTH e fs d a b = inl refl
unfit_number FIRST e fs d a b = first_number (e a)
unfit_number LIVE e fs d a b = inl refl
unfit_number COLLECT e fs d a b = inl refl

abbrev statuses : List ℕ
statuses = 0 ∷ 10 ∷ 11 ∷ 12 ∷ 13 ∷ 14 ∷ 15 ∷ 16 ∷ []

pub first_of_lem : (f u : ℕ) (t : Bool) → OneOf f (0 ∷ 10 ∷ 11 ∷ 12 ∷ 13 ∷ []) → OneOf u (0 ∷ 14 ∷ 15 ∷ [])
    → OneOf (or_else f (or_else u (cond t 16 0))) statuses
first_of_lem f u true (inl e) (inl g) = rw (e, g) (inr (inr (inr (inr (inr (inr (inr (inl refl))))))))
first_of_lem f u false (inl e) (inl g) = rw (e, g) (inl refl)
first_of_lem f u t (inl e) (inr (inl g)) = rw (e, g) (inr (inr (inr (inr (inr (inl refl))))))
first_of_lem f u t (inl e) (inr (inr (inl g))) = rw (e, g) (inr (inr (inr (inr (inr (inr (inl refl)))))))
first_of_lem f u t (inl e) (inr (inr (inr g))) = absurd g
first_of_lem f u t (inr (inl e)) k = rw e (inr (inl refl))
first_of_lem f u t (inr (inr (inl e))) k = rw e (inr (inr (inl refl)))
first_of_lem f u t (inr (inr (inr (inl e)))) k = rw e (inr (inr (inr (inl refl))))
first_of_lem f u t (inr (inr (inr (inr (inl e))))) k = rw e (inr (inr (inr (inr (inl refl)))))
first_of_lem f u t (inr (inr (inr (inr (inr e))))) k = absurd e
