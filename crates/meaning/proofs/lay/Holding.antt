-- Which cells the brackets of an expression hold as it is laid: cells of its own, and no cell is held by two. In order:
--   each_mono                            from one relation to a weaker one, place by place
--   holder                               the cell that holds another, by the regions in which brackets are laid
--   last_holds                           the bracket around an expression's own terms holds just these
--   Holds                                what a cell of an expression holds
--   own_holds, deep_holds, laid_holds    it is so of the own terms, of the contents of the brackets, and of all cells
-- Assumes nothing.
use mathlib.Core.Path.{◌≡◌, refl, sym, ◌∙◌}
use mathlib.Core.Bool.{cond}
use mathlib.Core.List.{List, [], ◌∷◌}
use Prim.Native.Nat.{ℕ, zero, suc, ◌+◌, ◌-◌, ◌≤◌, ◌<◌}
use native.Mathlib.Omega.{arith}
use lib.Dec.{ltb}
use borrow.Author.Tests.{lt-ltb, le-ltb}
use Rattle.meaning.specs.Expr.{Expr, nothing, symbol, parens, terms}
use Rattle.meaning.specs.Sound.{Cell}
use Rattle.meaning.specs.Reach.{Between}
use Rattle.meaning.specs.Lay.{all_terms, last_below, own_cells, deep_cells, laid}
use Rattle.meaning.proofs.lay.Places.{deep_length, laid_length, after, after_parens}
use Rattle.meaning.proofs.lay.Each.{Each, each_append}

each_mono : (R S : ℕ → Cell → Cell → Type 0) → ((y : ℕ) (b b' : Cell) → R y b b' → S y b b')
    → (c : ℕ) (xs ys : List Cell) → Each R c xs ys → Each S c xs ys
each_mono R S f c [] [] h = tt
each_mono R S f c [] (y ∷ ys) h = absurd h
each_mono R S f c (x ∷ xs) [] h = absurd h
each_mono R S f c (x ∷ xs) (y ∷ ys) h = (f c x y h.0, each_mono R S f (suc c) xs ys h.1)

-- ---- the cell that holds cell z

-- the own terms lie from x on, the contents of the brackets from c on
abbrev pub holder : ℕ → Expr → ℕ → ℕ → ℕ
holder c nothing x z = 0
holder c (symbol a r) x z = holder c r (suc x) z
holder c (parens i r) x z =
    cond (ltb z (c + all_terms i)) (cond (ltb z (after c i)) (holder c i (after c i) z) x)
    (holder (c + all_terms i) r (suc x) z)

module _ (c : ℕ) (i r : Expr) (x z : ℕ) where
  holder_inside : z < after c i → holder c (parens i r) x z ≡ holder c i (after c i) z
  holder_inside h =
      rw (lt-ltb z (c + all_terms i) (omega (arith, h, deep_length c i)), lt-ltb z (after c i) h) refl

  holder_here : after c i ≤ z → z < c + all_terms i → holder c (parens i r) x z ≡ x
  holder_here h k = rw (lt-ltb z (c + all_terms i) k, le-ltb z (after c i) h) refl

  holder_behind : c + all_terms i ≤ z → holder c (parens i r) x z ≡ holder (c + all_terms i) r (suc x) z
  holder_behind h = rw (le-ltb z (c + all_terms i) h) refl

-- ---- what a bracket holds

below_holds : (c n z : ℕ) → n ≤ c → Between (last_below c n) z → (c - n ≤ z) × (z < c)
below_holds c zero z l h = absurd h
below_holds c (suc n) z l h = (h.0, omega (arith, h.1, l))

pub last_holds : (c : ℕ) (e : Expr) (z : ℕ) → Between (last_below (c + all_terms e) (terms e)) z
    → (after c e ≤ z) × (z < c + all_terms e)
last_holds c e z h =
    let k = below_holds (c + all_terms e) (terms e) z (omega (arith, deep_length c e)) h in
    (omega (arith, k.0, deep_length c e), k.1)

abbrev pub Holds : ℕ → Expr → ℕ → ℕ → Cell → Cell → Type 0
Holds c e x y b b' = (z : ℕ) → Between b z → (c ≤ z) × (z < after c e) × (y ≡ holder c e x z)

-- in a bracket in front, and behind it
module _ (c : ℕ) (i r : Expr) (x : ℕ) where
  holds_inside : (y : ℕ) (b b' : Cell) → Holds c i (after c i) y b b' → Holds c (parens i r) x y b b'
  holds_inside y b b' q z h =
      let k = q z h in (
        k.0,
        omega (arith, k.1, deep_length c i, after_parens c i r),
        k.2 ∙ sym (holder_inside c i r x z k.1),
      )

  holds_behind : (y : ℕ) (b b' : Cell) → Holds (c + all_terms i) r (suc x) y b b' → Holds c (parens i r) x y b b'
  holds_behind y b b' q z h =
      let k = q z h in (
        omega (arith, k.0),
        omega (arith, k.1, after_parens c i r),
        k.2 ∙ sym (holder_behind c i r x z k.0),
      )

  holds_here : Holds c (parens i r) x x (last_below (c + all_terms i) (terms i))
      (last_below (c + all_terms i) (terms i))
  holds_here z h =
      let k = last_holds c i z h in (
        omega (arith, k.0),
        omega (arith, k.1, after_parens c i r),
        sym (holder_here c i r x z k.0 k.1),
      )

-- ---- all cells

own_holds : (e : Expr) (c x : ℕ) → Each (Holds c e x) x (own_cells c e) (own_cells c e)
own_holds nothing c x = tt
own_holds (symbol a r) c x = (λ z h. absurd h, own_holds r c (suc x))
own_holds (parens i r) c x =
    let c' = c + all_terms i in (
      holds_here c i r x,
      each_mono (Holds c' r (suc x)) (Holds c (parens i r) x) (holds_behind c i r x) (suc x) (own_cells c' r)
          (own_cells c' r) (own_holds r c' (suc x)),
    )

deep_holds : (e : Expr) (c x : ℕ) → Each (Holds c e x) c (deep_cells c e) (deep_cells c e)
deep_holds nothing c x = tt
deep_holds (symbol a r) c x = deep_holds r c (suc x)
deep_holds (parens i r) c x =
    let c' = c + all_terms i in
    let P : ℕ → Cell → Cell → Type 0 = Holds c (parens i r) x in
    let inner : Each (Holds c i (after c i)) c (laid c i) (laid c i) =
    each_append (Holds c i (after c i)) c (deep_cells c i) (deep_cells c i) (own_cells c i) (own_cells c i)
    (deep_holds i c (after c i)) (own_holds i c (after c i)) in
    each_append P c (laid c i) (laid c i) (deep_cells c' r) (deep_cells c' r)
    (each_mono (Holds c i (after c i)) P (holds_inside c i r x) c (laid c i) (laid c i) inner)
    (rw (laid_length c i)
    (each_mono (Holds c' r (suc x)) P (holds_behind c i r x) c' (deep_cells c' r) (deep_cells c' r)
    (deep_holds r c' (suc x))))

pub laid_holds : (e : Expr) (c : ℕ) → Each (Holds c e (after c e)) c (laid c e) (laid c e)
laid_holds e c =
    each_append (Holds c e (after c e)) c (deep_cells c e) (deep_cells c e) (own_cells c e) (own_cells c e)
    (deep_holds e c (after c e)) (own_holds e c (after c e))
