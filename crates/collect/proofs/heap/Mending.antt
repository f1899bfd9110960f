-- When a holder is mended, and what its two fields are then and before. In order:
--   mended_same, mended_off  one place down the chain, for a cell elsewhere in the order or with another right end
--   mended_yes, mended_no    the holder at that place itself
--   held_l_same .. held_r_no   its fields
-- Assumes nothing.
use mathlib.Core.Path.{◌≡◌, refl, sym}
use mathlib.Core.Logic.{◌≢◌}
use mathlib.Core.Bool.{Bool, true, false, cond}
use Prim.Native.Nat.{ℕ, suc, ◌-◌}
use native.Mathlib.Omega.{arith}
use lib.Dec.{leb}
use borrow.Author.Tests.{le-ltb, lt-leb, le-leb}
use Rattle.collect.specs.Cells.{val}
use Rattle.collect.specs.Heap.{Heap, pos, place, span}
use Rattle.collect.specs.Chain.{last, mended, held_l, held_r}
use Rattle.meaning.proofs.Counting.{leb_suc}

module _ (g : Heap) (j : ℕ) where
  pub mended_same : (x c : ℕ) → pos g c ≢ x → mended g j (suc x) c ≡ mended g j x c
  unfolding mended
  mended_same x c n = rw (leb_suc (pos g c) x n)

  -- only the holders of the cell whose turn it is are mended
  pub mended_off : (x c : ℕ) → pos g (g.ri c) ≢ j → mended g j (suc x) c ≡ mended g j x c
  unfolding mended
  mended_off x c n = go (leb (suc x) (pos g c)) (leb x (pos g c))
    where
      go : (a b : Bool) → cond a (leb (pos g (g.ri c)) j) (leb (suc (pos g (g.ri c))) j)
          ≡ cond b (leb (pos g (g.ri c)) j) (leb (suc (pos g (g.ri c))) j)
      go true true = refl
      go true false = sym (leb_suc j (pos g (g.ri c)) (λ e. n (sym e)))
      go false true = leb_suc j (pos g (g.ri c)) (λ e. n (sym e))
      go false false = refl

  pub mended_yes : (c : ℕ) → pos g (g.ri c) ≡ j → mended g j (pos g c) c ≡ true
  unfolding mended
  mended_yes c e = rw (le-leb (pos g c) (pos g c) (omega arith), le-leb (pos g (g.ri c)) j (omega arith))

  pub mended_no : (c : ℕ) → pos g (g.ri c) ≡ j → mended g j (suc (pos g c)) c ≡ false
  unfolding mended
  mended_no c e =
      rw (lt-leb (suc (pos g c)) (pos g c) (omega arith), le-ltb (pos g (g.ri c)) j (omega arith))

  pub held_l_same : (x c : ℕ) → mended g j (suc x) c ≡ mended g j x c → held_l g j (suc x) c ≡ held_l g j x c
  unfolding held_l
  held_l_same x c e = rw e

  pub held_r_same : (x c : ℕ) → mended g j (suc x) c ≡ mended g j x c → held_r g j (suc x) c ≡ held_r g j x c
  unfolding held_r
  held_r_same x c e = rw e

  pub held_l_yes : (x c : ℕ) → mended g j x c ≡ true → held_l g j x c ≡ val (place g (g.ri c) - span g c)
  unfolding held_l
  held_l_yes x c e = rw e

  pub held_l_no : (x c : ℕ) → mended g j x c ≡ false → held_l g j x c ≡ val (span g c)
  unfolding held_l
  held_l_no x c e = rw e

  pub held_r_yes : (x c : ℕ) → mended g j x c ≡ true → held_r g j x c ≡ val (place g (g.ri c))
  unfolding held_r
  held_r_yes x c e = rw e

  pub held_r_no : (x c : ℕ) → mended g j x c ≡ false → held_r g j x c ≡ last g (g.ri c) (pos g c)
  unfolding held_r
  held_r_no x c e = rw e
