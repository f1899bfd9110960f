-- The table of kinds: no kind has more registers than the stores at hand, and what its rows say. Assumes nothing.
use mathlib.Core.Path.{◌≡◌, refl, sym}
use mathlib.Core.Bool.{Bool, true, not, ◌&&◌}
use mathlib.Core.List.{List, [], ◌∷◌}
use Prim.Native.Nat.{ℕ, zero, suc, ◌≤◌}
use native.Mathlib.Omega.{arith}
use lib.Dec.{leb, eqb}
use lib.ListN.{get_or}
use borrow.Author.Tests.{leb-true, ne_eqb}
use Rattle.meaning.specs.Limits.{first_heap_cell, kinds}
use Rattle.std.specs.Bool.{then_some}
use Rattle.meaning.specs.File.{first_of}
use Rattle.meaning.proofs.Counting.{both_true}
use Rattle.file.specs.Judged.{FirstOf}

abbrev all_up_to : ℕ → List ℕ → Bool
all_up_to m [] = true
all_up_to m (x ∷ xs) = leb x m && all_up_to m xs

each : (m : ℕ) (xs : List ℕ) (i : ℕ) → all_up_to m xs ≡ true → get_or xs i 0 ≤ m
each m [] i q = omega arith
each m (x ∷ xs) zero q = leb-true x m (both_true (leb x m) (all_up_to m xs) q).0
each m (x ∷ xs) (suc i) q = each m xs i (both_true (leb x m) (all_up_to m xs) q).1

pub kinds_low : (e : ℕ) → get_or kinds e 0 ≤ first_heap_cell
kinds_low e = each first_heap_cell kinds e refl

-- the first heap cell of an edition, from its row of the table
pub first_is : (e f : ℕ) → f ≡ get_or kinds e 0 → FirstOf e (then_some (not (eqb f 0)) f)
unfolding first_of
first_is e zero p = sym p
first_is e (suc f) p = rw (ne_eqb (suc f) 0 (λ q. omega arith)) (p, omega arith, omega (arith, kinds_low e))
