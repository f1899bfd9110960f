-- Counts that are each at most n, as the definitions have it. Assumes nothing.
use mathlib.Core.Path.{◌≡◌, refl, ap}
use mathlib.Core.Bool.{Bool, ◌&&◌}
use mathlib.Core.List.{List, [], ◌∷◌}
use Prim.Native.Nat.{ℕ}
use lib.Dec.{leb}
use Rattle.std.specs.List.{list_all}
use Rattle.meaning.specs.Pieces.{each_within}

pub all_within : (n : ℕ) (xs : List ℕ) → list_all (λ (x : ℕ). leb x n) xs ≡ each_within n xs
all_within n [] = refl
all_within n (x ∷ xs) = ap (λ (t : Bool). leb x n && t) (all_within n xs)
