-- A collection that is wanted only where it frees enough cells, as the code goes about it. In order:
--   low_top            the collected store's `top` is no greater than `top`
--   at_once            where one cell is enough the store may be collected untried: with none to free it stays as it is
-- Assumes nothing.
use mathlib.Core.Path.{◌≡◌, refl, ◌∙◌}
use mathlib.Core.Bool.{Bool, true, false, cond}
use mathlib.Core.List.{List}
use Prim.Native.Nat.{ℕ, ◌-◌, ◌≤◌}
use native.Mathlib.Omega.{arith}
use lib.Dec.{ltb}
use borrow.Author.Tests.{ltb-true}
use Rattle.meaning.specs.Limits.{first_heap_cell}
use Rattle.meaning.specs.Sound.{Sound}
use Rattle.meaning.specs.Collected.{collected, collected_top}
use Rattle.meaning.proofs.reach.Reaching.{live_le}
use Rattle.meaning.proofs.collected.Whole.{collected_whole}

module _ (ws : List ℕ) (top wanted : ℕ) (s : Sound first_heap_cell ws top) where
  pub low_top : collected_top first_heap_cell ws top ≤ top
  low_top = live_le first_heap_cell ws top (omega arith) s

  -- the words that are left where the collected store's `top` is r
  abbrev left : ℕ → List ℕ
  left r = cond (ltb (top - r) wanted) ws (collected first_heap_cell ws top)

  pub at_once : {v : List ℕ} (r : ℕ) → r ≡ collected_top first_heap_cell ws top → wanted ≤ 1
      → v ≡ collected first_heap_cell ws top → v ≡ left r
  at_once r f h e = e ∙ go (ltb (top - r) wanted) refl
    where
      go : (t : Bool) → ltb (top - r) wanted ≡ t
          → collected first_heap_cell ws top ≡ cond t ws (collected first_heap_cell ws top)
      go true q =
          collected_whole first_heap_cell ws top (omega arith) s
          (omega (arith, f, low_top, ltb-true (top - r) wanted q))
      go false q = refl
