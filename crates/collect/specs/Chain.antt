-- The cells in closed form while the sweep links and mends them (SCOPE 3.4). The chain of k starts in k's left
-- field, runs through the right fields of k's holders, from the last linked to the first, and ends in k's own left end
-- or code. In order:
--   last       the chain of a cell, from its head;  mended  whether a holder is off its chain
--   sweep_cell  a cell after j turns;  SweptTo  all of them;  Known  what the sweep knows of them
--   placed_cell a cell at the end
-- Assumes nothing.
use Rattle.std.specs.Prelude.{◌≡◌, ◌≢◌, Bool, true, false, cond, ◌&&◌, ℕ, zero, suc, ◌-◌, ◌≤◌, ◌<◌, ltb, leb, eqb}
use Rattle.collect.specs.Cells.{Link, ChainCell, val, ptr, mk}
use Rattle.collect.specs.Heap.{Heap, holder, pos, turn, place, span}

-- The left field of k, its turn ahead, when the first j cells in order are linked: it leads to the last of them that
-- holds up to k.
unfoldable pub last : Heap → ℕ → ℕ → Link
last g k zero = val (g.li k)
last g k (suc j) =
    cond (holder g (turn g j) && eqb (g.ri (turn g j)) k) (ptr (place g (turn g j))) (last g k j)

-- The first j cells have had their turn, and the chain of the next one is undone down to place x in the order: whole at
-- x = j, gone at x = 0. A holder is mended when it is off the chain of its right end.
unfoldable pub mended : Heap → ℕ → ℕ → ℕ → Bool
mended g j x c = cond (leb x (pos g c)) (leb (pos g (g.ri c)) j) (ltb (pos g (g.ri c)) j)

-- its two fields after its turn: its length less one and a link, then the places of its ends
unfoldable pub held_l : Heap → ℕ → ℕ → ℕ → Link
held_l g j x c = val (cond (mended g j x c) (place g (g.ri c) - span g c) (span g c))

unfoldable pub held_r : Heap → ℕ → ℕ → ℕ → Link
held_r g j x c = cond (mended g j x c) (val (place g (g.ri c))) (last g (g.ri c) (pos g c))

-- the fields of any cell
unfoldable pub sweep_l : Heap → ℕ → ℕ → ℕ → Link
sweep_l g j x c =
    cond (ltb (pos g c) j) (cond (holder g c) (held_l g j x c) (val (g.li c))) (last g c (cond (eqb (pos g c) j) x j))

unfoldable pub sweep_r : Heap → ℕ → ℕ → ℕ → Link
sweep_r g j x c = cond (holder g c && ltb (pos g c) j) (held_r g j x c) (val (g.ri c))

abbrev pub sweep_cell : Heap → ℕ → ℕ → ℕ → ChainCell
sweep_cell g j x c = mk (g.br c) false (sweep_l g j x c) (sweep_r g j x c)

-- a cell as it was before the sweep
abbrev pub old_cell : Heap → ℕ → ChainCell
old_cell g c = mk (g.br c) false (val (g.li c)) (val (g.ri c))

-- where a cell stands after j turns, and the cells that stand: all but the unreached ones whose turn is over
unfoldable pub spot : Heap → ℕ → ℕ → ℕ
spot g j c = cond (ltb (pos g c) j) (place g c) c

abbrev pub Stands : Heap → ℕ → ℕ → Type 0
Stands g j c = g.F ≤ c → pos g c < j → g.live c ≡ true

-- An unreached cell at which none is placed stays as it was.
pub record SweptTo (g : Heap) (j x : ℕ) (M : ℕ → ChainCell) : Type 0 where
  pub at : (c : ℕ) → Stands g j c → M (spot g j c) ≡ sweep_cell g j x c
  pub dead : (c : ℕ) → g.F ≤ c → g.live c ≡ false → ((y : ℕ) → g.live y ≡ true → place g y ≢ c)
      → M c ≡ old_cell g c

-- What the sweep knows when the cells from c up have had their turn: those from `low` up to c are reached, and no
-- mended holder reaches below `low`.
pub record Known (g : Heap) (j x low c : ℕ) : Type 0 where
  pub reached : (y : ℕ) → low ≤ y → y < c → g.live y ≡ true
  pub covers : (b : ℕ) → holder g b ≡ true → pos g b < j → mended g j x b ≡ true → low ≤ g.li b

-- a register or reached cell at the end: both ends are places
unfoldable pub placed_cell : Heap → ℕ → ChainCell
placed_cell g c =
    mk (g.br c) false (val (cond (holder g c) (place g (g.li c)) (g.li c)))
    (val (cond (holder g c) (place g (g.ri c)) (g.ri c)))
