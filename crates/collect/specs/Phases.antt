-- The phases of the sweep: each is a record over the heap g that the words hold.
--
--     Begun ──registers──> Sweeping g.F ──> Head ──> Turn ──> Passed ──> .. ──> Sweeping g.T
--
--   Frame     room for the heap, in every phase
--   Begun     before the sweep;  Sweeping  between two turns, j of them over
--   Turn      a reached cell's turn;  Head  that of one with a chain, with which a run of cells becomes known
--   Passed    the turns of that run are over
-- Assumes nothing.
use Rattle.std.specs.Prelude.{◌≡◌, true, cond, List, ℕ, suc, ◌+◌, ◌*◌, ◌^◌, ◌≤◌, ◌<◌, length}
use Rattle.words.specs.Cell.{second_word}
use Rattle.words.specs.Second.{decode}
use Rattle.meaning.specs.Limits.{first_heap_cell, limit}
use Rattle.collect.specs.Cells.{cell}
use Rattle.collect.specs.Heap.{Heap, Proper, pos, place}
use Rattle.collect.specs.Chain.{SweptTo, Known}

-- The words s have room for the heap g, and every number of it fits 28 bits.
pub record Frame (g : Heap) (s : List ℕ) : Type 0 where
  pub proper : Proper g
  pub first : g.F ≡ first_heap_cell
  pub room : 2 * g.T ≤ length s
  pub len : length s ≤ 2 * limit
  pub small : (c : ℕ) → g.li c < 2 ^ 28

-- the first j cells in order have had their turn
pub record Sweeping (g : Heap) (s : List ℕ) (j : ℕ) : Type 0 where
  pub frame : Frame g s
  pub at : SweptTo g j j (cell s)

-- Nothing is done yet. The sweep goes over the heap cells below `top`. Where it packs, a reached cell goes up by the
-- number of unreached ones above it, and else by none: `lifts` says what may be answered for how many.
pub record Begun (g : Heap) (s : List ℕ) (top : ℕ) (lifts : ℕ → ℕ → Type 0) : Type 0 where
  pub phase : Sweeping g s 0
  pub ends : g.T ≡ top
  pub up : (dead d : ℕ) → lifts dead d → d ≡ cond g.packs dead 0

-- it is the turn of the reached cell c, whose second word is w, and whose place is `to`
pub record Turn (g : Heap) (s : List ℕ) (c w to low : ℕ) : Type 0 where
  pub phase : Sweeping g s (pos g c)
  pub live : g.live c ≡ true
  pub word : w ≡ second_word s c
  pub goes : to ≡ place g c
  pub known : Known g (pos g c) (pos g c) low c

-- It is the turn of c, which has a chain, and no cell below it is known. Its place is d higher.
pub record Head (g : Heap) (s : List ℕ) (c w d : ℕ) : Type 0 where
  pub phase : Sweeping g s (pos g c)
  pub low : g.F ≤ c
  pub high : c < g.T
  pub chain : (decode w).lc ≡ true
  pub word : w ≡ second_word s c
  pub goes : place g c ≡ c + d
  pub known : Known g (pos g c) (pos g c) (suc c) (suc c)

-- The cells from r up to c are reached and have had their turn, and no cell below them is known.
pub record Passed (g : Heap) (s : List ℕ) (c r : ℕ) : Type 0 where
  pub phase : Sweeping g s (suc (pos g r))
  pub low : g.F ≤ r
  pub high : r ≤ c
  pub live : (y : ℕ) → r ≤ y → y ≤ c → g.live y ≡ true
  pub known : Known g (suc (pos g r)) (suc (pos g r)) r r
