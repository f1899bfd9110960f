-- The order of the sweep: the registers, then the heap from the top down; and what a holder is. In order:
--   pos_reg, pos_heap, pos_free  where a cell comes in the order;  pos_other  no two in one place;  pos_low
--   turn_pos, pos_turn           the cell at a place in the order, and back
--   holder_br .. holder_low      what makes a holder
--   pos_holder                   a holder has its turn before its right end;  ri_other  which is another cell
--   ri_live                      and reached
-- Assumes nothing.
use mathlib.Core.Path.{◌≡◌, sym, ◌∙◌, ap}
use mathlib.Core.Logic.{◌≢◌}
use mathlib.Core.Bool.{true, not, ◌||◌}
use Prim.Native.Nat.{ℕ, suc, ◌+◌, ◌-◌, ◌≤◌, ◌<◌}
use native.Mathlib.Omega.{arith}
use native.Mathlib.Decide.{dec_lt}
use lib.Dec.{ltb, eqb}
use borrow.Author.Tests.{lt-ltb, le-ltb}
use Rattle.words.specs.Second.{full}
use Rattle.collect.specs.Heap.{Heap, holder, Proper, pos, turn}
use Rattle.meaning.proofs.Counting.{both_true}

-- ---- the order

module _ (g : Heap) where
  pub pos_reg : (c : ℕ) → c < g.F → pos g c ≡ c
  unfolding pos
  pos_reg c p = rw (lt-ltb c g.F p)

  pub pos_heap : (c : ℕ) → g.F ≤ c → c < g.T → pos g c ≡ g.F + (g.T - suc c)
  unfolding pos
  pos_heap c p q = rw (le-ltb c g.F p, lt-ltb c g.T q)

  pub pos_free : (c : ℕ) → g.F ≤ c → g.T ≤ c → pos g c ≡ c
  unfolding pos
  pos_free c p q = rw (le-ltb c g.F p, le-ltb c g.T q)

  turn_reg : (j : ℕ) → j < g.F → turn g j ≡ j
  unfolding turn
  turn_reg j p = rw (lt-ltb j g.F p)

  turn_heap : (j : ℕ) → g.F ≤ j → j < g.T → turn g j ≡ g.T - suc (j - g.F)
  unfolding turn
  turn_heap j p q = rw (le-ltb j g.F p, lt-ltb j g.T q)

  turn_free : (j : ℕ) → g.F ≤ j → g.T ≤ j → turn g j ≡ j
  unfolding turn
  turn_free j p q = rw (le-ltb j g.F p, le-ltb j g.T q)

  module _ (s : Proper g) where
    pub turn_pos : (c : ℕ) → turn g (pos g c) ≡ c
    turn_pos c = go (dec_lt c g.F) (dec_lt c g.T)
      where
        go : Dec (c < g.F) → Dec (c < g.T) → turn g (pos g c) ≡ c
        go (yes p) q = rw (pos_reg c p) (turn_reg c p)
        go (no p) (yes q) =
            let e = pos_heap c (omega arith) q in
            rw e (turn_heap (g.F + (g.T - suc c)) (omega arith) (omega arith) ∙ omega arith)
        go (no p) (no q) = rw (pos_free c (omega arith) (omega arith)) (turn_free c (omega arith) (omega arith))

    pub pos_turn : (j : ℕ) → pos g (turn g j) ≡ j
    pos_turn j = go (dec_lt j g.F) (dec_lt j g.T)
      where
        go : Dec (j < g.F) → Dec (j < g.T) → pos g (turn g j) ≡ j
        go (yes p) q = rw (turn_reg j p) (pos_reg j p)
        go (no p) (yes q) =
            rw (turn_heap j (omega arith) q)
            (pos_heap (g.T - suc (j - g.F)) (omega arith) (omega arith) ∙ omega arith)
        go (no p) (no q) = rw (turn_free j (omega arith) (omega arith)) (pos_free j (omega arith) (omega arith))

    -- two cells with one place in the order are one cell
    pub pos_other : (c m : ℕ) → c ≢ m → pos g c ≢ pos g m
    pos_other c m n e = n (sym (turn_pos c) ∙ ap (turn g) e ∙ turn_pos m)

    pub pos_low : (c : ℕ) → c < g.T → pos g c < g.T
    pos_low c q = go (dec_lt c g.F)
      where
        go : Dec (c < g.F) → pos g c < g.T
        go (yes p) = omega (arith, pos_reg c p)
        go (no p) = omega (arith, pos_heap c (omega arith) q)

-- ---- holders

module _ (g : Heap) (c : ℕ) where
  pub holder_br : holder g c ≡ true → g.br c ≡ true
  unfolding holder
  holder_br h =
      (both_true (g.br c) (not (eqb (g.ri c) 0))
      (both_true (ltb c g.F || g.live c) (full (g.br c) (g.ri c)) h).1).0

  -- a register or reached cell is a holder if it is a bracket with contents
  pub holder_full : (ltb c g.F || g.live c) ≡ true → holder g c ≡ full (g.br c) (g.ri c)
  unfolding holder
  holder_full k = rw k

  -- a holder in the heap is reached
  pub holder_live : holder g c ≡ true → g.F ≤ c → g.live c ≡ true
  unfolding holder
  holder_live h f = rw (le-ltb c g.F f) at (both_true (ltb c g.F || g.live c) (full (g.br c) (g.ri c)) h).0

  module _ (s : Proper g) (h : holder g c ≡ true) where
    pub holder_low : c < g.T
    holder_low = go (dec_lt c g.F)
      where
        go : Dec (c < g.F) → c < g.T
        go (yes p) = omega (arith, s.FT)
        go (no p) = (s.heap c (holder_live h (omega arith))).1

    -- its right end is another cell, and has its turn later
    pub pos_holder : pos g c < pos g (g.ri c)
    pos_holder =
        let e = s.ends c h in
        let k = pos_heap g (g.ri c) (omega arith) e.2 in
        elim (dec_lt c g.F) [
          | yes p ↦ omega (arith, pos_reg g c p)
          | no p ↦ omega (arith, pos_heap g c (omega arith) holder_low, s.down c h (omega arith), holder_low)
        ]

    pub ri_other : g.ri c ≢ c
    ri_other e = omega (arith, pos_holder, ap (pos g) e)

    pub ri_live : g.live (g.ri c) ≡ true
    ri_live = s.kept c (g.ri c) h (omega (arith, s.ends c h)) (omega arith)
