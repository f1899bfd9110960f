-- A sound store apart from its words, as the sweep goes over it. A holder of cell k is a register or reached cell, a
-- bracket with contents, whose right end is k. In order:
--   Heap       the store;  holder  which cells hold others
--   Proper     what soundness and reaching say of it
--   pos, turn  the order of the sweep;  place  where a cell stands after its turn
-- Assumes nothing.
use Rattle.std.specs.Prelude.{◌≡◌, Bool, true, false, cond, ◌&&◌, ◌||◌, ℕ, suc, ◌+◌, ◌-◌, ◌≤◌, ◌<◌, ltb}
use Rattle.words.specs.Second.{full}

-- Registers below F, heap cells from F up to T; which cells are brackets, their ends, which heap cells are reached and
-- the new addresses of these. And whether the sweep packs the reached cells against T or leaves them where they are.
pub record Heap : Type 0 where
  pub F : ℕ
  pub T : ℕ
  pub br : ℕ → Bool
  pub live : ℕ → Bool
  pub li : ℕ → ℕ
  pub ri : ℕ → ℕ
  pub new : ℕ → ℕ
  pub packs : Bool

-- a register or reached cell that is a bracket with contents
unfoldable pub holder : Heap → ℕ → Bool
holder g c = (ltb c g.F || g.live c) && full (g.br c) (g.ri c)

-- All that a holder holds is reached, and lies below it if it is a heap cell; a reached cell has a holder; and the new
-- addresses count the reached cells.
pub record Proper (g : Heap) : Type 0 where
  pub some : 0 < g.F
  pub FT : g.F ≤ g.T
  pub heap : (c : ℕ) → g.live c ≡ true → (g.F ≤ c) × (c < g.T)
  pub ends : (c : ℕ) → holder g c ≡ true → (g.F ≤ g.li c) × (g.li c ≤ g.ri c) × (g.ri c < g.T)
  pub down : (c : ℕ) → holder g c ≡ true → g.F ≤ c → g.ri c < c
  pub kept : (c j : ℕ) → holder g c ≡ true → g.li c ≤ j → j ≤ g.ri c → g.live j ≡ true
  pub held : (c : ℕ) → g.live c ≡ true → (b : ℕ) × (holder g b ≡ true) × (g.li b ≤ c) × (c ≤ g.ri b)
  pub first : g.new g.F ≡ g.F
  pub after : (c : ℕ) → g.live c ≡ true → g.new (suc c) ≡ suc (g.new c)
  pub skip : (c : ℕ) → g.live c ≡ false → g.new (suc c) ≡ g.new c

-- The order of the sweep: the registers, then the heap from the top down. A holder has its turn before what it holds.
unfoldable pub pos : Heap → ℕ → ℕ
pos g c = cond (ltb c g.F) c (cond (ltb c g.T) (g.F + (g.T - suc c)) c)

unfoldable pub turn : Heap → ℕ → ℕ
turn g j = cond (ltb j g.F) j (cond (ltb j g.T) (g.T - suc (j - g.F)) j)

-- where a register or reached cell stands after its turn
unfoldable pub place : Heap → ℕ → ℕ
place g c = cond (ltb c g.F) c (cond g.packs (g.new c + (g.T - g.new g.T)) c)

-- a holder's length less one
abbrev pub span : Heap → ℕ → ℕ
span g c = g.ri c - g.li c
