-- What a chain tells of the cell m whose turn it is. In order:
--   reg_undone   a register has no chain;  dead_undone  nor has an unreached cell
--   is_live      a cell with a chain is reached;  is_dead  one that is not known, without a chain, is not
-- Assumes nothing.
use mathlib.Core.Path.{◌≡◌, refl, sym, ◌∙◌, ap, subst}
use mathlib.Core.Bool.{Bool, true, false, true≢false}
use Prim.Native.Nat.{ℕ, ◌≤◌, ◌<◌}
use native.Mathlib.Omega.{arith}
use native.Mathlib.Decide.{dec_lt, ℕ_discrete}
use borrow.Author.Tests.{lt-leb, lt-ltb}
use Rattle.collect.specs.Cells.{ChainCell}
use Rattle.collect.specs.Heap.{Heap, holder, Proper, pos}
use Rattle.collect.specs.Chain.{last, mended, Known}
use Rattle.collect.proofs.heap.Order.{pos_reg, pos_heap, holder_low, ri_live}
use Rattle.collect.proofs.heap.Spots.{last_some}
use Rattle.collect.proofs.turn.Undoing.{Undone, unlink_none, chain_head}

module _ (g : Heap) (s : Proper g) (m : ℕ) where
  abbrev j : ℕ
  j = pos g m

  pub reg_undone : (low : ℕ) (M : ℕ → ChainCell) → m < g.F → Undone g s m j low M → Undone g s m 0 low M
  reg_undone low M p = unlink_none g s m j low M (λ b h e. omega (arith, s.ends b h))

  pub dead_undone : (low : ℕ) (M : ℕ → ChainCell) → g.live m ≡ false → Undone g s m j low M → Undone g s m 0 low M
  dead_undone low M l =
      unlink_none g s m j low M (λ b h e. true≢false (sym (ri_live g b s h) ∙ ap g.live e ∙ l))

  pub is_live : (low : ℕ) (M : ℕ → ChainCell) → Undone g s m j low M → (last g m j).tag ≡ true → g.live m ≡ true
  is_live low M u e =
      let h = chain_head g s m j low M u e in
      subst (λ (x : ℕ). g.live x ≡ true) h.names (ri_live g h.k s h.holder)

  -- a holder of m has had its turn, and is mended unless m is its right end
  held_before : g.F ≤ m → m < g.T → (b : ℕ) → holder g b ≡ true → m ≤ g.ri b → pos g b < j
  held_before f t b h q =
      let w = pos_heap g m f t in
      elim (dec_lt b g.F) [
        | yes p ↦ omega (arith, pos_reg g b p)
        | no p ↦
            let l = holder_low g b s h in
            omega (arith, pos_heap g b (omega arith) l, s.down b h (omega arith))
      ]

  held_mended : g.F ≤ m → m < g.T → (b : ℕ) → holder g b ≡ true → m < g.ri b → mended g j j b ≡ true
  unfolding mended
  held_mended f t b h q =
      let w = pos_heap g m f t in
      let v = s.ends b h in
      let z = pos_heap g (g.ri b) (omega arith) v.2 in
      rw (lt-leb j (pos g b) (held_before f t b h (omega arith)), lt-ltb (pos g (g.ri b)) j (omega arith))

  pub is_dead : (low c : ℕ) → Known g j j low c → g.F ≤ m → m < low → (last g m j).tag ≡ false → g.live m ≡ false
  is_dead low c k f lt e = go (g.live m) refl
    where
      go : (b : Bool) → g.live m ≡ b → g.live m ≡ false
      go false l = l
      go true l =
          let h = s.held m l in
          absurd (held h.0 h.1 h.2 h.3 (ℕ_discrete (g.ri h.0) m))
        where
          high : m < g.T
          high = (s.heap m l).1

          held : (b : ℕ) → holder g b ≡ true → g.li b ≤ m → m ≤ g.ri b → Dec (g.ri b ≡ m) → ⊥
          held b h p q (yes r) = true≢false (sym (last_some g s m b j h r (held_before f high b h q)) ∙ e)
          held b h p q (no r) =
              let w : m < g.ri b = omega arith in
              omega (arith, k.covers b h (held_before f high b h q) (held_mended f high b h w))
