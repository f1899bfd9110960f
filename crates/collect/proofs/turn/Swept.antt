-- The store when every cell has had its turn. In order:
--   last_none    a cell that nothing holds has no chain
--   swept_place  a register or reached cell stands at its place, and both ends are places
--   swept_free   a cell from T on is as it was
--   place_onto   packed, every cell from F plus their number on is some cell's place
--   swept_kept   unpacked, every cell is as it was
-- Assumes nothing.
use mathlib.Core.Path.{◌≡◌, refl, sym, ◌∙◌, ap, subst}
use mathlib.Core.Logic.{◌≢◌}
use mathlib.Core.Bool.{Bool, true, false, ◌||◌, true≢false}
use Prim.Native.Nat.{ℕ, zero, suc, ◌+◌, ◌-◌, ◌≤◌, ◌<◌}
use native.Mathlib.Omega.{arith}
use native.Mathlib.Decide.{dec_lt}
use lib.Dec.{ltb, eqb}
use borrow.Author.Tests.{eqb-true, lt-ltb, le-ltb, lt-leb}
use Rattle.collect.specs.Cells.{ChainCell, val}
use Rattle.collect.specs.Heap.{Heap, holder, Proper, pos, turn, place, span}
use Rattle.collect.specs.Chain.{last, mended, sweep_cell, old_cell, placed_cell, SweptTo}
use Rattle.meaning.proofs.Counting.{both_true}
use Rattle.collect.proofs.heap.Order.{pos_low, pos_free}
use Rattle.collect.proofs.heap.Places.{place_packed, place_kept, place_run}
use Rattle.collect.proofs.heap.Spots.{holds, last_zero, last_miss, past_l, past_r, other_l, other_r, whole_l}
use Rattle.collect.proofs.heap.Spots.{ahead_r}
use Rattle.collect.proofs.heap.Spots.{spot_past, spot_ahead}
use Rattle.collect.proofs.heap.Mending.{held_l_yes, held_r_yes}

pub last_none : (g : Heap) (c j : ℕ) → ((b : ℕ) → holder g b ≡ true → g.ri b ≢ c) → last g c j ≡ val (g.li c)
last_none g c zero n = last_zero g c
last_none g c (suc j) n = last_miss g c j (miss (holds g c j) refl) ∙ last_none g c j n
  where
    miss : (b : Bool) → holds g c j ≡ b → holds g c j ≡ false
    miss false q = q
    miss true q =
        let p = both_true (holder g (turn g j)) (eqb (g.ri (turn g j)) c) q in
        absurd (n (turn g j) p.0 (eqb-true (g.ri (turn g j)) c p.1))

module _ (g : Heap) (s : Proper g) where
  -- every holder is mended
  all_mended : (c : ℕ) → holder g c ≡ true → pos g c < g.T → mended g g.T g.T c ≡ true
  unfolding mended
  all_mended c h p =
      rw (
        lt-leb g.T (pos g c) p,
        lt-ltb (pos g (g.ri c)) g.T (pos_low g s (g.ri c) (s.ends c h).2),
      )

  placed : (c : ℕ) → pos g c < g.T → sweep_cell g g.T g.T c ≡ placed_cell g c
  unfolding placed_cell
  placed c p = go (holder g c) refl
    where
      go : (b : Bool) → holder g c ≡ b → sweep_cell g g.T g.T c ≡ placed_cell g c
      go true h =
          let m = all_mended c h p in
          let e : place g (g.ri c) - span g c ≡ place g (g.li c) = omega (arith, place_run g s c h) in
          rw (
            past_l g g.T g.T c p h,
            past_r g g.T g.T c p h,
            held_l_yes g g.T g.T c m,
            held_r_yes g g.T g.T c m,
            h,
            e,
          )
      go false h = rw (other_l g g.T g.T c p h, other_r g g.T g.T c h, h)

  low : (c : ℕ) → (ltb c g.F || g.live c) ≡ true → c < g.T
  low c k = go (dec_lt c g.F)
    where
      go : Dec (c < g.F) → c < g.T
      go (yes p) = omega (arith, s.FT)
      go (no p) = (s.heap c (rw (le-ltb c g.F (omega arith)) at k)).1

  module _ (M : ℕ → ChainCell) (u : SweptTo g g.T g.T M) where
    pub swept_place : (c : ℕ) → (ltb c g.F || g.live c) ≡ true → M (place g c) ≡ placed_cell g c
    swept_place c k =
        let p = pos_low g s c (low c k) in
        subst (λ (x : ℕ). M x ≡ sweep_cell g g.T g.T c) (spot_past g g.T c p)
        (u.at c (λ f q. rw (le-ltb c g.F f) at k))
        ∙ placed c p

    pub swept_free : (c : ℕ) → g.T ≤ c → M c ≡ old_cell g c
    swept_free c le =
        let e = pos_free g c (omega (arith, s.FT)) le in
        subst (λ (x : ℕ). M x ≡ sweep_cell g g.T g.T c) (spot_ahead g g.T c (omega arith))
        (u.at c (λ f q. absurd (omega arith)))
        ∙ rw (
          whole_l g g.T c (omega arith),
          ahead_r g g.T g.T c (omega arith),
          last_none g c g.T (λ b h q. omega (arith, s.ends b h)),
        )

    -- ---- not packed

    pub swept_kept : g.packs ≡ false → (c : ℕ) → M c ≡ old_cell g c
    unfolding placed_cell
    swept_kept e c = go (dec_lt c g.T) (ltb c g.F || g.live c) refl
      where
        same : (ltb c g.F || g.live c) ≡ true → (b : Bool) → holder g c ≡ b → placed_cell g c ≡ old_cell g c
        same k true h = rw (h, place_kept g s (g.li c) e, place_kept g s (g.ri c) e)
        same k false h = rw h

        go : Dec (c < g.T) → (b : Bool) → (ltb c g.F || g.live c) ≡ b → M c ≡ old_cell g c
        go (no p) b k = swept_free c (omega arith)
        go (yes p) true k =
            subst (λ (x : ℕ). M x ≡ placed_cell g c) (place_kept g s c e) (swept_place c k) ∙ same k (holder g c) refl
        go (yes p) false k = heap (dec_lt c g.F)
          where
            heap : Dec (c < g.F) → M c ≡ old_cell g c
            heap (yes q) = absurd (true≢false (sym (rw (lt-ltb c g.F q) refl) ∙ k))
            heap (no q) =
                let dead : g.live c ≡ false = rw (le-ltb c g.F (omega arith)) at k in
                u.dead c (omega arith) dead
                (λ y l z. true≢false (sym l ∙ ap g.live (sym (place_kept g s y e) ∙ z) ∙ dead))

  -- ---- packed

  -- every new address is some reached cell's
  new_onto : (n v : ℕ) → g.F ≤ v → v < g.new n → g.F ≤ n → (c : ℕ) × (g.live c ≡ true) × (g.new c ≡ v)
  new_onto zero v f lt k = absurd (let z : ⊥ = omega (arith, s.some) in z)
  new_onto (suc n) v f lt k = go (dec_lt v (g.new n)) (g.live n) refl (dec_lt n g.F) (new_onto n v f)
    where
      go : Dec (v < g.new n) → (b : Bool) → g.live n ≡ b → Dec (n < g.F)
          → (v < g.new n → g.F ≤ n → (c : ℕ) × (g.live c ≡ true) × (g.new c ≡ v))
          → (c : ℕ) × (g.live c ≡ true) × (g.new c ≡ v)
      go d b l (yes q) ih =
          let e : suc n ≡ g.F = omega arith in
          absurd (omega (arith, ap g.new e, s.first))
      go (yes d) b l (no q) ih = ih d (omega arith)
      go (no d) true l (no q) ih = (n, l, omega (arith, s.after n l))
      go (no d) false l (no q) ih = absurd (omega (arith, s.skip n l))

  pub place_onto : g.packs ≡ true → (d : ℕ) → d + g.new g.T ≡ g.T → (i : ℕ) → g.F + d ≤ i → i < g.T
      → (c : ℕ) × (g.live c ≡ true) × (place g c ≡ i)
  place_onto e d k i a b =
      let o = new_onto g.T (i - d) (omega arith) (omega arith) s.FT in
      (o.0, o.1, omega (arith, place_packed g s o.0 e (s.heap o.0 o.1).0, o.2))
