-- Where the cells stand after their turns. In order:
--   new_bound             new addresses: from F on, never up, and no more cells are passed over below c than below T
--   new_run               reached cells side by side stay so
--   place_own, place_kept  a register stays, and without packing so does every cell
--   place_up              a reached cell goes no lower, and stays below T
--   place_next            two side by side stay so;  place_less  order is kept
--   place_run             a holder's left end, from its right end and its length less one
--   place_lift            a cell's place, from the number of unreached cells above it
-- Assumes nothing.
use mathlib.Core.Path.{◌≡◌, refl}
use mathlib.Core.Bool.{Bool, true, false, cond}
use Prim.Native.Nat.{ℕ, zero, suc, ◌+◌, ◌-◌, ◌≤◌, ◌<◌}
use native.Mathlib.Omega.{arith}
use native.Mathlib.Decide.{ℕ_discrete}
use lib.Dec.{ltb}
use borrow.Author.Tests.{lt-ltb, le-ltb}
use Rattle.collect.specs.Heap.{Heap, holder, Proper, place, span}

module _ (g : Heap) (s : Proper g) where
  -- ---- new addresses

  new_step : (c : ℕ) → (g.new c ≤ g.new (suc c)) × (g.new (suc c) ≤ suc (g.new c))
  new_step c = go (g.live c) refl
    where
      go : (b : Bool) → g.live c ≡ b → (g.new c ≤ g.new (suc c)) × (g.new (suc c) ≤ suc (g.new c))
      go true e = (omega (arith, s.after c e), omega (arith, s.after c e))
      go false e = (omega (arith, s.skip c e), omega (arith, s.skip c e))

  -- from one cell up to another, the new address grows, and by no more than the address
  new_up : (c d : ℕ) → c ≤ d → (g.new c ≤ g.new d) × (g.new d + c ≤ d + g.new c)
  new_up c zero h = let e : c ≡ 0 = omega arith in rw e (omega arith, omega arith)
  new_up c (suc d) h = go (ℕ_discrete c (suc d)) (new_up c d)
    where
      go : Dec (c ≡ suc d) → (c ≤ d → (g.new c ≤ g.new d) × (g.new d + c ≤ d + g.new c))
          → (g.new c ≤ g.new (suc d)) × (g.new (suc d) + c ≤ suc d + g.new c)
      go (yes e) ih = rw e (omega arith, omega arith)
      go (no n) ih =
          let k = ih (omega arith) in
          (omega (arith, k.0, (new_step d).0), omega (arith, k.1, (new_step d).1))

  pub new_bound : (c : ℕ) → g.F ≤ c → c ≤ g.T
      → (g.F ≤ g.new c) × (g.new c ≤ c) × (c + g.new g.T ≤ g.T + g.new c) × (g.new g.T ≤ g.T)
  new_bound c p q =
      let a = new_up g.F c p in
      let b = new_up c g.T q in (
        omega (arith, s.first, a.0),
        omega (arith, s.first, a.1),
        omega (arith, b.1),
        omega (arith, s.first, a.1, b.1),
      )

  -- a reached cell's new address is below that of any higher cell
  new_less : (c d : ℕ) → g.live c ≡ true → c < d → g.new c < g.new d
  new_less c d e h = omega (arith, s.after c e, (new_up (suc c) d h).0)

  -- reached cells side by side stay so
  pub new_run_lem : (c d : ℕ) → c ≤ d → ((j : ℕ) → c ≤ j → j < d → g.live j ≡ true) → g.new d + c ≡ d + g.new c
  new_run_lem c zero h r = let e : c ≡ 0 = omega arith in rw e (omega arith)
  new_run_lem c (suc d) h r = go (ℕ_discrete c (suc d)) (new_run_lem c d)
    where
      go : Dec (c ≡ suc d)
          → (c ≤ d → ((j : ℕ) → c ≤ j → j < d → g.live j ≡ true) → g.new d + c ≡ d + g.new c)
          → g.new (suc d) + c ≡ suc d + g.new c
      go (yes e) ih = rw e (omega arith)
      go (no n) ih =
          let p : c ≤ d = omega arith in
          omega (arith, ih p (λ j a b. r j a (omega arith)), s.after d (r d p (omega arith)))

  -- ---- places

  pub place_own : (c : ℕ) → c < g.F → place g c ≡ c
  unfolding place
  place_own c p = rw (lt-ltb c g.F p)

  pub place_packed : (c : ℕ) → g.packs ≡ true → g.F ≤ c → place g c ≡ g.new c + (g.T - g.new g.T)
  unfolding place
  place_packed c e p = rw (le-ltb c g.F p, e)

  pub place_kept : (c : ℕ) → g.packs ≡ false → place g c ≡ c
  unfolding place
  place_kept c e = go (ltb c g.F)
    where
      go : (b : Bool) → cond b c (cond g.packs (g.new c + (g.T - g.new g.T)) c) ≡ c
      go true = refl
      go false = rw e

  pub place_up : (c : ℕ) → g.live c ≡ true → (c ≤ place g c) × (place g c < g.T)
  place_up c l = go g.packs refl
    where
      low : (g.F ≤ c) × (c < g.T)
      low = s.heap c l

      go : (b : Bool) → g.packs ≡ b → (c ≤ place g c) × (place g c < g.T)
      go true e =
          let w = place_packed c e low.0 in
          let n = new_bound c low.0 (omega (arith, low.1)) in
          let m = new_less c g.T l low.1 in
          (omega (arith, w, n.2), omega (arith, w, m, n.2))
      go false e = (omega (arith, place_kept c e), omega (arith, place_kept c e, low.1))

  pub place_next : (c : ℕ) → g.live c ≡ true → g.live (suc c) ≡ true → place g (suc c) ≡ suc (place g c)
  place_next c l m = go g.packs refl
    where
      go : (b : Bool) → g.packs ≡ b → place g (suc c) ≡ suc (place g c)
      go true e =
          omega (
            arith,
            place_packed c e (s.heap c l).0,
            place_packed (suc c) e (s.heap (suc c) m).0,
            s.after c l,
          )
      go false e = omega (arith, place_kept c e, place_kept (suc c) e)

  pub place_less : (c d : ℕ) → g.live c ≡ true → g.live d ≡ true → c < d → place g c < place g d
  place_less c d l m h = go g.packs refl
    where
      go : (b : Bool) → g.packs ≡ b → place g c < place g d
      go true e =
          omega (
            arith,
            place_packed c e (s.heap c l).0,
            place_packed d e (s.heap d m).0,
            new_less c d l h,
          )
      go false e = omega (arith, place_kept c e, place_kept d e)

  pub place_run : (c : ℕ) → holder g c ≡ true → place g (g.ri c) ≡ span g c + place g (g.li c)
  place_run c h = go g.packs refl
    where
      within : (g.F ≤ g.li c) × (g.li c ≤ g.ri c) × (g.ri c < g.T)
      within = s.ends c h

      go : (b : Bool) → g.packs ≡ b → place g (g.ri c) ≡ span g c + place g (g.li c)
      go true e =
          omega (
            arith,
            place_packed (g.ri c) e (omega (arith, within.0, within.1)),
            place_packed (g.li c) e within.0,
            new_run_lem (g.li c) (g.ri c) within.1 (λ j p q. s.kept c j h p (omega arith)),
            within.1,
          )
      go false e = omega (arith, place_kept (g.ri c) e, place_kept (g.li c) e, within.1)

  pub place_lift : (c dead : ℕ) → g.live c ≡ true → dead + suc c + g.new g.T ≡ g.T + g.new (suc c)
      → place g c ≡ c + cond g.packs dead 0
  place_lift c dead l d = go g.packs refl
    where
      go : (b : Bool) → g.packs ≡ b → place g c ≡ c + cond b dead 0
      go true e =
          let low = s.heap c l in
          omega (
            arith,
            place_packed c e low.0,
            s.after c l,
            d,
            (new_bound c low.0 (omega (arith, low.1))).3,
          )
      go false e = omega (arith, place_kept c e)
