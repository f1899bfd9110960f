-- The turn of m, its chain undone: m is put down at its place, and linked if it is a holder. In order:
--   own         the fields of m then
--   turn_held   a holder;  turn_laid  any other register or reached cell
--   dead_turn   an unreached cell is passed over
--   known_on    what is known stays
-- Assumes nothing.
use mathlib.Core.Path.{◌≡◌, refl, sym, ◌∙◌, ap, subst}
use mathlib.Core.Logic.{◌≢◌}
use mathlib.Core.Bool.{Bool, true, false, ◌||◌, true≢false, false≢true}
use Prim.Native.Nat.{ℕ, suc, ◌≤◌, ◌<◌}
use native.Mathlib.Omega.{arith}
use native.Mathlib.Decide.{dec_lt, ℕ_discrete}
use lib.Dec.{ltb, leb-suc-suc}
use borrow.Author.Tests.{le-ltb, le-leb, lt-leb, ne_eqb}
use Rattle.collect.specs.Cells.{ChainCell, val, mk}
use Rattle.collect.specs.Heap.{Heap, holder, Proper, pos, turn, place}
use Rattle.collect.specs.Chain.{last, mended, held_l, held_r, sweep_cell, old_cell, spot, Stands, SweptTo, Known}
use Rattle.collect.specs.Step.{Laid, Linked}
use Rattle.collect.proofs.heap.Order.{turn_pos, pos_other, pos_holder, holder_live, ri_other, ri_live}
use Rattle.collect.proofs.heap.Places.{place_own}
use Rattle.collect.proofs.heap.Spots.{last_hit, last_miss, last_zero, ahead_r, next_l, later_l, whole_l}
use Rattle.collect.proofs.heap.Spots.{past_l, past_r, other_l, other_r, spot_ahead, spot_past, spot_same}
use Rattle.collect.proofs.heap.Spots.{spot_other}
use Rattle.collect.proofs.heap.Mending.{held_l_no, held_r_no}

module _ (g : Heap) (s : Proper g) (m : ℕ) where
  abbrev j : ℕ
  j = pos g m

  here : turn g j ≡ m
  here = turn_pos g s m

  -- ---- the forms before and after

  mended_on : (c : ℕ) → pos g c < j → mended g j 0 c ≡ mended g (suc j) (suc j) c
  unfolding mended
  mended_on c p =
      rw (le-leb 0 (pos g c) (omega arith), lt-leb (suc j) (pos g c) (omega arith), leb-suc-suc (pos g (g.ri c)) j)

  -- m itself waits for its right end
  unmended : holder g m ≡ true → mended g (suc j) (suc j) m ≡ false
  unfolding mended
  unmended h =
      let l = pos_holder g m s h in
      rw (lt-leb (suc j) j (omega arith), le-ltb (pos g (g.ri m)) (suc j) (omega arith))

  held_on : (c : ℕ) → pos g c < j
      → (held_l g j 0 c ≡ held_l g (suc j) (suc j) c) × (held_r g j 0 c ≡ held_r g (suc j) (suc j) c)
  unfolding held_l held_r
  held_on c p = (rw (mended_on c p), rw (mended_on c p))

  form_on : (c : ℕ) → c ≢ m → last g c (suc j) ≡ last g c j → sweep_cell g j 0 c ≡ sweep_cell g (suc j) (suc j) c
  form_on c n e = go (dec_lt (pos g c) j) (holder g c) refl
    where
      later : (pos g c < j → ⊥) → j < pos g c
      later p = let z = pos_other g s c m n in omega arith

      go : Dec (pos g c < j) → (b : Bool) → holder g c ≡ b → sweep_cell g j 0 c ≡ sweep_cell g (suc j) (suc j) c
      go (yes p) true h =
          let q : pos g c < suc j = omega arith in
          rw (
            past_l g j 0 c p h,
            past_l g (suc j) (suc j) c q h,
            past_r g j 0 c p h,
            past_r g (suc j) (suc j) c q h,
            (held_on c p).0,
            (held_on c p).1,
          )
      go (yes p) false h =
          let q : pos g c < suc j = omega arith in
          rw (other_l g j 0 c p h, other_l g (suc j) (suc j) c q h, other_r g j 0 c h, other_r g (suc j) (suc j) c h)
      go (no p) b h =
          let q = later p in
          rw (
            ahead_r g j 0 c (omega arith),
            ahead_r g (suc j) (suc j) c (omega arith),
            later_l g j 0 c q,
            whole_l g (suc j) c (omega arith),
            e,
          )

  stands_back : (c : ℕ) → Stands g (suc j) c → Stands g j c
  stands_back c h f p = h f (omega arith)

  stands_m : Stands g j m
  stands_m f p = absurd (omega arith)

  -- the fields of m, its chain undone
  pub own : (M : ℕ → ChainCell) → SweptTo g j 0 M → M m ≡ old_cell g m
  own M u =
      subst (λ (x : ℕ). M x ≡ sweep_cell g j 0 m) (spot_ahead g j m (omega arith)) (u.at m stands_m)
      ∙ rw (next_l g j 0 m refl, ahead_r g j 0 m (omega arith), last_zero g m)

  -- ---- m is put down

  module _ (k : (ltb m g.F || g.live m) ≡ true) (M N M' : ℕ → ChainCell) (u : SweptTo g j 0 M)
      (same : (c : ℕ) → c ≢ m → N c ≡ M c) where
    stands : Stands g (suc j) m
    stands f p = rw (le-ltb m g.F f) at k

    apart : (c : ℕ) → g.F ≤ c → g.live c ≡ false → c ≢ m
    apart c f l q = true≢false (sym (stands (omega arith) (omega arith)) ∙ ap g.live (sym q) ∙ l)

    not_placed : (c : ℕ) → g.F ≤ c → ((y : ℕ) → g.live y ≡ true → place g y ≢ c) → c ≢ place g m
    not_placed c f bare q = go (dec_lt m g.F)
      where
        go : Dec (m < g.F) → ⊥
        go (yes r) = omega (arith, place_own g s m r)
        go (no r) = bare m (stands (omega arith) (omega arith)) (sym q)

    -- the other cells stand where they did
    others : (c : ℕ) → Stands g (suc j) c → c ≢ m → N (spot g (suc j) c) ≡ sweep_cell g j 0 c
    others c h n =
        let e : spot g (suc j) c ≡ spot g j c = spot_same g j c (pos_other g s c m n) in
        let z : spot g j c ≢ m =
        λ q. spot_other g s j c m (stands_back c h) stands_m n (q ∙ sym (spot_ahead g j m (omega arith))) in
        rw e (same (spot g j c) z ∙ u.at c (stands_back c h))

    spot_m : spot g (suc j) m ≡ place g m
    spot_m = spot_past g (suc j) m (omega arith)

    off_place : (c : ℕ) → Stands g (suc j) c → c ≢ m → spot g (suc j) c ≢ place g m
    off_place c h n q = spot_other g s (suc j) c m h stands n (q ∙ sym spot_m)

    pub turn_laid : holder g m ≡ false → Laid N M' (place g m) (old_cell g m) → SweptTo g (suc j) (suc j) M'
    turn_laid h w = record {
      at = λ c p. at c p (ℕ_discrete c m);
      dead = λ c f l bare.
          w.rest c (not_placed c f bare) ∙ same c (apart c f l) ∙ u.dead c f l bare;
    }
      where
        at : (c : ℕ) → Stands g (suc j) c → Dec (c ≡ m) → M' (spot g (suc j) c) ≡ sweep_cell g (suc j) (suc j) c
        at c p (yes q) =
            rw (q, spot_m) (w.at ∙ rw (
              other_l g (suc j) (suc j) m (omega arith) h,
              other_r g (suc j) (suc j) m h,
            ))
        at c p (no n) =
            w.rest (spot g (suc j) c) (off_place c p n) ∙ others c p n
            ∙ form_on c n (last_miss g c j (rw (here, h) refl))

    pub turn_held : holder g m ≡ true → Linked N M' (place g m) (g.ri m) (old_cell g m)
        → SweptTo g (suc j) (suc j) M'
    turn_held h w = record {
      at = λ c p. at c p (ℕ_discrete c m) (ℕ_discrete c (g.ri m));
      dead = λ c f l bare.
          w.rest c (not_placed c f bare) (λ q. true≢false (sym (ri_live g m s h) ∙ ap g.live (sym q) ∙ l))
          ∙ same c (apart c f l) ∙ u.dead c f l bare;
    }
      where
        later : j < pos g (g.ri m)
        later = pos_holder g m s h

        -- the right end of m, whose turn is ahead
        slave : N (g.ri m) ≡ mk (g.br (g.ri m)) false (last g (g.ri m) j) (val (g.ri (g.ri m)))
        slave =
            same (g.ri m) (ri_other g m s h)
            ∙ subst (λ (x : ℕ). M x ≡ sweep_cell g j 0 (g.ri m)) (spot_ahead g j (g.ri m) (omega (arith, later)))
            (u.at (g.ri m) (λ f p. absurd (omega (arith, later))))
            ∙ rw (later_l g j 0 (g.ri m) later, ahead_r g j 0 (g.ri m) (omega (arith, later)))

        at : (c : ℕ) → Stands g (suc j) c → Dec (c ≡ m) → Dec (c ≡ g.ri m)
            → M' (spot g (suc j) c) ≡ sweep_cell g (suc j) (suc j) c
        at c p (yes q) d =
            rw (q, spot_m) (w.at_m ∙ rw (
              slave,
              past_l g (suc j) (suc j) m (omega arith) h,
              past_r g (suc j) (suc j) m (omega arith) h,
              held_l_no g (suc j) (suc j) m (unmended h),
              held_r_no g (suc j) (suc j) m (unmended h),
            ))
        at c p (no n) (yes q) =
            rw (q, spot_ahead g (suc j) (g.ri m) (omega (arith, later))) (w.at_k ∙ rw (
              slave,
              ahead_r g (suc j) (suc j) (g.ri m) (omega (arith, later)),
              whole_l g (suc j) (g.ri m) (omega (arith, later)),
              last_hit g (g.ri m) j (ap (holder g) here ∙ h) (ap g.ri here),
              here,
            ))
        at c p (no n) (no y) =
            w.rest (spot g (suc j) c) (off_place c p n)
            (λ q. spot_other g s (suc j) c (g.ri m) p (λ f z. absurd (omega (arith, later))) y
            (q ∙ sym (spot_ahead g (suc j) (g.ri m) (omega (arith, later)))))
            ∙ others c p n ∙ form_on c n (last_miss g c j (rw (here, h) (ne_eqb (g.ri m) c (λ q. y (sym q)))))

  -- an unreached cell is passed over
  pub dead_turn : (M : ℕ → ChainCell) → g.live m ≡ false → g.F ≤ m → SweptTo g j 0 M → SweptTo g (suc j) (suc j) M
  dead_turn M l f u = record { at = at; dead = u.dead }
    where
      bare : holder g m ≡ false
      bare = go (holder g m) refl
        where
          go : (b : Bool) → holder g m ≡ b → holder g m ≡ false
          go false e = e
          go true e = absurd (true≢false (sym (holder_live g m e f) ∙ l))

      at : (c : ℕ) → Stands g (suc j) c → M (spot g (suc j) c) ≡ sweep_cell g (suc j) (suc j) c
      at c h =
          let n : c ≢ m = λ q. true≢false (sym (h (omega arith) (gone q)) ∙ ap g.live q ∙ l) in
          rw (spot_same g j c (pos_other g s c m n))
          (u.at c (stands_back c h) ∙ form_on c n (last_miss g c j (rw (here, bare) refl)))
        where
          gone : c ≡ m → pos g c < suc j
          gone q = let z : pos g c ≡ j = ap (pos g) q in omega arith

  -- ---- what is known

  pub known_on : (low c : ℕ) → Known g j 0 low c → Known g (suc j) (suc j) low c
  known_on low c k = record {
    reached = k.reached;
    covers = λ b h p q. go b h p q (ℕ_discrete b m);
  }
    where
      go : (b : ℕ) → holder g b ≡ true → pos g b < suc j → mended g (suc j) (suc j) b ≡ true → Dec (b ≡ m)
          → low ≤ g.li b
      go b h p q (yes e) =
          absurd (false≢true (sym (unmended (ap (holder g) (sym e) ∙ h)) ∙ ap (mended g (suc j) (suc j)) (sym e) ∙ q))
      go b h p q (no n) =
          let w : pos g b < j = (let z = pos_other g s b m n in omega arith) in
          k.covers b h w (mended_on b w ∙ q)
