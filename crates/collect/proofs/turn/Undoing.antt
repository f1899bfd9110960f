-- The chain of m undone, in its turn; with the cells goes what the sweep knows of them. In order:
--   Undone       the cells and what is known, the chain undone down to a place in the order
--   chain_head   where it leads on, the next holder;  chain_end  where it does not, the chain is gone
--   unlink_none  a cell without holders has no chain
--   unlink_apart, unlink_low, unlink_span, unlink_first  what is known of the next holder
--   unlink_hit   it is taken off
-- Assumes nothing.
use mathlib.Core.Path.{◌≡◌, refl, sym, ◌∙◌, ap, subst}
use mathlib.Core.Logic.{◌≢◌}
use mathlib.Core.Bool.{Bool, true, false, true≢false}
use Prim.Native.Nat.{ℕ, zero, suc, ◌-◌, ◌≤◌, ◌<◌, min}
use native.Mathlib.Omega.{arith}
use native.Mathlib.Decide.{dec_lt, ℕ_discrete}
use lib.Dec.{eqb}
use borrow.Author.Tests.{eqb-true, eq-eqb}
use Rattle.collect.specs.Cells.{ChainCell, val}
use Rattle.collect.specs.Heap.{Heap, holder, Proper, pos, turn, place, span}
use Rattle.collect.specs.Chain.{last, mended, sweep_l, sweep_cell, old_cell, spot, Stands, SweptTo, Known}
use Rattle.collect.specs.Step.{Unlinked}
use Rattle.meaning.proofs.Counting.{both_true}
use Rattle.collect.proofs.heap.Order.{turn_pos, pos_turn, pos_other, pos_holder, holder_live, ri_other, ri_live}
use Rattle.collect.proofs.heap.Places.{place_own, place_up, place_run}
use Rattle.collect.proofs.heap.Spots.{holds, last_miss, ahead_r, next_l, later_l, past_l, past_r}
use Rattle.collect.proofs.heap.Spots.{other_l, other_r, spot_ahead, spot_past, spot_other}
use Rattle.collect.proofs.heap.Mending.{mended_same, mended_off, mended_yes, mended_no, held_l_same, held_r_same}
use Rattle.collect.proofs.heap.Mending.{held_l_yes, held_l_no, held_r_yes, held_r_no}

module _ (g : Heap) (s : Proper g) (m : ℕ) where
  abbrev j : ℕ
  j = pos g m

  -- a cell's form, one place down the chain
  form_same : (x c : ℕ) → (holder g c ≡ true → mended g j (suc x) c ≡ mended g j x c)
      → (c ≡ m → last g m (suc x) ≡ last g m x) → sweep_cell g j (suc x) c ≡ sweep_cell g j x c
  form_same x c e k = go (dec_lt (pos g c) j) (holder g c) refl (ℕ_discrete c m)
    where
      go : Dec (pos g c < j) → (b : Bool) → holder g c ≡ b → Dec (c ≡ m)
          → sweep_cell g j (suc x) c ≡ sweep_cell g j x c
      go (yes p) true h d =
          rw (
            past_l g j (suc x) c p h,
            past_l g j x c p h,
            past_r g j (suc x) c p h,
            past_r g j x c p h,
            held_l_same g j x c (e h),
            held_r_same g j x c (e h),
          )
      go (yes p) false h d =
          rw (other_l g j (suc x) c p h, other_l g j x c p h, other_r g j (suc x) c h, other_r g j x c h)
      go (no p) b h (yes q) =
          let w : pos g c ≡ j = ap (pos g) q in
          rw (
            ahead_r g j (suc x) c (omega arith),
            ahead_r g j x c (omega arith),
            next_l g j (suc x) c w,
            next_l g j x c w,
          ) (rw (q, k q))
      go (no p) b h (no q) =
          let w : j < pos g c = (let z = pos_other g s c m q in omega arith) in
          rw (
            ahead_r g j (suc x) c (omega arith),
            ahead_r g j x c (omega arith),
            later_l g j (suc x) c w,
            later_l g j x c w,
          )

  -- the cell at place x in the order is no holder of m
  skip_mended : (x c : ℕ) → holds g m x ≡ false → holder g c ≡ true → mended g j (suc x) c ≡ mended g j x c
  skip_mended x c e h = go (ℕ_discrete (pos g c) x)
    where
      go : Dec (pos g c ≡ x) → mended g j (suc x) c ≡ mended g j x c
      go (no n) = mended_same g j x c n
      go (yes q) = mended_off g j x c (λ w. true≢false (sym (held w) ∙ e))
        where
          here : turn g x ≡ c
          here = ap (turn g) (sym q) ∙ turn_pos g s c

          held : pos g (g.ri c) ≡ j → holds g m x ≡ true
          held w =
              let z : g.ri c ≡ m = sym (turn_pos g s (g.ri c)) ∙ ap (turn g) w ∙ turn_pos g s m in
              rw (here, h, z) (eq-eqb m m refl)

  pub record Undone (x low : ℕ) (M : ℕ → ChainCell) : Type 0 where
    pub cells : SweptTo g j x M
    pub known : Known g j x low m

  unlink_skip : (x low : ℕ) (M : ℕ → ChainCell) → holds g m x ≡ false → Undone (suc x) low M → Undone x low M
  unlink_skip x low M e u = record {
    cells = record {
      at = λ c h. u.cells.at c h ∙ form_same x c (skip_mended x c e) (λ q. last_miss g m x e);
      dead = u.cells.dead;
    };
    known = record {
      reached = u.known.reached;
      covers = λ b h p q. u.known.covers b h p (skip_mended x b e h ∙ q);
    };
  }

  -- where the chain leads on, its head is the last holder of m before place x
  pub record Head (x low : ℕ) (M : ℕ → ChainCell) : Type 0 where
    pub k : ℕ
    pub holder : holder g k ≡ true
    pub names : g.ri k ≡ m
    pub is : (last g m x).num ≡ place g k
    pub at : Undone (suc (pos g k)) low M

  pub chain_head : (x low : ℕ) (M : ℕ → ChainCell) → Undone x low M → (last g m x).tag ≡ true → Head x low M
  unfolding last
  chain_head zero low M u e = absurd (true≢false (sym e))
  chain_head (suc x) low M u e = go (holds g m x) refl (chain_head x low M)
    where
      go : (b : Bool) → holds g m x ≡ b → (Undone x low M → (last g m x).tag ≡ true → Head x low M) → Head (suc x) low M
      go true q ih =
          let p = both_true (holder g (turn g x)) (eqb (g.ri (turn g x)) m) q in
          record {
            k = turn g x;
            holder = p.0;
            names = eqb-true (g.ri (turn g x)) m p.1;
            is = rw q;
            at = subst (λ (y : ℕ). Undone (suc y) low M) (sym (pos_turn g s x)) u;
          }
      go false q ih =
          let h = ih (unlink_skip x low M q u) (rw q at e) in
          record { k = h.k; holder = h.holder; names = h.names; is = rw q h.is; at = h.at }

  -- where it does not, no holder is left
  pub chain_end : (x low : ℕ) (M : ℕ → ChainCell) → Undone x low M → (last g m x).tag ≡ false → Undone 0 low M
  unfolding last
  chain_end zero low M u e = u
  chain_end (suc x) low M u e = go (holds g m x) refl (chain_end x low M)
    where
      go : (b : Bool) → holds g m x ≡ b → (Undone x low M → (last g m x).tag ≡ false → Undone 0 low M) → Undone 0 low M
      go true q ih = absurd (true≢false (rw q at e))
      go false q ih = ih (unlink_skip x low M q u) (rw q at e)

  -- a cell without holders
  pub unlink_none : (x low : ℕ) (M : ℕ → ChainCell) → ((b : ℕ) → holder g b ≡ true → g.ri b ≢ m) → Undone x low M
      → Undone 0 low M
  unlink_none zero low M n u = u
  unlink_none (suc x) low M n u = unlink_none x low M n (unlink_skip x low M (miss (holds g m x) refl) u)
    where
      miss : (b : Bool) → holds g m x ≡ b → holds g m x ≡ false
      miss false q = q
      miss true q =
          let p = both_true (holder g (turn g x)) (eqb (g.ri (turn g x)) m) q in
          absurd (n (turn g x) p.0 (eqb-true (g.ri (turn g x)) m p.1))

  -- the holder k is taken off
  module _ (k : ℕ) (h : holder g k ≡ true) (e : g.ri k ≡ m) where
    turned : pos g k < j
    turned = subst (λ (x : ℕ). pos g k < pos g x) e (pos_holder g k s h)

    off : k ≢ m
    off q = ri_other g k s h (e ∙ sym q)

    stands_k : Stands g j k
    stands_k f p = holder_live g k h f

    stands_m : Stands g j m
    stands_m f p = absurd (omega arith)

    -- it stands elsewhere than m, below T, and its length less one is no more than m's place
    pub unlink_apart : place g k ≢ m
    unlink_apart q =
        spot_other g s j k m stands_k stands_m off
        (spot_past g j k turned ∙ q ∙ sym (spot_ahead g j m (omega arith)))

    pub unlink_low : place g k < g.T
    unlink_low = go (dec_lt k g.F)
      where
        go : Dec (k < g.F) → place g k < g.T
        go (yes p) = omega (arith, place_own g s k p, s.FT)
        go (no p) = (place_up g s k (holder_live g k h (omega arith))).1

    pub unlink_span : (span g k ≤ place g m) × (span g k ≤ m)
    unlink_span = (omega (arith, place_run g s k h, ap (place g) e), omega (arith, e))

    -- what its first word is
    pub unlink_first : (low : ℕ) (M : ℕ → ChainCell) → Undone (suc (pos g k)) low M → (M (place g k)).l ≡ val (span g k)
    unlink_first low M u =
        subst (λ (x : ℕ). (M x).l ≡ sweep_l g j (suc (pos g k)) k) (spot_past g j k turned)
        (ap (λ (x : ChainCell). x.l) (u.cells.at k stands_k))
        ∙ past_l g j (suc (pos g k)) k turned h ∙ held_l_no g j (suc (pos g k)) k (mended_no g j k (ap (pos g) e))

    live_m : g.live m ≡ true
    live_m = subst (λ (x : ℕ). g.live x ≡ true) e (ri_live g k s h)

    pub unlink_hit : (low : ℕ) (M M' : ℕ → ChainCell) → Undone (suc (pos g k)) low M
        → Unlinked M M' m (place g k) (place g m) → Undone (pos g k) (min (m - span g k) low) M'
    unlink_hit low M M' u w = record {
      cells = record { at = λ c p. at c p (ℕ_discrete c m) (ℕ_discrete c k); dead = dead };
      known = record { reached = reached; covers = λ b p q r. covers b p q r (ℕ_discrete b k) };
    }
      where
        mk_m : M m ≡ sweep_cell g j (suc (pos g k)) m
        mk_m = subst (λ (x : ℕ). M x ≡ sweep_cell g j (suc (pos g k)) m) (spot_ahead g j m (omega arith))
            (u.cells.at m stands_m)

        mk_k : M (place g k) ≡ sweep_cell g j (suc (pos g k)) k
        mk_k = subst (λ (x : ℕ). M x ≡ sweep_cell g j (suc (pos g k)) k) (spot_past g j k turned)
            (u.cells.at k stands_k)

        on : pos g (g.ri k) ≡ j
        on = ap (pos g) e

        at : (c : ℕ) → Stands g j c → Dec (c ≡ m) → Dec (c ≡ k) → M' (spot g j c) ≡ sweep_cell g j (pos g k) c
        at c p (yes q) d =
            rw (q, spot_ahead g j m (omega arith)) (w.at_m ∙ rw (
              mk_m,
              mk_k,
              past_r g j (suc (pos g k)) k turned h,
              held_r_no g j (suc (pos g k)) k (mended_no g j k on),
              e,
              next_l g j (pos g k) m refl,
              ahead_r g j (suc (pos g k)) m (omega arith),
              ahead_r g j (pos g k) m (omega arith),
            ))
        at c p (no n) (yes q) =
            rw (q, spot_past g j k turned) (w.at_k ∙ rw (
              mk_k,
              past_l g j (suc (pos g k)) k turned h,
              held_l_no g j (suc (pos g k)) k (mended_no g j k on),
              past_l g j (pos g k) k turned h,
              past_r g j (pos g k) k turned h,
              held_l_yes g j (pos g k) k (mended_yes g j k on),
              held_r_yes g j (pos g k) k (mended_yes g j k on),
              e,
            ))
        at c p (no n) (no y) =
            w.rest (spot g j c)
            (λ q. spot_other g s j c m p stands_m n (q ∙ sym (spot_ahead g j m (omega arith))))
            (λ q. spot_other g s j c k p stands_k y (q ∙ sym (spot_past g j k turned)))
            ∙ u.cells.at c p
            ∙ form_same (pos g k) c (λ z. mended_same g j (pos g k) c (pos_other g s c k y)) (λ q. absurd (n q))

        dead : (c : ℕ) → g.F ≤ c → g.live c ≡ false → ((y : ℕ) → g.live y ≡ true → place g y ≢ c)
            → M' c ≡ old_cell g c
        dead c f l bare =
            w.rest c (λ q. true≢false (sym live_m ∙ ap g.live (sym q) ∙ l)) (λ q. away q (dec_lt k g.F))
            ∙ u.cells.dead c f l bare
          where
            away : c ≡ place g k → Dec (k < g.F) → ⊥
            away q (yes r) = omega (arith, place_own g s k r)
            away q (no r) = bare k (holder_live g k h (omega arith)) (sym q)

        reached : (y : ℕ) → min (m - span g k) low ≤ y → y < m → g.live y ≡ true
        reached y p q = go (dec_lt y low)
          where
            go : Dec (y < low) → g.live y ≡ true
            go (no r) = u.known.reached y (omega arith) q
            go (yes r) = s.kept k y h (omega (arith, s.ends k h, e)) (omega (arith, e))

        covers : (b : ℕ) → holder g b ≡ true → pos g b < j → mended g j (pos g k) b ≡ true → Dec (b ≡ k)
            → min (m - span g k) low ≤ g.li b
        covers b p q r (yes z) = rw z (omega (arith, s.ends k h, e))
        covers b p q r (no z) =
            omega (arith, u.known.covers b p q (mended_same g j (pos g k) b (pos_other g s b k z) ∙ r))
