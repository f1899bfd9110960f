-- The cells' fields in closed form, and where the cells stand, by what their turns are. In order:
--   last_hit .. last_some     the chain of a cell, one place on; where it leads on
--   ahead_l, ahead_r          the fields of a cell whose turn is ahead
--   past_l, past_r            of a holder whose turn is over;  other_l, other_r  of any other cell
--   spot_ahead, spot_past     where a cell stands;  spot_other  no two in one spot
-- Assumes nothing.
use mathlib.Core.Path.{◌≡◌, refl, sym, ◌∙◌, ap}
use mathlib.Core.Logic.{◌≢◌, ◌⊎◌, inl, inr}
use mathlib.Core.Bool.{Bool, true, false, cond, ◌&&◌}
use Prim.Native.Nat.{ℕ, zero, suc, ◌≤◌, ◌<◌}
use native.Mathlib.Omega.{arith}
use native.Mathlib.Decide.{dec_lt, ℕ_discrete}
use lib.Dec.{ltb, eqb}
use borrow.Author.Tests.{eqb-true, lt-ltb, le-ltb, eq-eqb, ne_eqb}
use Rattle.collect.specs.Cells.{Link, val, ptr}
use Rattle.collect.specs.Heap.{Heap, holder, Proper, pos, turn, place}
use Rattle.collect.specs.Chain.{last, held_l, held_r, sweep_l, sweep_r, spot, Stands}
use Rattle.meaning.proofs.Counting.{both_true}
use Rattle.collect.proofs.heap.Order.{pos_heap, turn_pos}
use Rattle.collect.proofs.heap.Places.{place_own, place_up, place_less}

-- the cell at place x in the order is a holder of m
abbrev pub holds : Heap → ℕ → ℕ → Bool
holds g m x = holder g (turn g x) && eqb (g.ri (turn g x)) m

-- ---- the chain of k

module _ (g : Heap) (k j : ℕ) where
  pub last_hit : holder g (turn g j) ≡ true → g.ri (turn g j) ≡ k → last g k (suc j) ≡ ptr (place g (turn g j))
  unfolding last
  last_hit h e = rw (h, eq-eqb (g.ri (turn g j)) k e)

  pub last_miss : holds g k j ≡ false → last g k (suc j) ≡ last g k j
  unfolding last
  last_miss e = rw e

pub last_zero : (g : Heap) (k : ℕ) → last g k 0 ≡ val (g.li k)
unfolding last
last_zero g k = refl

-- it leads on where some holder of k has had its turn
pub last_some : (g : Heap) → Proper g → (k b j : ℕ) → holder g b ≡ true → g.ri b ≡ k → pos g b < j
    → (last g k j).tag ≡ true
last_some g s k b zero h e lt = absurd (let z : ⊥ = omega arith in z)
last_some g s k b (suc j) h e lt = go (holds g k j) refl (ℕ_discrete (pos g b) j) (last_some g s k b j h e)
  where
    here : pos g b ≡ j → turn g j ≡ b
    here q = ap (turn g) (sym q) ∙ turn_pos g s b

    go : (t : Bool) → holds g k j ≡ t → Dec (pos g b ≡ j) → (pos g b < j → (last g k j).tag ≡ true)
        → (last g k (suc j)).tag ≡ true
    go true q d ih =
        let p = both_true (holder g (turn g j)) (eqb (g.ri (turn g j)) k) q in
        ap (λ (x : Link). x.tag) (last_hit g k j p.0 (eqb-true (g.ri (turn g j)) k p.1))
    go false q (yes d) ih =
        ap (λ (x : Link). x.tag) (last_hit g k j (ap (holder g) (here d) ∙ h) (ap g.ri (here d) ∙ e))
    go false q (no d) ih = ap (λ (x : Link). x.tag) (last_miss g k j q) ∙ ih (omega arith)

-- ---- the fields of c

module _ (g : Heap) (j x c : ℕ) where
  pub ahead_l : j ≤ pos g c → sweep_l g j x c ≡ last g c (cond (eqb (pos g c) j) x j)
  unfolding sweep_l
  ahead_l le = rw (le-ltb (pos g c) j le)

  pub next_l : pos g c ≡ j → sweep_l g j x c ≡ last g c x
  next_l e = ahead_l (omega arith) ∙ rw (eq-eqb (pos g c) j e)

  pub later_l : j < pos g c → sweep_l g j x c ≡ last g c j
  later_l lt = ahead_l (omega arith) ∙ rw (ne_eqb (pos g c) j (λ e. omega arith))

  pub ahead_r : j ≤ pos g c → sweep_r g j x c ≡ val (g.ri c)
  unfolding sweep_r
  ahead_r le = go (holder g c)
    where
      go : (b : Bool) → cond (b && ltb (pos g c) j) (held_r g j x c) (val (g.ri c)) ≡ val (g.ri c)
      go true = rw (le-ltb (pos g c) j le)
      go false = refl

  pub past_l : pos g c < j → holder g c ≡ true → sweep_l g j x c ≡ held_l g j x c
  unfolding sweep_l
  past_l lt h = rw (lt-ltb (pos g c) j lt, h)

  pub past_r : pos g c < j → holder g c ≡ true → sweep_r g j x c ≡ held_r g j x c
  unfolding sweep_r
  past_r lt h = rw (lt-ltb (pos g c) j lt, h)

  pub other_l : pos g c < j → holder g c ≡ false → sweep_l g j x c ≡ val (g.li c)
  unfolding sweep_l
  other_l lt h = rw (lt-ltb (pos g c) j lt, h)

  pub other_r : holder g c ≡ false → sweep_r g j x c ≡ val (g.ri c)
  unfolding sweep_r
  other_r h = rw h

-- where no chain is being undone
pub whole_l : (g : Heap) (j c : ℕ) → j ≤ pos g c → sweep_l g j j c ≡ last g c j
whole_l g j c le = ahead_l g j j c le ∙ go (eqb (pos g c) j)
  where
    go : (b : Bool) → last g c (cond b j j) ≡ last g c j
    go true = refl
    go false = refl

-- ---- where c stands

module _ (g : Heap) (j c : ℕ) where
  pub spot_ahead : j ≤ pos g c → spot g j c ≡ c
  unfolding spot
  spot_ahead le = rw (le-ltb (pos g c) j le)

  pub spot_past : pos g c < j → spot g j c ≡ place g c
  unfolding spot
  spot_past lt = rw (lt-ltb (pos g c) j lt)

pub spot_same : (g : Heap) (j c : ℕ) → pos g c ≢ j → spot g (suc j) c ≡ spot g j c
spot_same g j c n = go (dec_lt (pos g c) j)
  where
    go : Dec (pos g c < j) → spot g (suc j) c ≡ spot g j c
    go (yes p) = spot_past g (suc j) c (omega arith) ∙ sym (spot_past g j c p)
    go (no p) = spot_ahead g (suc j) c (omega arith) ∙ sym (spot_ahead g j c (omega arith))

module _ (g : Heap) (s : Proper g) (j : ℕ) where
  pub spot_reg : (c : ℕ) → c < g.F → spot g j c ≡ c
  spot_reg c p = go (dec_lt (pos g c) j)
    where
      go : Dec (pos g c < j) → spot g j c ≡ c
      go (yes q) = spot_past g j c q ∙ place_own g s c p
      go (no q) = spot_ahead g j c (omega arith)

  -- a heap cell whose turn is over stands above every cell below T whose turn is ahead
  moved_other : (c d : ℕ) → Stands g j d → g.F ≤ d → pos g d < j → (g.F ≤ c → j ≤ pos g c) → spot g j d ≢ c
  moved_other c d h f p a e =
      let up = place_up g s d (h f p) in
      let in_heap_lem = s.heap d (h f p) in
      let q : place g d ≡ c = sym (spot_past g j d p) ∙ e in
      let k : g.F ≤ c = omega arith in
      elim (dec_lt c g.T) [
        | yes l ↦ omega (arith, pos_heap g d f in_heap_lem.1, pos_heap g c k l, a k)
        | no l ↦ omega arith
      ]

  both_moved : (c d : ℕ) → Stands g j c → Stands g j d → g.F ≤ c → g.F ≤ d → pos g c < j → pos g d < j → c < d
      → spot g j c ≢ spot g j d
  both_moved c d hc hd fc fd pc pd lt e =
      omega (arith, place_less g s c d (hc fc pc) (hd fd pd) lt, spot_past g j c pc, spot_past g j d pd, e)

  -- a cell is where it was, or in the heap with its turn over
  kind : (c : ℕ) → ((spot g j c ≡ c) × (g.F ≤ c → j ≤ pos g c)) ⊎ ((g.F ≤ c) × (pos g c < j))
  kind c = go (dec_lt c g.F) (dec_lt (pos g c) j)
    where
      go : Dec (c < g.F) → Dec (pos g c < j)
          → ((spot g j c ≡ c) × (g.F ≤ c → j ≤ pos g c)) ⊎ ((g.F ≤ c) × (pos g c < j))
      go (yes f) q = inl (spot_reg c f, λ k. absurd (omega arith))
      go (no f) (yes q) = inr (omega arith, q)
      go (no f) (no q) = inl (spot_ahead g j c (omega arith), λ k. omega arith)

  pub spot_other : (c d : ℕ) → Stands g j c → Stands g j d → c ≢ d → spot g j c ≢ spot g j d
  spot_other c d hc hd n e = go (kind c) (kind d) (dec_lt c d)
    where
      go : ((spot g j c ≡ c) × (g.F ≤ c → j ≤ pos g c)) ⊎ ((g.F ≤ c) × (pos g c < j))
          → ((spot g j d ≡ d) × (g.F ≤ d → j ≤ pos g d)) ⊎ ((g.F ≤ d) × (pos g d < j)) → Dec (c < d) → ⊥
      go (inl a) (inl b) t = n (sym a.0 ∙ e ∙ b.0)
      go (inl a) (inr b) t = moved_other c d hd b.0 b.1 a.1 (sym e ∙ a.0)
      go (inr a) (inl b) t = moved_other d c hc a.0 a.1 b.1 (e ∙ b.0)
      go (inr a) (inr b) (yes t) = both_moved c d hc hd a.0 b.0 a.1 b.1 t e
      go (inr a) (inr b) (no t) = both_moved d c hd hc b.0 a.0 b.1 a.1 (omega arith) (sym e)
