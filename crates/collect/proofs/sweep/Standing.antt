-- A cell put down in its turn: what `stand` is asked for, and the phase after it; a reached cell's turn; the loop over
-- the registers. In order:
--   frame_on                          the frame of a phase holds for any words as long
--   can_stand, has_stood              in a cell's turn: what `stand` is asked for, and the phase after it
--   turn_small                        a reached cell's new address fits 28 bits
--   turn_stands, turn_over            a reached cell's turn, its chain undone: it may stand, and the phase after it
--   Registers                         r registers are done;  registers_end  all are
--   registers_stand                   the next one may stand;  registers_again  it has
-- Assumes nothing.
use mathlib.Core.Path.{◌≡◌, refl, sym, ◌∙◌, ap, subst}
use mathlib.Core.Logic.{◌≢◌}
use mathlib.Core.Bool.{Bool, true, false, cond, ◌&&◌, ◌||◌}
use mathlib.Core.List.{List}
use Prim.Native.Nat.{ℕ, zero, suc, ◌+◌, ◌^◌, ◌≤◌, ◌<◌}
use native.Mathlib.Omega.{arith}
use native.Mathlib.Decide.{dec_lt}
use lib.Dec.{ltb, eqb}
use lib.ListN.{length}
use borrow.Author.Tests.{lt-ltb, le-ltb}
use Rattle.words.specs.Cell.{first_word, second_word, put_cell}
use Rattle.words.specs.Second.{decode, full, full_word}
use Rattle.meaning.specs.Limits.{first_heap_cell}
use Rattle.meaning.proofs.sound.Cells.{limit_fits}
use Rattle.collect.specs.Cells.{Link, ChainCell, linked, cell, ptr}
use Rattle.collect.specs.Heap.{Heap, holder, Proper, pos, turn, place}
use Rattle.collect.specs.Chain.{last, sweep_cell, old_cell, SweptTo}
use Rattle.collect.specs.Step.{Linked, Laid}
use Rattle.collect.specs.Phases.{Frame, Sweeping, Turn}
use Rattle.collect.specs.Passes.{Linkable, Standable, Stood, MyTurn, Releases, Turned, Untouched}
use Rattle.collect.specs.Passes.{HoldsRegisters}
use Rattle.collect.proofs.heap.Order.{pos_reg, holder_full, holder_live, pos_holder, ri_other}
use Rattle.collect.proofs.heap.Places.{place_own, place_up}
use Rattle.collect.proofs.heap.Spots.{later_l, spot_ahead}
use Rattle.collect.proofs.turn.Turning.{own, turn_held, turn_laid, known_on}
use Rattle.collect.proofs.turn.Telling.{reg_undone}
use Rattle.collect.proofs.Puts.{cell_put, cell_put_other}

-- ---- a turn

pub frame_on : {g : Heap} {s : List ℕ} (s' : List ℕ) → length s' ≡ length s → Frame g s → Frame g s'
frame_on s' e f = record {
  proper = f.proper;
  first = f.first;
  room = omega (arith, f.room);
  len = omega (arith, f.len);
  small = f.small;
}

-- a register or reached cell's place is below T
place_low : (g : Heap) → Proper g → (c : ℕ) → (ltb c g.F || g.live c) ≡ true → place g c < g.T
place_low g p c k = go (dec_lt c g.F)
  where
    go : Dec (c < g.F) → place g c < g.T
    go (yes l) = omega (arith, place_own g p c l, p.FT)
    go (no l) = (place_up g p c (rw (le-ltb c g.F (omega arith)) at k)).1

-- every link fits 28 bits
last_small : (g : Heap) → ((c : ℕ) → g.li c < 2 ^ 28) → ((c : ℕ) → holder g c ≡ true → place g c < 2 ^ 28) → (k j : ℕ)
    → (last g k j).num < 2 ^ 28
unfolding last
last_small g h b k zero = h k
last_small g h b k (suc j) = go (holder g (turn g j)) refl (eqb (g.ri (turn g j)) k) (last_small g h b k j)
  where
    go : (x : Bool) → holder g (turn g j) ≡ x → (y : Bool) → (last g k j).num < 2 ^ 28
        → (cond (holder g (turn g j) && y) (ptr (place g (turn g j))) (last g k j)).num < 2 ^ 28
    go true e true ih = rw e (b (turn g j) e)
    go true e false ih = rw e ih
    go false e y ih = rw e ih

-- The cell m, whose turn it is, its chain undone: M are the cells with m's words a and b put back, s the words without.
module _ {g : Heap} {s : List ℕ} (f : Frame g s) (m a b : ℕ) (k : (ltb m g.F || g.live m) ≡ true)
    (M : ℕ → ChainCell) (u : SweptTo g (pos g m) 0 M) (same : (c : ℕ) → c ≢ m → cell s c ≡ M c)
    (mine : linked a (decode b) ≡ M m) where
  abbrev p : Proper g
  p = f.proper

  is : linked a (decode b) ≡ old_cell g m
  is = mine ∙ own g p m M u

  first : a ≡ g.li m
  first = ap (λ (c : ChainCell). c.l.num) is

  right : (decode b).ri ≡ g.ri m
  right = ap (λ (c : ChainCell). c.r.num) is

  is_holder : holder g m ≡ full_word b
  is_holder = holder_full g m k ∙ sym (λ i. full (is i).br (is i).r.num)

  linkable : holder g m ≡ true → Linkable s (place g m) a b
  linkable h = record {
    m_in = omega (arith, f.room, place_low g p m k);
    k_in = omega (arith, f.room, right, p.ends m h);
    len = f.len;
    apart = λ q. apart q (dec_lt m g.F);
    small = rw (right, slave) (last_small g f.small low (g.ri m) (pos g m));
    bare = ap (λ (c : ChainCell). c.l.tag) is;
    order = omega (arith, first, right, p.ends m h);
  }
    where
      low : (c : ℕ) → holder g c ≡ true → place g c < 2 ^ 28
      low c e = omega (arith, place_low g p c (kept c e), f.room, f.len, limit_fits)
        where
          kept : (c : ℕ) → holder g c ≡ true → (ltb c g.F || g.live c) ≡ true
          kept c e = go (dec_lt c g.F)
            where
              go : Dec (c < g.F) → (ltb c g.F || g.live c) ≡ true
              go (yes l) = rw (lt-ltb c g.F l)
              go (no l) = rw (le-ltb c g.F (omega arith)) (holder_live g c e (omega arith))

      apart : place g m ≡ (decode b).ri → Dec (m < g.F) → ⊥
      apart q (yes l) = omega (arith, place_own g p m l, right, p.ends m h)
      apart q (no l) =
          omega (
            arith,
            place_up g p m (holder_live g m h (omega arith)),
            right,
            p.down m h (omega arith),
          )

      slave : first_word s (g.ri m) ≡ (last g (g.ri m) (pos g m)).num
      slave =
          let later = pos_holder g m p h in
          ap (λ (c : ChainCell). c.l.num) (same (g.ri m) (ri_other g m p h)
          ∙ subst (λ (x : ℕ). M x ≡ sweep_cell g (pos g m) 0 (g.ri m))
          (spot_ahead g (pos g m) (g.ri m) (omega (arith, later)))
          (u.at (g.ri m) (λ q r. absurd (omega (arith, later)))))
          ∙ ap (λ (x : Link). x.num) (later_l g (pos g m) 0 (g.ri m) later)

  pub can_stand : Standable s (place g m) a b
  can_stand = record {
    m_in = omega (arith, f.room, place_low g p m k);
    bare = λ i. record {
      br = (decode b).br;
      used = (is i).used;
      lc = (is i).l.tag;
      rc = (is i).r.tag;
      ri = (decode b).ri;
    };
    link = λ e. linkable (is_holder ∙ e);
  }

  pub has_stood : (s' : List ℕ) → length s' ≡ length s → Stood s s' (place g m) a b → Sweeping g s' (suc (pos g m))
  has_stood s' len w = record { frame = frame_on s' len f; at = go (full_word b) refl }
    where
      go : (t : Bool) → full_word b ≡ t → SweptTo g (suc (pos g m)) (suc (pos g m)) (cell s')
      go true e =
          turn_held g p m k M (cell s) (cell s') u same (is_holder ∙ e)
          (subst (λ (x : ChainCell). Linked (cell s) (cell s') (place g m) (g.ri m) x) is
          (subst (λ (x : ℕ). Linked (cell s) (cell s') (place g m) x (linked a (decode b))) right (w.held e)))
      go false e =
          turn_laid g p m k M (cell s) (cell s') u same (is_holder ∙ e)
          (subst (λ (x : ChainCell). Laid (cell s) (cell s') (place g m) x) is (w.laid e))

-- ---- a reached cell's turn: its chain undone, then put down

module _ {s : List ℕ} {c w to low : ℕ} where
  pub turn_small : MyTurn s c w to low → to < 2 ^ 28
  turn_small o =
      let t = o.1 in
      let f = t.phase.frame in
      omega (arith, t.goes, place_up o.0 f.proper c t.live, f.room, f.len, limit_fits)

  kept : (g : Heap) → Turn g s c w to low → (ltb c g.F || g.live c) ≡ true
  kept g t = rw (le-ltb c g.F (t.phase.frame.proper.heap c t.live).0) t.live

  module _ (s₁ : List ℕ) (a b low' : ℕ) (len : length s₁ ≡ length s) (r : Releases s s₁ c w to low a b low') where
    -- the words of c put back are those of c
    mine : (g : Heap) → Turn g s c w to low → linked a (decode b) ≡ cell (put_cell s₁ c a b) c
    mine g t =
        let f = t.phase.frame in
        sym (cell_put s₁ c a b (omega (arith, f.room, f.proper.heap c t.live, len)))

    pub turn_stands : MyTurn s c w to low → Standable s₁ to a b
    turn_stands o =
        let g = o.0 in
        let t = o.1 in
        subst (λ (x : ℕ). Standable s₁ x a b) (sym t.goes)
        (can_stand (frame_on s₁ len t.phase.frame) c a b (kept g t) (cell (put_cell s₁ c a b)) (r g t).0
        (λ x n. sym (cell_put_other s₁ c a b x n)) (mine g t))

    pub turn_over : (s₂ : List ℕ) → length s₂ ≡ length s₁ → Stood s₁ s₂ to a b → Turned s s₂ c w to low low'
    turn_over s₂ len₂ d g t = (
      has_stood (frame_on s₁ len t.phase.frame) c a b (kept g t) (cell (put_cell s₁ c a b)) (r g t).0
          (λ x n. sym (cell_put_other s₁ c a b x n)) (mine g t) s₂ len₂
          (subst (λ (x : ℕ). Stood s₁ s₂ x a b) t.goes d),
      known_on g t.phase.frame.proper c low' c (r g t).1,
    )

-- ---- the registers

pub record Registers (s₀ s : List ℕ) (r : ℕ) : Type 0 where
  pub hi : r ≤ first_heap_cell
  pub same : length s ≡ length s₀
  pub at : (g : Heap) → Sweeping g s₀ 0 → Sweeping g s r

pub registers_end : {s₀ s : List ℕ} {r : ℕ} → Registers s₀ s r → first_heap_cell ≤ r → HoldsRegisters s₀ s
registers_end {s = s} {r = r} w le g t =
    subst (λ (x : ℕ). Sweeping g s x) (let q : r ≡ g.F = omega (arith, w.hi, t.frame.first) in q) (w.at g t)

module _ {s₀ s : List ℕ} {r : ℕ} (w : Registers s₀ s r) (lt : r < first_heap_cell) where
  module _ {a v : ℕ} (ea : a ≡ first_word s r) (ev : v ≡ second_word s r) where
    low : (g : Heap) → Sweeping g s₀ 0 → r < g.F
    low g t = omega (arith, t.frame.first)

    undone : (g : Heap) (t : Sweeping g s₀ 0) → SweptTo g (pos g r) 0 (cell s)
    undone g t =
        let p = t.frame.proper in
        let l = low g t in
        (reg_undone g p r r (cell s) l (record {
          cells = subst (λ (x : ℕ). SweptTo g x x (cell s)) (sym (pos_reg g r l)) (w.at g t).at;
          known = record { reached = λ y a b. absurd (omega arith); covers = λ b h q z. omega (arith, p.ends b h) };
        })).cells

    pub registers_stand : Untouched s₀ → Standable s r a v
    registers_stand o =
        let g = o.0 in
        let t = o.1 in
        let l = low g t in
        subst (λ (x : ℕ). Standable s x a v) (place_own g t.frame.proper r l)
        (can_stand (w.at g t).frame r a v (rw (lt-ltb r g.F l)) (cell s) (undone g t) (λ x n. refl) (rw (ea, ev)))

    pub registers_again : {s' : List ℕ} → length s' ≡ length s → Stood s s' r a v → Registers s₀ s' (r + 1)
    registers_again {s'} len d = record { hi = omega arith; same = len ∙ w.same; at = at }
      where
        at : (g : Heap) → Sweeping g s₀ 0 → Sweeping g s' (r + 1)
        at g t =
            let l = low g t in
            let e : suc (pos g r) ≡ r + 1 = omega (arith, pos_reg g r l) in
            subst (λ (x : ℕ). Sweeping g s' x) e
            (has_stood (w.at g t).frame r a v (rw (lt-ltb r g.F l)) (cell s) (undone g t) (λ x n. refl)
            (rw (ea, ev)) s' len (subst (λ (x : ℕ). Stood s s' x a v) (sym (place_own g t.frame.proper r l)) d))
