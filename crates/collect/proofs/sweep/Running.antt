-- The loop over the cells that become known, one after the other. In order:
--   chain_is    the chain flag of the cell whose turn it is;  known_none  what is known of none
--   run_turn    the first turn;  run_within  what it leaves;  run_end  the loop left
--   run_next    the next turn;   run_again  the loop after it
--   run_place, run_room  what fits;  run_pred  the loop's cell as the one above the next
-- Assumes nothing.
use mathlib.Core.Path.{◌≡◌, refl, sym, ◌∙◌, ap, subst}
use mathlib.Core.Bool.{true}
use mathlib.Core.List.{List}
use Prim.Native.Nat.{ℕ, suc, ◌+◌, ◌-◌, ◌*◌, ◌^◌, ◌≤◌, ◌<◌}
use native.Mathlib.Omega.{arith}
use native.Mathlib.Decide.{ℕ_discrete}
use lib.ListN.{length}
use Rattle.words.specs.Cell.{second_word}
use Rattle.words.specs.Second.{decode}
use Rattle.meaning.proofs.sound.Cells.{limit_fits}
use Rattle.collect.specs.Cells.{Link, ChainCell, cell}
use Rattle.collect.specs.Heap.{Heap, holder, Proper, pos, place}
use Rattle.collect.specs.Chain.{last, mended, sweep_cell, Known}
use Rattle.collect.specs.Phases.{Sweeping, Turn, Head}
use Rattle.collect.specs.Passes.{MyTurn, Turned, AtHead, Passes}
use Rattle.collect.proofs.heap.Order.{pos_heap}
use Rattle.collect.proofs.heap.Places.{place_up, place_next}
use Rattle.collect.proofs.heap.Spots.{whole_l, spot_ahead}
use Rattle.collect.proofs.turn.Telling.{is_live}

-- the chain flag of the cell whose turn it is
pub chain_is : (g : Heap) (c : ℕ) {s : List ℕ} {w : ℕ} → Sweeping g s (pos g c) → w ≡ second_word s c
    → (decode w).lc ≡ (last g c (pos g c)).tag
chain_is g c {s} t e =
    ap (λ (x : ℕ). (decode x).lc) e
    ∙ ap (λ (x : ChainCell). x.l.tag)
    (subst (λ (x : ℕ). cell s x ≡ sweep_cell g (pos g c) (pos g c) c) (spot_ahead g (pos g c) c (omega arith))
    (t.at.at c (λ f q. absurd (omega arith))))
    ∙ ap (λ (x : Link). x.tag) (whole_l g (pos g c) c (omega arith))

-- where none is known, none is known further down
pub known_none : {g : Heap} {j x low c : ℕ} (d : ℕ) → d ≤ low → Known g j x low c → Known g j x d d
known_none d a k = record {
  reached = λ y p q. absurd (omega arith);
  covers = λ z h p q. omega (arith, k.covers z h p q);
}

-- c and the cells above it up to c₀ have had their turn, and those from `low` on are known
pub record Within (g : Heap) (s : List ℕ) (c₀ d low c : ℕ) : Type 0 where
  pub phase : Sweeping g s (suc (pos g c))
  pub high : c ≤ c₀
  pub live : (y : ℕ) → c ≤ y → y ≤ c₀ → g.live y ≡ true
  pub goes : place g c ≡ c + d
  pub known : Known g (suc (pos g c)) (suc (pos g c)) low c

-- the loop, from where the first turn leaves it
pub record Running (s₁ : List ℕ) (c₀ d low₁ : ℕ) (s : List ℕ) (low c : ℕ) : Type 0 where
  pub same : length s ≡ length s₁
  pub at : (g : Heap) → Within g s₁ c₀ d low₁ c₀ → Within g s c₀ d low c

-- ---- the first turn

module _ {s₀ : List ℕ} {c₀ w d : ℕ} where
  head_turn : (g : Heap) → Head g s₀ c₀ w d → Turn g s₀ c₀ w (c₀ + d) (c₀ + 1)
  head_turn g h =
      let p = h.phase.frame.proper in
      record {
        phase = h.phase;
        live =
            is_live g p c₀ (suc c₀) (cell s₀)
            (record {
              cells = h.phase.at;
              known = record { reached = λ y a b. absurd (omega arith); covers = h.known.covers };
            })
            (sym (chain_is g c₀ h.phase h.word) ∙ h.chain);
        word = h.word;
        goes = sym h.goes;
        known = record {
          reached = λ y a b. absurd (omega arith);
          covers = λ b k q z. omega (arith, h.known.covers b k q z);
        };
      }

  pub run_turn : AtHead s₀ c₀ w d → MyTurn s₀ c₀ w (c₀ + d) (c₀ + 1)
  run_turn o = (o.0, head_turn o.0 o.1)

  pub run_place : AtHead s₀ c₀ w d → (c₀ < 2 ^ 28) × (c₀ + d < 2 ^ 28)
  run_place o =
      let g = o.0 in
      let h = o.1 in
      let f = h.phase.frame in
      let l = (head_turn g h).live in (
        omega (arith, f.proper.heap c₀ l, f.room, f.len, limit_fits),
        omega (arith, h.goes, place_up g f.proper c₀ l, f.room, f.len, limit_fits),
      )

  module _ {s₁ : List ℕ} {low₁ : ℕ} (t : Turned s₀ s₁ c₀ w (c₀ + d) (c₀ + 1) low₁) where
    within : (g : Heap) → Head g s₀ c₀ w d → Within g s₁ c₀ d low₁ c₀
    within g h =
        let k = head_turn g h in
        record {
          phase = (t g k).0;
          high = omega arith;
          live = λ y a b. subst (λ (x : ℕ). g.live x ≡ true) (let q : c₀ ≡ y = omega arith in q) k.live;
          goes = h.goes;
          known = (t g k).1;
        }

    pub run_within : AtHead s₀ c₀ w d → (g : Heap) × Within g s₁ c₀ d low₁ c₀
    run_within o = (o.0, within o.0 o.1)

    pub run_end : {s : List ℕ} {low c : ℕ} → Running s₁ c₀ d low₁ s low c → c ≤ low → Passes s₀ s c₀ w d c
    run_end {c = c} r le g h =
        let k = r.at g (within g h) in
        record {
          phase = k.phase;
          low = (k.phase.frame.proper.heap c (k.live c (omega arith) k.high)).0;
          high = k.high;
          live = k.live;
          known = known_none c le k.known;
        }

-- ---- the next turn

module _ {s₁ : List ℕ} {c₀ d low₁ : ℕ} where
  -- the loop's cell as the one above the next
  pub run_pred : {s : List ℕ} {low c : ℕ} → low < c → Running s₁ c₀ d low₁ s low c
      → Running s₁ c₀ d low₁ s low (suc (c - 1))
  run_pred {s} {low} {c} lt r =
      subst (λ (x : ℕ). Running s₁ c₀ d low₁ s low x) (let e : c ≡ suc (c - 1) = omega arith in e) r

  module _ {s : List ℕ} {low c : ℕ} (r : Running s₁ c₀ d low₁ s low (suc c)) (lt : low < suc c) where
    module _ (g : Heap) (h : Within g s₁ c₀ d low₁ c₀) where
      abbrev k : Within g s c₀ d low (suc c)
      k = r.at g h

      abbrev p : Proper g
      p = k.phase.frame.proper

      above : g.live (suc c) ≡ true
      above = k.live (suc c) (omega arith) k.high

      mine : g.live c ≡ true
      mine = k.known.reached c (omega arith) (omega arith)

      next_pos : suc (pos g (suc c)) ≡ pos g c
      next_pos =
          let a = p.heap c mine in
          let b = p.heap (suc c) above in
          omega (arith, pos_heap g c a.0 a.1, pos_heap g (suc c) b.0 b.1, b.1)

      next_turn : {v : ℕ} → v ≡ second_word s c → Turn g s c v (c + d) low
      next_turn e = record {
        phase = subst (λ (x : ℕ). Sweeping g s x) next_pos k.phase;
        live = mine;
        word = e;
        goes = omega (arith, k.goes, place_next g p c mine above);
        known = record {
          reached = λ y a b. k.known.reached y a (omega arith);
          covers = subst (λ (x : ℕ). (b : ℕ) → holder g b ≡ true → pos g b < x → mended g x x b ≡ true → low ≤ g.li b)
              next_pos k.known.covers;
        };
      }

    pub run_room : ((g : Heap) × Within g s₁ c₀ d low₁ c₀) → (2 * c + 1 < length s) × (c + d < 2 ^ 28)
    run_room o =
        let f = (k o.0 o.1).phase.frame in
        let t = next_turn o.0 o.1 refl in (
          omega (arith, f.room, f.proper.heap c t.live),
          omega (arith, t.goes, place_up o.0 f.proper c t.live, f.room, f.len, limit_fits),
        )

    pub run_next : ((g : Heap) × Within g s₁ c₀ d low₁ c₀) → {v : ℕ} → v ≡ second_word s c → MyTurn s c v (c + d) low
    run_next o e = (o.0, next_turn o.0 o.1 e)

    pub run_again : {v : ℕ} → v ≡ second_word s c → {s' : List ℕ} {low' : ℕ} → length s' ≡ length s
        → Turned s s' c v (c + d) low low' → Running s₁ c₀ d low₁ s' low' c
    run_again e len t = record {
      same = len ∙ r.same;
      at = λ g h.
          let z = next_turn g h e in
          let q = t g z in
          record {
            phase = q.0;
            high = omega (arith, (k g h).high);
            live = λ y a b. go g h y a b (ℕ_discrete y c);
            goes = sym z.goes;
            known = q.1;
          };
    }
      where
        go : (g : Heap) (h : Within g s₁ c₀ d low₁ c₀) (y : ℕ) → c ≤ y → y ≤ c₀ → Dec (y ≡ c) → g.live y ≡ true
        go g h y a b (yes q) = ap g.live q ∙ mine g h
        go g h y a b (no n) = (k g h).live y (omega arith) b
