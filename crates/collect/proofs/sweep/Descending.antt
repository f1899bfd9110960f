-- The loop down the whole heap. In order:
--   registered  where it starts;  down_start  the loop there;  down_end  the loop left
--   down_head   the turn of a cell with a chain;  down_known  the loop after it and those that become known;  down_less
--   down_dead   the loop after an unreached cell;  down_room  what fits;  down_pred  the cell above the next
-- Assumes nothing.
use mathlib.Core.Path.{◌≡◌, refl, sym, ◌∙◌, ap, subst}
use mathlib.Core.Bool.{true, false, cond}
use mathlib.Core.List.{List}
use Prim.Native.Nat.{ℕ, suc, ◌+◌, ◌-◌, ◌*◌, ◌^◌, ◌≤◌, ◌<◌}
use native.Mathlib.Omega.{arith}
use lib.ListN.{length}
use borrow.Author.Tests.{lt-leb, ltb-true}
use Rattle.words.specs.Cell.{second_word}
use Rattle.words.specs.Second.{decode}
use Rattle.meaning.specs.Limits.{first_heap_cell}
use Rattle.meaning.proofs.sound.Cells.{limit_fits}
use Rattle.collect.specs.Cells.{cell}
use Rattle.collect.specs.Heap.{Heap, holder, Proper, pos}
use Rattle.collect.specs.Chain.{mended, Known}
use Rattle.collect.specs.Phases.{Sweeping, Head, Begun}
use Rattle.collect.specs.Passes.{HoldsRegisters, AtHead, Passes, Sweeps}
use Rattle.collect.proofs.heap.Order.{pos_heap}
use Rattle.collect.proofs.heap.Places.{new_bound, new_run_lem, place_lift}
use Rattle.collect.proofs.turn.Undoing.{Undone}
use Rattle.collect.proofs.turn.Turning.{dead_turn, known_on}
use Rattle.collect.proofs.turn.Telling.{dead_undone, is_live, is_dead}
use Rattle.collect.proofs.sweep.Running.{chain_is, known_none}

-- the number of turns that are over when the heap cells from c up have had theirs
abbrev turns : Heap → ℕ → ℕ
turns g c = g.F + (g.T - c)

-- a holder is mended once its right end has had its turn
mended_late : (g : Heap) (j b : ℕ) → pos g b < j → mended g j j b ≡ true → pos g (g.ri b) < j
unfolding mended
mended_late g j b p e = ltb-true (pos g (g.ri b)) j (rw (lt-leb j (pos g b) p) at e)

-- the registers have had their turn
pub record Registered (g : Heap) (s : List ℕ) (top : ℕ) (lifts : ℕ → ℕ → Type 0) : Type 0 where
  pub phase : Sweeping g s g.F
  pub ends : g.T ≡ top
  pub up : (dead d : ℕ) → lifts dead d → d ≡ cond g.packs dead 0

pub registered : {s s₁ : List ℕ} {top : ℕ} {lifts : ℕ → ℕ → Type 0} → HoldsRegisters s s₁ → (g : Heap)
    → Begun g s top lifts → Registered g s₁ top lifts
registered h g b = record { phase = h g b.phase; ends = b.ends; up = b.up }

-- the heap cells from c up have had their turn, none below is known, and `dead` of them are unreached
pub record Down (g : Heap) (s : List ℕ) (dead c : ℕ) : Type 0 where
  pub phase : Sweeping g s (turns g c)
  pub low : g.F ≤ c
  pub high : c ≤ g.T
  pub known : Known g (turns g c) (turns g c) c c
  pub gone : dead + c + g.new g.T ≡ g.T + g.new c

pub record Descending (s₁ : List ℕ) (top : ℕ) (lifts : ℕ → ℕ → Type 0) (s : List ℕ) (dead c : ℕ) : Type 0 where
  pub same : length s ≡ length s₁
  pub at : (g : Heap) → Registered g s₁ top lifts → Down g s dead c

module _ {s₁ : List ℕ} {top : ℕ} {lifts : ℕ → ℕ → Type 0} where
  pub down_start : Descending s₁ top lifts s₁ 0 top
  down_start = record {
    same = refl;
    at = λ g t.
        let p = t.phase.frame.proper in
        let e : g.F ≡ turns g top = omega (arith, t.ends) in
        record {
          phase = subst (λ (x : ℕ). Sweeping g s₁ x) e t.phase;
          low = omega (arith, t.ends, p.FT);
          high = omega (arith, t.ends);
          known = record {
            reached = λ y a b. absurd (omega arith);
            covers =
                subst (λ (x : ℕ). (b : ℕ) → holder g b ≡ true → pos g b < x → mended g x x b ≡ true → top ≤ g.li b)
                e (λ b h q z. absurd (fresh g p b h q z));
          };
          gone = omega (arith, ap g.new t.ends, t.ends);
        };
  }
    where
      fresh : (g : Heap) → Proper g → (b : ℕ) → holder g b ≡ true → pos g b < g.F → mended g g.F g.F b ≡ true → ⊥
      fresh g p b h q z =
          let e = p.ends b h in
          let k = pos_heap g (g.ri b) (omega arith) e.2 in
          omega (arith, mended_late g g.F b q z)

  pub down_end : {s : List ℕ} {dead c : ℕ} → Descending s₁ top lifts s dead c → c ≤ first_heap_cell
      → {s₀ : List ℕ} → HoldsRegisters s₀ s₁ → Sweeps s₀ s top lifts dead
  down_end {s} {dead} {c} r le h g b =
      let d = r.at g (registered h g b) in
      let p = b.phase.frame.proper in
      let e : c ≡ g.F = omega (arith, d.low, b.phase.frame.first) in
      let q : turns g c ≡ g.T = omega (arith, e, p.FT) in (
        subst (λ (x : ℕ). Sweeping g s x) q d.phase,
        omega (arith, d.gone, e, p.first, ap g.new e),
      )

  -- the loop's cell as the one above the next
  pub down_pred : {s : List ℕ} {dead c : ℕ} → first_heap_cell < c → Descending s₁ top lifts s dead c
      → Descending s₁ top lifts s dead (suc (c - 1))
  down_pred {s} {dead} {c} lt r =
      subst (λ (x : ℕ). Descending s₁ top lifts s dead x) (let e : c ≡ suc (c - 1) = omega arith in e) r

  module _ {s : List ℕ} {dead c : ℕ} (r : Descending s₁ top lifts s dead (suc c)) (lt : first_heap_cell < suc c) where
    module _ (g : Heap) (t : Registered g s₁ top lifts) where
      abbrev k : Down g s dead (suc c)
      k = r.at g t

      abbrev p : Proper g
      p = k.phase.frame.proper

      heap_c : (g.F ≤ c) × (c < g.T)
      heap_c = (omega (arith, t.phase.frame.first), omega (arith, k.high))

      now : turns g (suc c) ≡ pos g c
      now = sym (pos_heap g c heap_c.0 heap_c.1)

      phase : Sweeping g s (pos g c)
      phase = subst (λ (x : ℕ). Sweeping g s x) now k.phase

      known : Known g (pos g c) (pos g c) (suc c) (suc c)
      known = subst (λ (x : ℕ). Known g x x (suc c) (suc c)) now k.known

      undone : Undone g p c (pos g c) (suc c) (cell s)
      undone = record {
        cells = phase.at;
        known = record { reached = λ y a b. absurd (omega arith); covers = known.covers };
      }

      after : suc (pos g c) ≡ turns g c
      after = omega (arith, pos_heap g c heap_c.0 heap_c.1, heap_c.1)

      alive : {v : ℕ} → v ≡ second_word s c → (decode v).lc ≡ true → g.live c ≡ true
      alive e q = is_live g p c (suc c) (cell s) undone (sym (chain_is g c phase e) ∙ q)

      head : {v d : ℕ} → v ≡ second_word s c → (decode v).lc ≡ true → lifts dead d → Head g s c v d
      head {d = d} e q l = record {
        phase = phase;
        low = heap_c.0;
        high = heap_c.1;
        chain = q;
        word = e;
        goes = place_lift g p c dead (alive e q) k.gone ∙ sym (ap (λ (x : ℕ). c + x) (t.up dead d l));
        known = known;
      }

    pub down_room : (g : Heap) → Registered g s₁ top lifts → (2 * c + 1 < length s) × (dead ≤ 2 ^ 28)
    down_room g t =
        let f = (phase g t).frame in
        let n = new_bound g f.proper (suc c) (omega (arith, heap_c g t)) (k g t).high in (
          omega (arith, f.room, heap_c g t),
          omega (arith, (k g t).gone, n.0, n.1, n.2, f.room, f.len, limit_fits),
        )

    module _ {v : ℕ} (e : v ≡ second_word s c) where
      pub down_head : (g : Heap) → Registered g s₁ top lifts → (decode v).lc ≡ true → {d : ℕ} → lifts dead d
          → AtHead s c v d
      down_head g t q l = (g, head g t e q l)

      pub down_known : (decode v).lc ≡ true → {d : ℕ} → lifts dead d → {s' : List ℕ} {c' : ℕ}
          → length s' ≡ length s → Passes s s' c v d c' → Descending s₁ top lifts s' dead c'
      down_known q l {s'} {c'} len w = record {
        same = len ∙ r.same;
        at = λ g t.
            let z = w g (head g t e q l) in
            let x = z.phase.frame.proper in
            let top-c = (heap_c g t).1 in
            let u : suc (pos g c') ≡ turns g c' =
            omega (arith, pos_heap g c' z.low (omega (arith, z.high)), z.high) in
            let n = new_run_lem g x c' (suc c) (omega (arith, z.high)) (λ y a b. z.live y a (omega arith)) in
            record {
              phase = subst (λ (y : ℕ). Sweeping g s' y) u z.phase;
              low = z.low;
              high = omega (arith, z.high);
              known = subst (λ (y : ℕ). Known g y y c' c') u z.known;
              gone = omega (arith, (k g t).gone, n);
            };
      }

      pub down_less : (g : Heap) → Registered g s₁ top lifts → (decode v).lc ≡ true → {d : ℕ} → lifts dead d
          → {s' : List ℕ} {c' : ℕ} → Passes s s' c v d c' → c' ≤ c
      down_less g t q l w = (w g (head g t e q l)).high

      pub down_dead : (decode v).lc ≡ false → Descending s₁ top lifts s (dead + 1) c
      down_dead q = record {
        same = r.same;
        at = λ g t.
            let f = (phase g t).frame in
            let x = p g t in
            let l = is_dead g x c (suc c) (suc c) (known g t) (heap_c g t).0 (omega arith)
            (sym (chain_is g c (phase g t) e) ∙ q) in
            let u = dead_undone g x c (suc c) (cell s) l (undone g t) in
            record {
              phase = subst (λ (y : ℕ). Sweeping g s y) (after g t)
                  (record { frame = f; at = dead_turn g x c (cell s) l (heap_c g t).0 u.cells });
              low = (heap_c g t).0;
              high = omega (arith, heap_c g t);
              known = known_none c (omega arith)
                  (subst (λ (y : ℕ). Known g y y (suc c) c) (after g t) (known_on g x c (suc c) c u.known));
              gone = omega (arith, (k g t).gone, x.skip c l);
            };
      }
