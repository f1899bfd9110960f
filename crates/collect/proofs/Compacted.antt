-- The sweep and the pass up, one after the other: what they leave of a sound store is the collected store, word for
-- word. In order:
--   Packed, packed  what the sweep leaves, where it packs
--   gone, top_is  the number of unreached cells, and the new `top`
--   lowerable, settleable  what the pass up asks for
--   compacted     the collected store;  not_lowered  where no cell is unreached
-- Assumes nothing.
use mathlib.Core.Path.{◌≡◌, refl, sym, ◌∙◌, ap, subst}
use mathlib.Core.Bool.{Bool, true, false, not, ◌||◌, false≢true}
use mathlib.Core.List.{List}
use Prim.Native.Nat.{ℕ, ◌+◌, ◌-◌, ◌*◌, ◌/◌, ◌^◌, ◌≤◌, ◌<◌}
use native.Mathlib.Nat.{sub-zero}
use native.Mathlib.Omega.{arith}
use native.Mathlib.Decide.{dec_lt}
use lib.Dec.{ltb}
use lib.ListN.{length, get_or}
use borrow.Author.Tests.{lt-ltb, le-ltb, ne_eqb}
use Rattle.words.specs.Cell.{first_word, second_word}
use Rattle.words.specs.Second.{Second, decode, plain, full, full_word}
use Rattle.words.proofs.Plain.{decode_zero}
use Rattle.meaning.specs.Limits.{first_heap_cell}
use Rattle.meaning.specs.Sound as S
use Rattle.meaning.specs.Collected.{map_ends, collected, collected_top, new}
use Rattle.meaning.proofs.sound.Cells.{words_of_cells, free_rule}
use Rattle.meaning.proofs.collected.Determined.{new_last, is_collected}
use Rattle.collect.specs.Cells.{ChainCell, cell, val, mk}
use Rattle.collect.specs.Heap.{Heap, holder, Proper, place}
use Rattle.collect.specs.Chain.{placed_cell}
use Rattle.collect.specs.Step.{lowered}
use Rattle.collect.specs.Phases.{Sweeping}
use Rattle.collect.specs.Passes.{Sweeps}
use Rattle.collect.specs.Lowering.{Layable, Lowerable, Lowers, Cleared}
use Rattle.meaning.proofs.sound.Fields.{Fields, cell_fields, ends_in}
use Rattle.collect.proofs.heap.Order.{holder_full}
use Rattle.collect.proofs.heap.Places.{new_bound, place_own, place_packed, place_up}
use Rattle.collect.proofs.turn.Swept.{swept_place, swept_free, place_onto}
use Rattle.collect.proofs.lower.Lowered.{bracket_is, code_is, lowered_holder, lowered_other, lowered_zero}
use Rattle.collect.proofs.Heaps.{heap_of, live_of, proper, begun}

-- ---- packed, then lowered

-- the words of cell d are those of the sound store's cell, both ends at their new addresses
abbrev IsNew : ℕ → List ℕ → ℕ → List ℕ → ℕ → S.Cell → Type 0
IsNew F ws top v d x =
    (first_word v d ≡ S.fst (map_ends (new F ws top) x))
    × (second_word v d ≡ S.snd (map_ends (new F ws top) x))

module _ (ws : List ℕ) (top : ℕ) (s : S.Sound first_heap_cell ws top) where
  abbrev p : 0 < first_heap_cell
  p = omega arith

  abbrev h : Heap
  h = heap_of first_heap_cell ws top true

  abbrev P : Proper h
  P = proper first_heap_cell ws top true p s

  abbrev Kept : ℕ → Type 0
  Kept c = (ltb c first_heap_cell || h.live c) ≡ true

  kept_reg : (c : ℕ) → c < first_heap_cell → Kept c
  kept_reg c lt = rw (lt-ltb c first_heap_cell lt)

  kept_live : (c : ℕ) → h.live c ≡ true → Kept c
  kept_live c l = rw (le-ltb c first_heap_cell (P.heap c l).0) l

  -- what the sweep leaves: every reached cell went up by the number of unreached ones above it
  pub record Packed (s₁ : List ℕ) (dead : ℕ) : Type 0 where
    pub swept : Sweeping h s₁ top
    pub gone : dead + new first_heap_cell ws top top ≡ top

  pub packed : {lifts : ℕ → ℕ → Type 0} {s₁ : List ℕ} (dead : ℕ) → Sweeps ws s₁ top lifts dead
      → ((n d : ℕ) → lifts n d → d ≡ n) → Packed s₁ dead
  packed dead w up =
      let k = w h (begun first_heap_cell ws top true p s refl up) in
      record { swept = k.0; gone = k.1 }

  module _ {s₁ : List ℕ} {dead : ℕ} (w : Packed s₁ dead) where
    swept : Sweeping h s₁ top
    swept = w.swept

    gone : dead + new first_heap_cell ws top top ≡ top
    gone = w.gone

    pub top_is : top - dead ≡ collected_top first_heap_cell ws top
    top_is = omega (arith, gone, new_last first_heap_cell ws top p s)

    place_is : (c : ℕ) → first_heap_cell ≤ c → place h c ≡ new first_heap_cell ws top c + dead
    place_is c f = omega (arith, gone, place_packed h P c refl f)

    at_place : (c : ℕ) → Kept c → cell s₁ (place h c) ≡ placed_cell h c
    at_place = swept_place h P (cell s₁) swept.at

    -- ---- what the pass up asks for

    -- a placed cell can go down by `dead`
    layable : (v : List ℕ) (i to c : ℕ) → Kept c → cell v i ≡ placed_cell h c → 2 * to + 1 < length v
        → Layable v to (first_word v i) (second_word v i) dead
    unfolding placed_cell
    layable v i to c k e room = record {
      to_in = room;
      bare = λ x. record {
        br = (decode (second_word v i)).br;
        used = (e x).used;
        lc = (e x).l.tag;
        rc = (e x).r.tag;
        ri = (decode (second_word v i)).ri;
      };
      far = far (holder h c) refl;
    }
      where
        far : (b : Bool) → holder h c ≡ b → full_word (second_word v i) ≡ true
            → (dead ≤ first_word v i) × (dead ≤ (decode (second_word v i)).ri)
        far true q f =
            let z = P.ends c q in
            let a : first_word v i ≡ place h (h.li c) = ap (λ (x : ChainCell). x.l.num) e ∙ rw q refl in
            let b : (decode (second_word v i)).ri ≡ place h (h.ri c) =
            ap (λ (x : ChainCell). x.r.num) e ∙ rw q refl in (
              omega (arith, a, place_is (h.li c) z.0),
              omega (arith, b, place_is (h.ri c) (omega (arith, z))),
            )
        far false q f =
            absurd (false≢true (sym (sym (holder_full h c k) ∙ q)
            ∙ sym (ap (λ (x : ChainCell). full x.br x.r.num) e ∙ rw q refl) ∙ f))

    pub lowerable : Lowerable s₁ (first_heap_cell + dead) top dead dead
    lowerable = record {
      apart = omega arith;
      some = omega (arith, gone, new_bound h P top s.low (omega arith));
      room = swept.frame.room;
      cells = λ i a b.
          let o = place_onto h P refl dead gone i a b in
          layable s₁ i (i - dead) o.0 (kept_live o.0 o.1)
          (subst (λ (x : ℕ). cell s₁ x ≡ placed_cell h o.0) o.2 (at_place o.0 (kept_live o.0 o.1)))
          (omega (arith, swept.frame.room));
    }

    pub settleable : {s₂ : List ℕ} → length s₂ ≡ length s₁ → Lowers s₁ s₂ (first_heap_cell + dead) top dead dead
        → Lowerable s₂ 0 first_heap_cell 0 dead
    settleable {s₂} len t = record {
      apart = omega arith;
      some = omega arith;
      room = omega (arith, swept.frame.room, s.low);
      cells = λ r z lt.
          layable s₂ r (r - 0) r (kept_reg r lt) (register r lt) (omega (arith, swept.frame.room, s.low));
    }
      where
        register : (r : ℕ) → r < first_heap_cell → cell s₂ r ≡ placed_cell h r
        register r lt =
            t.rest r (λ q. absurd (omega arith))
            ∙ subst (λ (x : ℕ). cell s₁ x ≡ placed_cell h r) (place_own h P r lt) (at_place r (kept_reg r lt))

    -- ---- a cell's words at the end

    final_words : (v : List ℕ) (c d : ℕ) → Kept c → second_word v d < 2 ^ 32 → cell v d ≡ lowered dead (placed_cell h c)
        → IsNew first_heap_cell ws top v d (S.at ws c)
    final_words v c d k fits e = go (S.at ws c) refl (cell_fields first_heap_cell ws top p s c)
      where
        is : (f : Second) → decode (second_word ws c) ≡ f → holder h c ≡ full f.br f.ri
        is f q = holder_full h c k ∙ ap (λ (y : Second). full y.br y.ri) q

        other : (f : Second) (a : ℕ) → first_word ws c ≡ a → decode (second_word ws c) ≡ f → full f.br f.ri ≡ false
            → cell v d ≡ mk f.br false (val a) (val f.ri)
        other f a x y n =
            e ∙ lowered_other h dead c k (is f y ∙ n) ∙ (λ i. mk (y i).br false (val (x i)) (val (y i).ri))

        go : (x : S.Cell) → S.at ws c ≡ x → Fields x (first_word ws c) (decode (second_word ws c))
            → IsNew first_heap_cell ws top v d x
        go (S.code a) q f = code_is v d a 0 fits (other (plain false 0) a f.0 f.1 refl)
        go S.empty q f = bracket_is v d 0 0 fits (other (plain true 0) 0 f.0 f.1 refl)
        go (S.ends l r) q f =
            let in_heap_lem = ends_in first_heap_cell ws top p s c q in
            let low-r : first_heap_cell ≤ r = omega (arith, in_heap_lem) in
            let lo : first_word ws c ≡ l = f.0 in
            let ro : (decode (second_word ws c)).ri ≡ r = ap (λ (y : Second). y.ri) f.1 in
            let at-l : place h (h.li c) - dead ≡ new first_heap_cell ws top l =
            subst (λ (x : ℕ). place h x - dead ≡ new first_heap_cell ws top l) (sym lo)
            (omega (arith, place_is l in_heap_lem.0)) in
            let at-r : place h (h.ri c) - dead ≡ new first_heap_cell ws top r =
            subst (λ (x : ℕ). place h x - dead ≡ new first_heap_cell ws top r) (sym ro)
            (omega (arith, place_is r low-r)) in
            let up : 0 < place h (h.ri c) =
            subst (λ (x : ℕ). 0 < place h x) (sym ro)
            (omega (arith, place_is r low-r, new_bound h P r low-r (omega (arith, in_heap_lem)))) in
            let held : holder h c ≡ true = is (plain true r) f.1 ∙ ap not (ne_eqb r 0 (λ z. omega (arith, f.2))) in
            bracket_is v d (new first_heap_cell ws top l) (new first_heap_cell ws top r) fits
            (e ∙ lowered_holder h dead c k held up ∙ (λ i. mk (f.1 i).br false (val (at-l i)) (val (at-r i))))

    -- ---- the whole

    -- a cell from `top` on, which no pass touches
    free_cell : (c : ℕ) → top ≤ c → c < length ws / 2 → cell s₁ c ≡ mk false false (val 0) (val 0)
    free_cell c q lt =
        let z = free_rule s c q lt in
        let e = ap decode z.1 ∙ decode_zero in
        swept_free h P (cell s₁) swept.at c q ∙ (λ i. mk (e i).br false (val (z.0 i)) (val (e i).ri))

    -- the words v have every cell lowered, and are zero from the new `top` on
    is_compacted : (v : List ℕ) → length v ≡ length ws → ((i : ℕ) → get_or v i 0 < 2 ^ 32)
        → ((c : ℕ) → c < first_heap_cell → cell v c ≡ lowered dead (placed_cell h c))
        → ((c : ℕ) → h.live c ≡ true → cell v (new first_heap_cell ws top c) ≡ lowered dead (placed_cell h c))
        → ((c : ℕ) → new first_heap_cell ws top top ≤ c → c < length ws / 2
        → (first_word v c ≡ 0) × (second_word v c ≡ 0))
        → v ≡ collected first_heap_cell ws top
    is_compacted v len fits regs heap free =
        is_collected first_heap_cell ws top p s v len
        (λ i lt. final_words v i i (kept_reg i lt) (fits (2 * i + 1)) (regs i lt))
        (λ c q.
        let l = live_of first_heap_cell ws top true p s c q in
        final_words v c (new first_heap_cell ws top c) (kept_live c l) (fits (2 * (new first_heap_cell ws top) c + 1))
        (heap c l))
        (λ i low lt.
        words_of_cells (λ j. get_or v j 0 ≡ 0) (new first_heap_cell ws top top) (length ws / 2) free i
        (omega (arith, new_last first_heap_cell ws top p s)) (omega (arith, s.allowed.even)))

    pub compacted : {s₂ s₃ s₄ : List ℕ} → Lowers s₁ s₂ (first_heap_cell + dead) top dead dead
        → Lowers s₂ s₃ 0 first_heap_cell 0 dead → Cleared s₃ s₄ (top - dead) top
        → length s₄ ≡ length ws → ((i : ℕ) → get_or s₄ i 0 < 2 ^ 32) → s₄ ≡ collected first_heap_cell ws top
    compacted {s₂} {s₃} {s₄} t₂ t₃ t₄ len fits = is_compacted s₄ len fits regs heap free
      where
        stays : (c : ℕ) → (new first_heap_cell ws top top ≤ c → top ≤ c) → cell s₄ c ≡ cell s₃ c
        stays c q = let e = t₄.kept c (λ z. q (omega (arith, gone))) in rw (e.0, e.1)

        settled : (c : ℕ) → c < first_heap_cell → cell s₃ c ≡ lowered dead (cell s₂ c)
        settled c lt = rw sub-zero at (t₃.down c (omega arith) lt)

        above : (c : ℕ) → first_heap_cell ≤ c → cell s₃ c ≡ cell s₂ c
        above c le = t₃.rest c (λ q. omega arith)

        regs : (c : ℕ) → c < first_heap_cell → cell s₄ c ≡ lowered dead (placed_cell h c)
        regs c lt =
            stays c (λ q. omega (arith, new_bound h P top s.low (omega arith)))
            ∙ settled c lt ∙ ap (lowered dead) (
            t₂.rest c (λ q. absurd (omega arith))
            ∙ subst (λ (x : ℕ). cell s₁ x ≡ placed_cell h c) (place_own h P c lt) (at_place c (kept_reg c lt))
            )

        heap : (c : ℕ) → h.live c ≡ true → cell s₄ (new first_heap_cell ws top c) ≡ lowered dead (placed_cell h c)
        heap c l =
            let z = P.heap c l in
            let e = place_is c z.0 in
            let u = place_up h P c l in
            let f = new_bound h P c z.0 (omega (arith, z)) in
            let q : place h c - dead ≡ new first_heap_cell ws top c = omega (arith, e) in
            stays (new first_heap_cell ws top c) (λ y. omega (arith, e, u, gone))
            ∙ above (new first_heap_cell ws top c) f.0
            ∙ subst (λ (x : ℕ). cell s₂ x ≡ lowered dead (cell s₁ (place h c))) q
            (t₂.down (place h c) (omega (arith, e, f.0)) u.1) ∙ ap (lowered dead) (at_place c (kept_live c l))

        free : (c : ℕ) → new first_heap_cell ws top top ≤ c → c < length ws / 2 → (first_word s₄ c ≡ 0)
            × (second_word s₄ c ≡ 0)
        free c low lt = go (dec_lt c top)
          where
            go : Dec (c < top) → (first_word s₄ c ≡ 0) × (second_word s₄ c ≡ 0)
            go (yes q) = t₄.gone c (omega (arith, gone)) q
            go (no q) =
                let z : top ≤ c = omega arith in
                let f : first_heap_cell ≤ c = omega (arith, s.low) in
                code_is s₄ c 0 0 (fits (2 * c + 1))
                (stays c (λ y. z) ∙ above c f ∙ t₂.rest c (λ y. omega arith) ∙ free_cell c z lt)

    -- where no cell is unreached, the sweep has done it all
    pub not_lowered : dead ≡ 0 → length s₁ ≡ length ws → ((i : ℕ) → get_or s₁ i 0 < 2 ^ 32)
        → s₁ ≡ collected first_heap_cell ws top
    not_lowered none len fits = is_compacted s₁ len fits regs heap free
      where
        same : (c : ℕ) → Kept c → placed_cell h c ≡ lowered dead (placed_cell h c)
        same c k = rw none (sym (lowered_zero h 0 c k))

        regs : (c : ℕ) → c < first_heap_cell → cell s₁ c ≡ lowered dead (placed_cell h c)
        regs c lt =
            subst (λ (x : ℕ). cell s₁ x ≡ placed_cell h c) (place_own h P c lt) (at_place c (kept_reg c lt))
            ∙ same c (kept_reg c lt)

        heap : (c : ℕ) → h.live c ≡ true → cell s₁ (new first_heap_cell ws top c) ≡ lowered dead (placed_cell h c)
        heap c l =
            let e : place h c ≡ new first_heap_cell ws top c = omega (arith, place_is c (P.heap c l).0) in
            subst (λ (x : ℕ). cell s₁ x ≡ placed_cell h c) e (at_place c (kept_live c l)) ∙ same c (kept_live c l)

        free : (c : ℕ) → new first_heap_cell ws top top ≤ c → c < length ws / 2 → (first_word s₁ c ≡ 0)
            × (second_word s₁ c ≡ 0)
        free c low lt = code_is s₁ c 0 0 (fits (2 * c + 1)) (free_cell c (omega (arith, gone)) lt)
