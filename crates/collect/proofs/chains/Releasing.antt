-- The words while the chain of m is undone. The words a and b of m are held apart: `Releasing` says that the words with
-- a and b put back at m are those of a chain undone down to some place. In order: one holder off, on words; the loop's
-- start, what a turn of it asks for, its step and its end. Assumes nothing.
use mathlib.Core.Path.{◌≡◌, refl, sym, ◌∙◌, ap, subst}
use mathlib.Core.Logic.{◌≢◌}
use mathlib.Core.Bool.{Bool, true, false}
use mathlib.Core.List.{List}
use Prim.Native.Nat.{ℕ, suc, ◌+◌, ◌-◌, ◌*◌, ◌^◌, ◌≤◌, ◌<◌, min}
use native.Mathlib.Omega.{arith}
use native.Mathlib.Decide.{ℕ_discrete}
use lib.ListN.{length}
use Rattle.words.specs.Cell.{first_word, second_word, put_cell}
use Rattle.words.specs.Second.{Second, decode, with_ri, with_rc, with_lc, bit}
use Rattle.words.proofs.Cells.{put_cell_length, first_word_other, second_word_same, second_word_other}
use Rattle.meaning.proofs.sound.Cells.{limit_fits}
use Rattle.collect.specs.Cells.{Link, ChainCell, linked, cell, val, mk}
use Rattle.collect.specs.Heap.{Heap, holder, pos, place, span}
use Rattle.collect.specs.Chain.{last, sweep_cell, SweptTo}
use Rattle.collect.specs.Step.{Unlinked}
use Rattle.collect.specs.Phases.{Turn}
use Rattle.collect.specs.Passes.{MyTurn, Releases}
use Rattle.meaning.proofs.Counting.{count, count_same, count_less_one}
use Rattle.collect.proofs.heap.Places.{place_up}
use Rattle.collect.proofs.heap.Spots.{next_l, spot_ahead}
use Rattle.collect.proofs.turn.Undoing.{Undone, chain_head, chain_end, unlink_hit, unlink_apart, unlink_low}
use Rattle.collect.proofs.turn.Undoing.{unlink_span, unlink_first}
use Rattle.collect.proofs.Puts.{cell_put, cell_put_other, cell_put_own}

-- the cells of s with the words a and b put back at m
abbrev pub back : List ℕ → ℕ → ℕ → ℕ → ℕ → ChainCell
back s m a b = cell (put_cell s m a b)

-- ---- one holder taken off, on words

-- what is left to do: each turn takes a right chain flag away, the last one the left chain flag
abbrev pub chained : List ℕ → ℕ → Bool
chained s c = (decode (second_word s c)).rc

abbrev pub left : List ℕ → ℕ → ℕ
left s b = count (chained s) (length s) + bit (decode b).lc

module _ (s : List ℕ) (m a b to u b' : ℕ) (m_in : 2 * m + 1 < length s) (k_in : 2 * a + 1 < length s) (n : a ≢ m)
    (eb : decode b' ≡ with_lc (decode (second_word s a)).rc (decode b))
    (eu : decode u ≡ with_ri to (with_rc false (decode (second_word s a))))
    (flat : (decode (second_word s a)).lc ≡ false) where
  abbrev s₁ : List ℕ
  s₁ = put_cell s a (to - first_word s a) u

  abbrev s₂ : List ℕ
  s₂ = put_cell s₁ m (decode (second_word s a)).ri b'

  unlinked_words : Unlinked (back s m a b) (cell s₂) m a to
  unlinked_words = record { at_m = at_m; at_k = at_k; rest = rest }
    where
      own : (x : ℕ) → x ≢ m → cell s₂ x ≡ cell s₁ x
      own x = cell_put_other s₁ m (decode (second_word s a)).ri b' x

      at_m : cell s₂ m ≡ mk (back s m a b m).br (back s m a b m).used (back s m a b a).r (back s m a b m).r
      at_m =
          cell_put s₁ m (decode (second_word s a)).ri b' (rw (put_cell_length s a (to - first_word s a) u) m_in)
          ∙ rw (eb, second_word_same s m a b m_in, second_word_other s m a b a n)

      at_k : cell s₂ a
          ≡ mk (back s m a b a).br (back s m a b a).used (val (to - (back s m a b a).l.num)) (val to)
      at_k =
          own a n ∙ cell_put s a (to - first_word s a) u k_in
          ∙ rw (eu, flat, second_word_other s m a b a n, first_word_other s m a b a n)

      rest : (c : ℕ) → c ≢ m → c ≢ a → cell s₂ c ≡ back s m a b c
      rest c p q = own c p ∙ cell_put_other s a (to - first_word s a) u c q ∙ sym (cell_put_other s m a b c p)

  left_less : (decode b).lc ≡ true → left s₁ b' < left s b
  left_less e = rw (put_cell_length s a (to - first_word s a) u, eb, e) (go (chained s a) refl)
    where
      gone : chained s₁ a ≡ false
      gone =
          ap (λ (x : ℕ). (decode x).rc) (second_word_same s a (to - first_word s a) u k_in)
          ∙ ap (λ (x : Second). x.rc) eu

      else : (c : ℕ) → c ≢ a → chained s₁ c ≡ chained s c
      else c q = ap (λ (x : ℕ). (decode x).rc) (second_word_other s a (to - first_word s a) u c q)

      go : (t : Bool) → chained s a ≡ t
          → count (chained s₁) (length s) + bit (chained s a) < count (chained s) (length s) + 1
      go true q =
          let z = count_less_one (chained s) (chained s₁) a (length s) (omega arith) q gone else in
          rw q (omega (arith, z))
      go false q =
          let z = count_same (chained s) (chained s₁) (length s) (λ c lt. all c (ℕ_discrete c a)) in
          rw q (omega (arith, z))
        where
          all : (c : ℕ) → Dec (c ≡ a) → chained s₁ c ≡ chained s c
          all c (yes z) = rw z (gone ∙ sym q)
          all c (no z) = else c z

-- ---- the loop

pub record Releasing (s₀ : List ℕ) (m w to low₀ : ℕ) (s : List ℕ) (a b low : ℕ) : Type 0 where
  pub same : length s ≡ length s₀
  pub at : (g : Heap) (t : Turn g s₀ m w to low₀) → (x : ℕ) × Undone g t.phase.frame.proper m x low (back s m a b)

swept_ext : (g : Heap) (j x : ℕ) (M M' : ℕ → ChainCell) → ((c : ℕ) → M' c ≡ M c) → SweptTo g j x M → SweptTo g j x M'
swept_ext g j x M M' e t = record {
  at = λ c h. e _ ∙ t.at c h;
  dead = λ c f l h. e c ∙ t.dead c f l h;
}

module _ {s₀ : List ℕ} {m w to low₀ : ℕ} where
  m_room : (g : Heap) → Turn g s₀ m w to low₀ → 2 * m + 1 < length s₀
  m_room g t = omega (arith, t.phase.frame.room, t.phase.frame.proper.heap m t.live)

  pub release_room : MyTurn s₀ m w to low₀ → 2 * m + 1 < length s₀
  release_room r = m_room r.0 r.1

  pub release_start : Releasing s₀ m w to low₀ s₀ (first_word s₀ m) w low₀
  release_start = record {
    same = refl;
    at = λ g t. (
      pos g m,
      record {
        cells = swept_ext g (pos g m) (pos g m) (cell s₀) (cell (put_cell s₀ m (first_word s₀ m) w))
            (λ c. rw t.word (cell_put_own s₀ m (m_room g t) c)) t.phase.at;
        known = t.known;
      },
    );
  }

  module _ {s : List ℕ} {a b low : ℕ} (o : Releasing s₀ m w to low₀ s a b low) where
    link_is : (g : Heap) (t : Turn g s₀ m w to low₀) → (linked a (decode b)).l ≡ last g m (o.at g t).0
    link_is g t =
        sym (ap (λ (c : ChainCell). c.l) (cell_put s m a b (omega (arith, m_room g t, o.same))))
        ∙ ap (λ (c : ChainCell). c.l)
        (subst (λ (c : ℕ). back s m a b c ≡ sweep_cell g (pos g m) (o.at g t).0 m)
        (spot_ahead g (pos g m) m (omega arith)) ((o.at g t).1.cells.at m (λ f p. absurd (omega arith))))
        ∙ next_l g (pos g m) (o.at g t).0 m refl

    pub release_end : (decode b).lc ≡ false → Releases s₀ s m w to low₀ a b low
    release_end e g t =
        let u = chain_end g t.phase.frame.proper m (o.at g t).0 low (back s m a b) (o.at g t).1
        (sym (ap (λ (l : Link). l.tag) (link_is g t)) ∙ e) in
        (u.cells, u.known)

    module _ (e : (decode b).lc ≡ true) where
      -- the next holder of m is k, which stands at a
      record Next (g : Heap) (t : Turn g s₀ m w to low₀) : Type 0 where
        pub k : ℕ
        pub holds : holder g k ≡ true
        pub names : g.ri k ≡ m
        pub is : a ≡ place g k
        pub at : Undone g t.phase.frame.proper m (suc (pos g k)) low (back s m a b)

      next : (g : Heap) (t : Turn g s₀ m w to low₀) → Next g t
      next g t =
          let h = chain_head g t.phase.frame.proper m (o.at g t).0 low (back s m a b) (o.at g t).1
          (sym (ap (λ (l : Link). l.tag) (link_is g t)) ∙ e) in
          record {
            k = h.k;
            holds = h.holder;
            names = h.names;
            is = ap (λ (l : Link). l.num) (link_is g t) ∙ h.is;
            at = h.at;
          }

      pub record Taken : Type 0 where
        pub m_in : 2 * m + 1 < length s
        pub k_in : 2 * a + 1 < length s
        pub apart : a ≢ m
        pub small : to < 2 ^ 28
        pub short : first_word s a ≤ to
        pub within : first_word s a ≤ m
        pub flat : (decode (second_word s a)).lc ≡ false

      taken : (g : Heap) → Turn g s₀ m w to low₀ → Taken
      taken g t =
          let f = t.phase.frame in
          let p = f.proper in
          let n = next g t in
          let low-k = unlink_low g p m n.k n.holds n.names in
          let far : a ≢ m = λ q. unlink_apart g p m n.k n.holds n.names (sym n.is ∙ q) in
          let sp = unlink_span g p m n.k n.holds n.names in
          let own : (cell s a).l ≡ val (span g n.k) =
          ap (λ (c : ChainCell). c.l) (sym (cell_put_other s m a b a far))
          ∙ subst (λ (x : ℕ). (back s m a b x).l ≡ val (span g n.k)) (sym n.is)
          (unlink_first g p m n.k n.holds n.names low (back s m a b) n.at) in
          let num : first_word s a ≡ span g n.k = ap (λ (l : Link). l.num) own in
          record {
            m_in = omega (arith, m_room g t, o.same);
            k_in = omega (arith, f.room, low-k, n.is, o.same);
            apart = far;
            small = omega (arith, t.goes, place_up g p m t.live, f.room, f.len, limit_fits);
            short = omega (arith, t.goes, sp.0, num);
            within = omega (arith, sp.1, num);
            flat = ap (λ (l : Link). l.tag) own;
          }

      -- what the turn asks for
      pub release_next : MyTurn s₀ m w to low₀ → Taken
      release_next r = taken r.0 r.1

      module _ {n v a' low' : ℕ} (b' u : ℕ) {s' : List ℕ} (en : n ≡ first_word s a) (ev : v ≡ second_word s a)
          (ea : a' ≡ (decode v).ri) (eb : decode b' ≡ with_lc (decode v).rc (decode b))
          (eu : decode u ≡ with_ri to (with_rc false (decode v))) (es : s' ≡ put_cell s a (to - n) u)
          (el : low' ≡ min (m - n) low) where
        abbrev M' : ℕ → ChainCell
        M' = back (put_cell s a (to - first_word s a) u) m (decode (second_word s a)).ri b'

        mended : (g : Heap) (t : Turn g s₀ m w to low₀)
            → Undone g t.phase.frame.proper m (pos g (next g t).k) (min (m - first_word s a) low) M'
        mended g t =
            let p = t.phase.frame.proper in
            let k = next g t in
            let z = taken g t in
            let num : first_word s a ≡ span g k.k =
            ap (λ (l : Link). l.num)
            (ap (λ (c : ChainCell). c.l) (sym (cell_put_other s m a b a z.apart))
            ∙ subst (λ (x : ℕ). (back s m a b x).l ≡ val (span g k.k)) (sym k.is)
            (unlink_first g p m k.k k.holds k.names low (back s m a b) k.at)) in
            let w : Unlinked (back s m a b) M' m a to =
            unlinked_words s m a b to u b' z.m_in z.k_in z.apart (rw ev at eb) (rw ev at eu) z.flat in
            let w' : Unlinked (back s m a b) M' m (place g k.k) (place g m) =
            subst (λ (x : ℕ). Unlinked (back s m a b) M' m x (place g m)) k.is
            (subst (λ (x : ℕ). Unlinked (back s m a b) M' m a x) t.goes w) in
            subst (λ (x : ℕ). Undone g p m (pos g k.k) (min (m - x) low) M') (sym num)
            (unlink_hit g p m k.k k.holds k.names low (back s m a b) M' k.at w')

        pub release_again : Releasing s₀ m w to low₀ s' a' b' low'
        release_again = record {
          same = rw es (put_cell_length s a (to - n) u ∙ o.same);
          at = λ g t. (pos g (next g t).k, rw (es, ea, ev, el, en) (mended g t));
        }

        pub release_less : MyTurn s₀ m w to low₀ → left s' b' < left s b
        release_less r =
            let t = release_next r in
            rw (es, en)
            (left_less s m a b to u b' t.m_in t.k_in t.apart (rw ev at eb) (rw ev at eu) t.flat e)
