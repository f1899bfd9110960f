-- A store and the same store collected, side by side: what a call does to the one it does to the other. In order:
--   set_follow                     a register set in each of two stores, the second of which follows the first
--   sound'                         the collected store is sound
--   new_low, new_high, new_rises   new addresses: from F on, below the new `top`, in order
--   along_register, along_heap     they go along with the run of a register, and of a reached bracket
--   follows_collected              the collected store follows the store
--   canon_collected                it has the same canonical words
--   set_both                       so they have once a register is set in both
--   Kept, far                      where both get n new cells: a cell that is reached or new, and where it goes
--   old_along, new_along           a cell with old contents only, and a run of new cells
--   new_register, new_both         a register set in both, to old cells or new ones;  to the run of all new cells
-- Assumes nothing.
use mathlib.Core.Path.{◌≡◌, refl, sym, ap, ap₂, ◌∙◌}
use mathlib.Core.Logic.{◌⊎◌, inl, inr, ◌≢◌}
use mathlib.Core.Bool.{cond}
use mathlib.Core.List.{List}
use Prim.Native.Nat.{ℕ, suc, ◌+◌, ◌-◌, ◌≤◌, ◌<◌}
use native.Mathlib.Nat.{le_refl, le_trans}
use native.Mathlib.Omega.{arith}
use lib.Dec.{ltb}
use borrow.Author.Tests.{lt-ltb, le-ltb}
use Rattle.meaning.specs.Sound.{Cell, code, empty, ends, at, Sound}
use Rattle.meaning.specs.Reach.{reached, live}
use Rattle.meaning.specs.Collected.{map_ends, new_address, collected, collected_top, new}
use Rattle.meaning.specs.Actions.{put}
use Rattle.meaning.proofs.Lists.{lt_or_ge, In, Asc, asc_in, place, below_mono, below_suc}
use Rattle.meaning.proofs.sound.Cells.{good, TermIn, BracketIn, term_of_bracket}
use Rattle.meaning.proofs.meaning.Terms.{Along}
use Rattle.meaning.proofs.reach.Reaching.{reached_asc, reached_below}
use Rattle.meaning.proofs.collected.Collecting.{collected_sound, along, held_register, held_heap, at_register}
use Rattle.meaning.proofs.collected.Collecting.{at_new}
use Rattle.meaning.proofs.actions.Writing.{at_put, at_put_other, sound_register}
use Rattle.meaning.proofs.actions.Laying.{Extends}
use Rattle.meaning.proofs.twins.Canons.{canon}
use Rattle.meaning.proofs.twins.Follow.{Follows, follow_canon}

-- one register more in each
pub set_follow : (F : ℕ) (p : 0 < F) (ws : List ℕ) (top : ℕ) (s : Sound F ws top) (ws' : List ℕ) (top' : ℕ)
    (s' : Sound F ws' top') (P : ℕ → Type 0) (f : ℕ → ℕ)
    → ((c : ℕ) → P c → F ≤ f c) → Follows F (at ws) top (at ws') P f
    → (d : ℕ) → d < F → (b b' : Cell) → BracketIn F top b → BracketIn F top' b' → Along P f b → b' ≡ map_ends f b
    → Follows F (at (put ws d b)) top (at (put ws' d b')) P f
set_follow F p ws top s ws' top' s' P f low w d l b b' t t' a e = record {
  heap = w.heap;
  rises = w.rises;
  regs = λ i h. reg i h (lt_or_ge i d) (lt_or_ge d i);
  cells = λ c v. let x = w.cells c v in (
    rw (at_put_other ws d b c (omega (arith, (w.heap c v).0))) x.0,
    rw (at_put_other ws d b c (omega (arith, (w.heap c v).0)), at_put_other ws' d b' (f c) (omega (arith, low c v)))
        x.1,
  );
}
  where
    other : (i : ℕ) → i < F → i ≢ d
        → Along P f (at (put ws d b) i) × (at (put ws' d b') i ≡ map_ends f (at (put ws d b) i))
    other i h n = rw (at_put_other ws d b i n, at_put_other ws' d b' i n) (w.regs i h)

    reg : (i : ℕ) → i < F → (i < d) ⊎ (d ≤ i) → (d < i) ⊎ (i ≤ d)
        → Along P f (at (put ws d b) i) × (at (put ws' d b') i ≡ map_ends f (at (put ws d b) i))
    reg i h (inl x) y = other i h (omega arith)
    reg i h (inr x) (inl y) = other i h (omega arith)
    reg i h (inr x) (inr y) =
        let z : i ≡ d = omega arith in
        rw (
          z,
          at_put ws d b F top p (omega (arith, s.allowed.large)) (term_of_bracket F top b t),
          at_put ws' d b' F top' p
              (omega (arith, s'.allowed.large)) (term_of_bracket F top' b' t'),
        ) (a, e)

module _ (F : ℕ) (ws : List ℕ) (top : ℕ) (p : 0 < F) (s : Sound F ws top) where
  abbrev rs : List ℕ
  rs = reached F ws top

  abbrev ws' : List ℕ
  ws' = collected F ws top

  abbrev top' : ℕ
  top' = collected_top F ws top

  abbrev P : ℕ → Type 0
  P c = In c (reached F ws top)

  pub sound' : Sound F (collected F ws top) (collected_top F ws top)
  sound' = collected_sound F ws top p s

  asc : Asc F rs
  asc = reached_asc F ws top p s

  pub new_low : (c : ℕ) → F ≤ new F ws top c
  unfolding new_address
  new_low c = omega arith

  pub new_high : (c : ℕ) → In c (reached F ws top) → new F ws top c < collected_top F ws top
  unfolding new_address live
  new_high c i = omega (arith, (place F c rs asc i).0)

  pub new_rises : (c d : ℕ) → In c (reached F ws top) → c < d
      → new F ws top c < new F ws top d
  unfolding new_address
  new_rises c d i l = omega (arith, below_suc F c rs asc i, below_mono rs (suc c) d l)

  pub along_register : (i : ℕ) → i < F → Along P (new F ws top) (at ws i)
  unfolding new_address
  along_register i h =
      along F ws top p s top (at ws i) (term_of_bracket F top (at ws i) ((good F ws top p s).regs i h))
      (held_register F ws top p s i h)

  pub along_heap : (c : ℕ) → In c (reached F ws top) → Along P (new F ws top) (at ws c)
  unfolding new_address
  along_heap c i =
      along F ws top p s c (at ws c) ((good F ws top p s).heap c (asc_in F c rs asc i) (reached_below F ws top p s c i))
      (held_heap F ws top p s c i)

  -- the collected store follows the store
  pub follows_collected : Follows F (at ws) top (at (collected F ws top)) P (new F ws top)
  follows_collected = record {
    heap = λ c i. (asc_in F c rs asc i, reached_below F ws top p s c i);
    rises = λ c d i j l. new_rises c d i l;
    regs = λ i h. (along_register i h, at_register F ws top p s i h);
    cells = λ c i. (along_heap c i, at_new F ws top p s c i);
  }

  pub canon_collected : canon F (collected F ws top) (collected_top F ws top) ≡ canon F ws top
  canon_collected = follow_canon F p ws top s ws' top' sound' P (new F ws top) follows_collected

  -- a register set in both
  pub set_both : (d : ℕ) → d < F → (b b' : Cell) → BracketIn F top b → BracketIn F (collected_top F ws top) b'
      → Along P (new F ws top) b → b' ≡ map_ends (new F ws top) b
      → canon F (put ws d b) top ≡ canon F (put (collected F ws top) d b') (collected_top F ws top)
  set_both d l b b' t t' a e =
      sym (follow_canon F p (put ws d b) top (sound_register F ws top p s d l b t) (put ws' d b') top'
      (sound_register F ws' top' p sound' d l b' t') P (new F ws top)
      (set_follow F p ws top s ws' top' sound' P (new F ws top) (λ c i. new_low c) follows_collected d l b b' t t' a e))

  -- ---- n new cells in both

  module _ (n : ℕ) where
    -- a cell that is reached or new, and where it goes
    abbrev pub Kept : ℕ → Type 0
    Kept c = P c ⊎ ((top ≤ c) × (c < top + n))

    abbrev pub far : ℕ → ℕ
    far c = cond (ltb c top) (new F ws top c) (top' + (c - top))

    far_old : (c : ℕ) → c < top → far c ≡ new F ws top c
    far_old c l = rw (lt-ltb c top l) refl

    far_new : (c : ℕ) → top ≤ c → far c ≡ top' + (c - top)
    far_new c l = rw (le-ltb c top l) refl

    far_along : (lim : ℕ) (b : Cell) → TermIn F lim b → Along P (new F ws top) b
        → Along Kept far b × (map_ends far b ≡ map_ends (new F ws top) b)
    far_along lim (code a) t h = (tt, refl)
    far_along lim empty t h = (tt, refl)
    far_along lim (ends l r) t h =
        let below_top : (j : ℕ) → l + j ≤ r → l + j < top = λ j k. reached_below F ws top p s (l + j) (h j k).0 in
        let lo : l < top = (let z : l + 0 ≡ l = omega arith in rw z at (below_top 0 (omega (arith, t.1)))) in
        let hi : r < top = (let z : l + (r - l) ≡ r = omega (arith, t.1) in rw z at
        (below_top (r - l) (omega (arith, t.1)))) in (
          λ j k. (
            inl (h j k).0,
            far_old (l + j) (below_top j k) ∙
                ((h j k).1 ∙ ap (λ (x : ℕ). x + j) (sym (far_old l lo))),
          ),
          ap₂ {C = Cell} (λ u v. ends u v) (far_old l lo) (far_old r hi),
        )

    -- a cell with old contents only
    pub old_along : (lim : ℕ) (b b' : Cell) → TermIn F lim b → Along P (new F ws top) b → b' ≡ map_ends (new F ws top) b
        → Along Kept far b × (b' ≡ map_ends far b)
    old_along lim b b' t a e = let y = far_along lim b t a in (y.0, e ∙ sym y.1)

    far_rises : (c d : ℕ) → Kept c → Kept d → c < d → far c < far d
    far_rises c d (inl i) (inl j) l =
        rw (far_old c (reached_below F ws top p s c i), far_old d (reached_below F ws top p s d j)) (new_rises c d i l)
    far_rises c d (inl i) (inr j) l =
        rw (far_old c (reached_below F ws top p s c i), far_new d j.0) (omega (arith, new_high c i))
    far_rises c d (inr i) (inl j) l = absurd (omega (arith, i.0, reached_below F ws top p s d j))
    far_rises c d (inr i) (inr j) l = rw (far_new c i.0, far_new d j.0) (omega (arith, i.0))

    far_low : (c : ℕ) → Kept c → F ≤ far c
    far_low c (inl i) = rw (far_old c (reached_below F ws top p s c i)) (new_low c)
    far_low c (inr i) = rw (far_new c i.0) (omega (arith, sound'.low))

    -- a run of new cells, from l to r and where it goes
    pub new_along : (l r l' r' : ℕ) → top ≤ l → l ≤ r → r < top + n → l + top' ≡ l' + top → r + top' ≡ r' + top
        → Along Kept far (ends l r) × (ends l' r' ≡ map_ends far (ends l r))
    new_along l r l' r' g h k e f = (
      λ j m. (
        inr (omega arith, omega arith),
        far_new (l + j) (omega arith) ∙
            (let z : top' + (l + j - top) ≡ top' + (l - top) + j = omega arith in z ∙ ap (λ (y : ℕ). y + j)
            (sym (far_new l g))),
      ),
      sym (ap₂ {C = Cell} (λ a b. ends a b) (far_new l g ∙ omega arith) (far_new r (omega arith) ∙ omega arith)),
    )

    module _ (v v' : List ℕ) (x : Extends F ws top v (top + n)) (x' : Extends F ws' top' v' (top' + n))
        (laid : (j : ℕ) → j < n
        → Along Kept far (at v (top + j)) × (at v' (top' + j) ≡ map_ends far (at v (top + j)))) where
      new_cell_lem : (c : ℕ) → top ≤ c → c < top + n → Along Kept far (at v c) × (at v' (far c) ≡ map_ends far (at v c))
      new_cell_lem c l h =
          let e : top + (c - top) ≡ c = omega arith in
          let q : Along Kept far (at v c) × (at v' (top' + (c - top)) ≡ map_ends far (at v c)) =
          rw e at (laid (c - top) (omega arith)) in
          (q.0, rw (far_new c l) q.1)

      old_cell_lem : (c : ℕ) → In c rs → Along Kept far (at v c) × (at v' (far c) ≡ map_ends far (at v c))
      old_cell_lem c i =
          let l = reached_below F ws top p s c i in
          let y = far_along c (at ws c) ((good F ws top p s).heap c (asc_in F c rs asc i) l) (along_heap c i) in
          rw (x.old c l) (
            y.0,
            rw (far_old c l) (x'.old (new F ws top c) (new_high c i) ∙
                (at_new F ws top p s c i ∙ sym y.1)),
          )

      old_register : (i : ℕ) → i < F → Along Kept far (at v i) × (at v' i ≡ map_ends far (at v i))
      old_register i h =
          let y = far_along top (at ws i) (term_of_bracket F top (at ws i) ((good F ws top p s).regs i h))
          (along_register i h) in
          rw (x.old i (le_trans h s.low))
          (y.0, x'.old i (le_trans h sound'.low) ∙ (at_register F ws top p s i h ∙ sym y.1))

      follows_new : Follows F (at v) (top + n) (at v') Kept far
      follows_new = record {
        heap = λ c q. heap_of c q;
        rises = far_rises;
        regs = old_register;
        cells = λ c q. cell_of_lem c q;
      }
        where
          heap_of : (c : ℕ) → Kept c → (F ≤ c) × (c < top + n)
          heap_of c (inl i) = (asc_in F c rs asc i, omega (arith, reached_below F ws top p s c i))
          heap_of c (inr i) = (omega (arith, i.0, s.low), i.1)

          cell_of_lem : (c : ℕ) → Kept c → Along Kept far (at v c) × (at v' (far c) ≡ map_ends far (at v c))
          cell_of_lem c (inl i) = old_cell_lem c i
          cell_of_lem c (inr i) = new_cell_lem c i.0 i.1

      -- a register set in both, to old cells or new ones
      pub new_register : (d : ℕ) → d < F → (b b' : Cell) → BracketIn F (top + n) b → BracketIn F (top' + n) b'
          → Along Kept far b → b' ≡ map_ends far b
          → canon F (put v d b) (top + n) ≡ canon F (put v' d b') (top' + n)
      new_register d l b b' t t' a e =
          sym (follow_canon F p (put v d b) (top + n) (sound_register F v (top + n) p x.sound d l b t)
          (put v' d b') (top' + n) (sound_register F v' (top' + n) p x'.sound d l b' t') Kept far
          (set_follow F p v (top + n) x.sound v' (top' + n) x'.sound Kept far far_low follows_new d l b b' t t'
          a e))

      -- to the run of all new cells
      pub new_both : (d : ℕ) → d < F → 0 < n
          → canon F (put v d (ends top (top + n - 1))) (top + n)
          ≡ canon F (put v' d (ends top' (top' + n - 1))) (top' + n)
      new_both d l h =
          let y = new_along top (top + n - 1) top' (top' + n - 1) (le_refl top) (omega arith) (omega arith)
          (omega arith) (omega arith) in
          new_register d l (ends top (top + n - 1)) (ends top' (top' + n - 1)) (s.low, omega arith, omega arith)
          (sound'.low, omega arith, omega arith) y.0 y.1
