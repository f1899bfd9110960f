-- What an algorithm has to show to have collected: its words, cell by cell. And the new address by counting upward.
-- In order:
--   new_first, new_after   the new address by a pass upward: F at first, and one more after a reached cell
--   new_skip, new_last     the same after any other cell, and at the end the new `top`
--   new_le                 no cell moves up
--   new_order, new_meet    reached cells keep their order, and no two of them meet
--   is_collected           words that are those of the collected store cell by cell are its words
--   term_unique            the meaning of cells is the one solution of its equation
-- Assumes nothing.
use mathlib.Core.Path.{◌≡◌, refl, sym, ap, ◌∙◌, subst}
use mathlib.Core.Logic.{◌⊎◌, inl, inr, ◌≢◌}
use mathlib.Core.Bool.{Bool, true, false}
use mathlib.Core.List.{List, [], ◌∷◌}
use Prim.Native.Nat.{ℕ, zero, suc, ◌+◌, ◌-◌, ◌*◌, ◌/◌, ◌≤◌, ◌<◌}
use native.Mathlib.Nat.{le_refl, not-suc-le-zero}
use native.Mathlib.Omega.{arith}
use lib.Dec.{ltb}
use lib.ListN.{length, get_or}
use lib.Seq.{ext_get_or}
use borrow.Author.Tests.{ltb-true, ltb-false, lt-ltb, le-ltb}
use Rattle.meaning.specs.Expr.{Expr}
use Rattle.meaning.specs.Sound.{Cell, fst, snd, at, Sound, code, empty, ends}
use Rattle.meaning.specs.Meaning.{term_of, term_at}
use Rattle.meaning.specs.Reach.{Reached, reached, live}
use Rattle.meaning.specs.Collected.{below, count_if, map_ends, new_address, collected, collected_top, new}
use Rattle.meaning.proofs.Lists.{lt_or_ge, In, Asc, in_get_d, below_get_d, below_low, below_suc, below_mono}
use Rattle.meaning.proofs.Lists.{below_le}
use Rattle.meaning.proofs.sound.Cells.{good, TermIn}
use Rattle.meaning.proofs.meaning.Terms.{run_ext}
use Rattle.meaning.proofs.reach.Reaching.{listed_iff, reached_asc, reached_below}
use Rattle.meaning.proofs.collected.Collecting.{reg_one, reg_two, heap_one, heap_two, length_collected}
use Rattle.meaning.proofs.collected.Collecting.{free_after}
use Rattle.meaning.proofs.actions.Writing.{term_law}

even_or_odd : (i : ℕ) → (i ≡ 2 * (i / 2)) ⊎ (i ≡ 2 * (i / 2) + 1)
even_or_odd i = go (lt_or_ge (2 * (i / 2)) i)
  where
    go : (2 * (i / 2) < i) ⊎ (i ≤ 2 * (i / 2)) → (i ≡ 2 * (i / 2)) ⊎ (i ≡ 2 * (i / 2) + 1)
    go (inl h) = inr (omega arith)
    go (inr h) = inl (omega arith)

-- ---- counting upward

-- c is not in the list
below_out : (c : ℕ) (xs : List ℕ) → (In c xs → ⊥) → below (suc c) xs ≡ below c xs
below_out c [] n = refl
below_out c (x ∷ xs) n = go (ltb x c) refl (below_out c xs (λ i. n (inr i)))
  where
    go : (t : Bool) → ltb x c ≡ t → below (suc c) xs ≡ below c xs
        → count_if (ltb x (suc c)) (below (suc c) xs) ≡ count_if t (below c xs)
    go true e r = rw (lt-ltb x (suc c) (omega (arith, ltb-true x c e)), r) refl
    go false e r =
        let m : x ≢ c = λ q. n (inl (sym q)) in rw (le-ltb x (suc c) (omega (arith, ltb-false x c e)), r) refl

below_all : (lo c : ℕ) (xs : List ℕ) → Asc lo xs → ((x : ℕ) → In x xs → x < c) → below c xs ≡ length xs
below_all lo c [] a h = refl
below_all lo c (x ∷ xs) a h =
    rw (lt-ltb x c (h x (inl refl))) (ap suc (below_all (suc x) c xs a.1 (λ y i. h y (inr i))))

module _ (F : ℕ) (ws : List ℕ) (top : ℕ) (p : 0 < F) (s : Sound F ws top) where
  -- the new address, by a pass upward: F at first, one more after each reached cell, `top` at the end
  pub new_first : new F ws top F ≡ F
  unfolding new_address
  new_first = omega (arith, below_low F F (reached F ws top) (reached_asc F ws top p s) (le_refl F))

  pub new_after : (c : ℕ) → Reached F (at ws) c
      → new F ws top (suc c) ≡ suc (new F ws top c)
  unfolding new_address
  new_after c r =
      omega (arith, below_suc F c (reached F ws top) (reached_asc F ws top p s) ((listed_iff F ws top p s c).1 r))

  pub new_skip : (c : ℕ) → (Reached F (at ws) c → ⊥)
      → new F ws top (suc c) ≡ new F ws top c
  unfolding new_address
  new_skip c n = omega (arith, below_out c (reached F ws top) (λ i. n ((listed_iff F ws top p s c).0 i)))

  pub new_last : new F ws top top ≡ collected_top F ws top
  unfolding new_address live
  new_last = omega (arith, below_all F top (reached F ws top) (reached_asc F ws top p s) (reached_below F ws top p s))

  -- no cell moves up
  pub new_le : (c : ℕ) → F ≤ c → new F ws top c ≤ c
  unfolding new_address
  new_le c f = below_le F c (reached F ws top) (reached_asc F ws top p s) f

  -- reached cells keep their order, so that no two of them meet
  pub new_order : (c d : ℕ) → Reached F (at ws) c → c < d
      → new F ws top c < new F ws top d
  unfolding new_address
  new_order c d r h =
      omega (
        arith,
        below_suc F c (reached F ws top) (reached_asc F ws top p s) ((listed_iff F ws top p s c).1 r),
        below_mono (reached F ws top) (suc c) d h,
      )

  -- Sharing is kept: two references meet in one cell after collecting exactly where they met before.
  pub new_meet : (c d : ℕ) → Reached F (at ws) c → Reached F (at ws) d
      → new F ws top c ≡ new F ws top d → c ≡ d
  new_meet c d r q e = go (lt_or_ge c d) (lt_or_ge d c)
    where
      go : (c < d) ⊎ (d ≤ c) → (d < c) ⊎ (c ≤ d) → c ≡ d
      go (inl h) x = absurd (omega (arith, new_order c d r h))
      go (inr h) (inl x) = absurd (omega (arith, new_order d c q x))
      go (inr h) (inr x) = omega arith

  -- ---- the words, cell by cell

  module _ (v : List ℕ) (len : length v ≡ length ws)
      (register : (i : ℕ) → i < F
      → (get_or v (2 * i) 0 ≡ fst (map_ends (new F ws top) (at ws i))) ×
      (get_or v (2 * i + 1) 0 ≡ snd (map_ends (new F ws top) (at ws i))))
      (heap : (c : ℕ) → Reached F (at ws) c
      → (get_or v (2 * new F ws top c) 0 ≡ fst (map_ends (new F ws top) (at ws c)))
      × (get_or v (2 * new F ws top c + 1) 0 ≡ snd
      (map_ends (new F ws top) (at ws c))))
      (free : (i : ℕ) → 2 * collected_top F ws top ≤ i → i < length ws → get_or v i 0 ≡ 0) where
    cell_words : (c : ℕ) → c < collected_top F ws top
        → (get_or v (2 * c) 0 ≡ get_or (collected F ws top) (2 * c) 0) ×
        (get_or v (2 * c + 1) 0 ≡ get_or (collected F ws top) (2 * c + 1) 0)
    unfolding new_address live
    cell_words c h = go (lt_or_ge c F)
      where
        go : (c < F) ⊎ (F ≤ c)
            → (get_or v (2 * c) 0 ≡ get_or (collected F ws top) (2 * c) 0) ×
            (get_or v (2 * c + 1) 0 ≡ get_or (collected F ws top) (2 * c + 1) 0)
        go (inl l) =
            let q = register c l in (q.0 ∙ sym (reg_one F ws top p s c l), q.1 ∙ sym (reg_two F ws top p s c l))
        go (inr l) =
            let j : c - F < length (reached F ws top) = omega arith in
            let x = get_or (reached F ws top) (c - F) 0 in
            let e : F + below x (reached F ws top) ≡ c = omega
            (arith, below_get_d F (reached F ws top) (c - F) (reached_asc F ws top p s) j) in
            let f : F + (c - F) ≡ c = omega arith in
            let q = rw e at (heap x ((listed_iff F ws top p s x).0 (in_get_d (reached F ws top) (c - F) j))) in (
              q.0 ∙ sym (rw f at (heap_one F ws top p s (c - F) j)),
              q.1 ∙ sym
                  (rw f at (heap_two F ws top p s (c - F) j)),
            )

    pub is_collected : v ≡ collected F ws top
    is_collected = ext_get_or 0 v (collected F ws top) (len ∙ sym (length_collected F ws top p s))
        (λ i h. go i h (lt_or_ge i (2 * collected_top F ws top)) (even_or_odd i))
      where
        go : (i : ℕ) → i < length v → (i < 2 * collected_top F ws top) ⊎ (2 * collected_top F ws top ≤ i)
            → (i ≡ 2 * (i / 2)) ⊎ (i ≡ 2 * (i / 2) + 1) → get_or v i 0 ≡ get_or (collected F ws top) i 0
        go i h (inr l) m = free i l (omega arith) ∙ sym
            (free_after F ws top p s i (unfold live in l) (omega (arith, length_collected F ws top p s)))
        go i h (inl l) (inl e) = subst (λ (x : ℕ). get_or v x 0 ≡ get_or (collected F ws top) x 0) (sym e)
            (cell_words (i / 2) (omega arith)).0
        go i h (inl l) (inr e) = subst (λ (x : ℕ). get_or v x 0 ≡ get_or (collected F ws top) x 0) (sym e)
            (cell_words (i / 2) (omega arith)).1

  -- ---- the meaning of cells is the one solution of its equation

  term_unique_of : (u : ℕ → Expr) (b : Cell) (c : ℕ) → TermIn F c b
      → ((x : ℕ) → F ≤ x → x < c → u x ≡ term_at ws x) → term_of u b ≡ term_of (term_at ws) b
  term_unique_of u (code a) c t h = refl
  term_unique_of u empty c t h = refl
  term_unique_of u (ends l r) c t h =
      ap (λ (z : Expr). Expr.parens z Expr.nothing) (run_ext u (term_at ws) l l (suc r - l)
      (λ j k. h (l + j) (omega (arith, t.0)) (omega (arith, t.1, t.2))))

  pub term_unique : (u : ℕ → Expr) → ((c : ℕ) → F ≤ c → c < top → u c ≡ term_of u (at ws c)) → (n c : ℕ) → c < n
      → F ≤ c → c < top → u c ≡ term_at ws c
  term_unique u h zero c k f l = absurd (not-suc-le-zero k)
  term_unique u h (suc n) c k f l =
      h c f l
      ∙ (term_unique_of u (at ws c) c ((good F ws top p s).heap c f l)
      (λ x g m. term_unique u h n x (omega arith) g (omega arith)) ∙ sym (term_law F ws top p s c f l))
