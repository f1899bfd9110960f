-- Stores are alike, in the words of SCOPE 8.4, exactly when their canonical words are equal, and so exactly when
-- collecting makes them equal. In order:
--   alike_canon, canon_alike         alike stores have the same canonical words, and back
--   collect_sound                    what collecting a sound store answers and leaves
--   same_length                      sound stores of the same capacity have as many words
--   canon_collects, collects_canon   the same canonical words give the same by collecting, and back
--   alike_is_collected               the claim
-- Assumes nothing.
use mathlib.Core.Path.{◌≡◌, refl, sym, ap, ap₂, ◌∙◌, subst}
use mathlib.Core.Logic.{◌⊎◌, inl, inr}
use mathlib.Core.List.{List, [], ◌++◌}
use Prim.Native.Nat.{ℕ, ◌+◌, ◌-◌, ◌*◌, ◌≤◌, ◌<◌}
use native.Mathlib.Nat.{le_refl}
use native.Mathlib.Omega.{arith}
use lib.ListN.{length, get_or, take, replicate}
use lib.Seq.{take_at}
use Rattle.meaning.specs.Sound.{Cell, code, empty, ends, fst, snd, at, Sound, capacity}
use Rattle.meaning.specs.Reach.{Between, reached, live}
use Rattle.meaning.specs.Collected.{below, map_ends, up_from, new_address, collected, collected_top, new}
use Rattle.meaning.specs.Verdicts.{Done, done}
use Rattle.meaning.specs.Check.{collect_in}
use Rattle.meaning.proofs.Lists.{lt_or_ge, In, asc_in, in_get_d, place, below_get_d}
use Rattle.meaning.proofs.sound.Cells.{good, TermIn, term_of_bracket, read, read_words}
use Rattle.meaning.proofs.reach.Reaching.{reached_asc, reached_below}
use Rattle.meaning.proofs.collected.Laid.{lay_fst, lay_snd, kept_low, kept_high, kept_length}
use Rattle.meaning.proofs.collected.Again.{lay_ext}
use Rattle.meaning.proofs.collected.Collecting.{held_register, held_heap, good_register, good_heap}
use Rattle.meaning.proofs.check.Checking.{sound_check}
use Rattle.promises.specs.Alike.{Paired, PairedCells, Alike, AlikeIsCollected}
use Rattle.meaning.proofs.twins.Canons.{canon_of, canon, length_canon, collected_canon, same_collected}

module _ (F : ℕ) (p : 0 < F) (ws : List ℕ) (top : ℕ) (s : Sound F ws top) (ws' : List ℕ) (top' : ℕ)
    (s' : Sound F ws' top') where
  abbrev rs : List ℕ
  rs = reached F ws top

  abbrev rs' : List ℕ
  rs' = reached F ws' top'

  paired_new : (x y : ℕ) → Paired rs rs' x y → new F ws top x ≡ new F ws' top' y
  unfolding new_address
  paired_new x y q =
      rw (
        q.here,
        q.there,
        below_get_d F rs q.j (reached_asc F ws top p s) q.first,
        below_get_d F rs' q.j
            (reached_asc F ws' top' p s') q.second,
      ) refl

  new_paired : (x y : ℕ) → In x rs → In y rs' → new F ws top x ≡ new F ws' top' y → Paired rs rs' x y
  unfolding new_address
  new_paired x y i i' e =
      let q = place F x rs (reached_asc F ws top p s) i in
      let q' = place F y rs' (reached_asc F ws' top' p s') i' in
      let z : below x rs ≡ below y rs' = omega arith in
      record { j = below x rs; first = q.0; second = rw z q'.0; here = sym q.1; there = rw z (sym q'.1) }

  paired_cells : (b b' : Cell) → PairedCells rs rs' b b' → map_ends (new F ws top) b ≡ map_ends (new F ws' top') b'
  paired_cells (code a) (code b) q = ap {B = Cell} (λ x. code x) q
  paired_cells (code a) empty q = absurd q
  paired_cells (code a) (ends l r) q = absurd q
  paired_cells empty (code b) q = absurd q
  paired_cells empty empty q = refl
  paired_cells empty (ends l r) q = absurd q
  paired_cells (ends l r) (code b) q = absurd q
  paired_cells (ends l r) empty q = absurd q
  paired_cells (ends l r) (ends l' r') q =
      ap₂ {C = Cell} (λ x y. ends x y) (paired_new l l' q.0) (paired_new r r' q.1)

  abbrev m : ℕ → Cell
  m c = map_ends (new F ws top) (at ws c)

  abbrev m' : ℕ → Cell
  m' c = map_ends (new F ws' top') (at ws' c)

  -- alike stores have the same canonical words
  pub alike_canon : Alike F ws top ws' top' → canon F ws top ≡ canon F ws' top'
  unfolding canon canon_of live
  alike_canon a =
      lay_ext m m' (up_from 0 F ++ rs) (up_from 0 F ++ rs')
      (kept_length F rs ∙ (ap (λ (n : ℕ). F + n) a.many ∙ sym (kept_length F rs')))
      (λ i h. go i (omega (arith, kept_length F rs)) (lt_or_ge i F))
    where
      go : (i : ℕ) → i < F + length rs → (i < F) ⊎ (F ≤ i)
          → m (get_or (up_from 0 F ++ rs) i 0) ≡ m' (get_or (up_from 0 F ++ rs') i 0)
      go i h (inl l) = rw (kept_low F rs i l, kept_low F rs' i l) (paired_cells (at ws i) (at ws' i) (a.registers i l))
      go i h (inr l) =
          let e : F + (i - F) ≡ i = omega arith in
          subst (λ (x : ℕ). m (get_or (up_from 0 F ++ rs) x 0) ≡ m' (get_or (up_from 0 F ++ rs') x 0)) e
          (rw (kept_high F rs (i - F), kept_high F rs' (i - F))
          (paired_cells (at ws (get_or rs (i - F) 0)) (at ws' (get_or rs' (i - F) 0)) (a.kth (i - F) (omega arith))))

  -- ---- and back

  two_cells : (lim lim' : ℕ) (b b' : Cell) → TermIn F lim b → TermIn F lim' b' → fst b ≡ fst b' → snd b ≡ snd b'
      → b ≡ b'
  two_cells lim lim' b b' t t' e e' = sym (read_words F lim b p t) ∙ (ap₂ read e e' ∙ read_words F lim' b' p t')

  canon_one : canon F ws top ≡ canon F ws' top' → (i : ℕ) → i < F + length rs → i < F + length rs'
      → fst (m (get_or (up_from 0 F ++ rs) i 0)) ≡ fst (m' (get_or (up_from 0 F ++ rs') i 0))
  unfolding canon canon_of
  canon_one e i h h' =
      sym (lay_fst m (up_from 0 F ++ rs) [] i (omega (arith, kept_length F rs)))
      ∙ (ap (λ (x : List ℕ). get_or (x ++ []) (2 * i) 0) e ∙ lay_fst m' (up_from 0 F ++ rs') [] i
      (omega (arith, kept_length F rs')))

  canon_two : canon F ws top ≡ canon F ws' top' → (i : ℕ) → i < F + length rs → i < F + length rs'
      → snd (m (get_or (up_from 0 F ++ rs) i 0)) ≡ snd (m' (get_or (up_from 0 F ++ rs') i 0))
  unfolding canon canon_of
  canon_two e i h h' =
      sym (lay_snd m (up_from 0 F ++ rs) [] i (omega (arith, kept_length F rs)))
      ∙ (ap (λ (x : List ℕ). get_or (x ++ []) (2 * i + 1) 0) e ∙ lay_snd m' (up_from 0 F ++ rs') [] i
      (omega (arith, kept_length F rs')))

  pair_of : (lim lim' : ℕ) (b b' : Cell) → TermIn F lim b → TermIn F lim' b' → ((x : ℕ) → Between b x → In x rs)
      → ((x : ℕ) → Between b' x → In x rs') → map_ends (new F ws top) b ≡ map_ends (new F ws' top') b'
      → PairedCells rs rs' b b'
  pair_of lim lim' (code a) (code b) t t' h h' e = cc
  pair_of lim lim' (code a) empty t t' h h' e = let z : ◌≡◌ {A = ℕ} 0 1 = cc in omega arith
  pair_of lim lim' (code a) (ends l r) t t' h h' e = let z : ◌≡◌ {A = ℕ} 0 1 = cc in omega arith
  pair_of lim lim' empty (code b) t t' h h' e = let z : ◌≡◌ {A = ℕ} 0 1 = cc in omega arith
  pair_of lim lim' empty empty t t' h h' e = tt
  pair_of lim lim' empty (ends l r) t t' h h' e = let z : ◌≡◌ {A = ℕ} 0 1 = cc in omega arith
  pair_of lim lim' (ends l r) (code b) t t' h h' e = let z : ◌≡◌ {A = ℕ} 0 1 = cc in omega arith
  pair_of lim lim' (ends l r) empty t t' h h' e = let z : ◌≡◌ {A = ℕ} 0 1 = cc in omega arith
  pair_of lim lim' (ends l r) (ends l' r') t t' h h' e =
      let x : (new F ws top) l ≡ new F ws' top' l' = cc in
      let y : (new F ws top) r ≡ new F ws' top' r' = cc in (
        new_paired l l' (h l (le_refl l, t.1)) (h' l' (le_refl l', t'.1)) x,
        new_paired r r' (h r (t.1, le_refl r))
            (h' r' (t'.1, le_refl r')) y,
      )

  many_of : canon F ws top ≡ canon F ws' top' → length rs ≡ length rs'
  unfolding live
  many_of e = omega (arith, length_canon F ws top, length_canon F ws' top', ap length e)

  pub canon_alike : canon F ws top ≡ canon F ws' top' → Alike F ws top ws' top'
  unfolding live new_address
  canon_alike e = record { many = n; kth = kth; registers = regs }
    where
      n : length rs ≡ length rs'
      n = many_of e

      kth : (k : ℕ) → k < length rs → PairedCells rs rs' (at ws (get_or rs k 0)) (at ws' (get_or rs' k 0))
      kth k h =
          let h' : k < length rs' = omega (arith, n) in
          let i = in_get_d rs k h in
          let i' = in_get_d rs' k h' in
          let x = get_or rs k 0 in
          let x' = get_or rs' k 0 in
          pair_of x x' (at ws x) (at ws' x')
          ((good F ws top p s).heap x (asc_in F x rs (reached_asc F ws top p s) i) (reached_below F ws top p s x i))
          ((good F ws' top' p s').heap x' (asc_in F x' rs' (reached_asc F ws' top' p s') i')
          (reached_below F ws' top' p s' x' i')) (held_heap F ws top p s x i) (held_heap F ws' top' p s' x' i')
          (two_cells (F + k) (F + k) (m x) (m' x') (good_heap F ws top p s k h) (good_heap F ws' top' p s' k h')
          (rw (kept_high F rs k, kept_high F rs' k) at (canon_one e (F + k) (omega arith) (omega arith)))
          (rw (kept_high F rs k, kept_high F rs' k) at (canon_two e (F + k) (omega arith) (omega arith))))

      regs : (i : ℕ) → i < F → PairedCells rs rs' (at ws i) (at ws' i)
      regs i h =
          pair_of top top' (at ws i) (at ws' i) (term_of_bracket F top (at ws i) ((good F ws top p s).regs i h))
          (term_of_bracket F top' (at ws' i) ((good F ws' top' p s').regs i h))
          (held_register F ws top p s i h) (held_register F ws' top' p s' i h)
          (two_cells (F + length rs) (F + length rs') (m i) (m' i)
          (term_of_bracket F (F + length rs) (m i) (good_register F ws top p s i h))
          (term_of_bracket F (F + length rs') (m' i) (good_register F ws' top' p s' i h))
          (rw (kept_low F rs i h, kept_low F rs' i h) at (canon_one e i (omega arith) (omega arith)))
          (rw (kept_low F rs i h, kept_low F rs' i h) at (canon_two e i (omega arith) (omega arith))))

-- ---- by collecting

-- collecting a sound store
pub collect_sound : (F : ℕ) (ws : List ℕ) (top : ℕ) → Sound F ws top
    → collect_in F ws top ≡ done (collected F ws top) (collected_top F ws top) (live F ws top)
unfolding collect_in
collect_sound F ws top s = rw (sound_check F ws top s) (refl)

pub same_length : {F : ℕ} {ws : List ℕ} {top : ℕ} {ws' : List ℕ} {top' : ℕ} → Sound F ws top → Sound F ws' top'
    → capacity ws ≡ capacity ws' → length ws ≡ length ws'
same_length s s' e = omega (arith, s.allowed.even, s'.allowed.even)

module _ (F : ℕ) (ws : List ℕ) (top : ℕ) (s : Sound F ws top) (ws' : List ℕ) (top' : ℕ) (s' : Sound F ws' top') where
  pub canon_collects : length ws ≡ length ws' → canon F ws top ≡ canon F ws' top'
      → collect_in F ws top ≡ collect_in F ws' top'
  canon_collects l e =
      let q = same_collected F ws top ws' top' l e in
      let n : live F ws top ≡ live F ws' top' = omega (arith, q.1) in
      collect_sound F ws top s ∙ (rw (q.0, q.1, n) refl ∙ sym (collect_sound F ws' top' s'))

  pub collects_canon : collect_in F ws top ≡ collect_in F ws' top' → canon F ws top ≡ canon F ws' top'
  collects_canon e =
      let q : done (collected F ws top) (collected_top F ws top) (live F ws top)
      ≡ done (collected F ws' top') (collected_top F ws' top') (live F ws' top') =
      sym (collect_sound F ws top s) ∙ (e ∙ collect_sound F ws' top' s') in
      let w : collected F ws top ≡ collected F ws' top' = ap (λ (r : Done). r.words) q in
      let t : collected_top F ws top ≡ collected_top F ws' top' = ap (λ (r : Done). r.top) q in
      sym (front ws top) ∙ (ap₂ {C = List ℕ} (λ n v. take (2 * n) v) t w ∙ front ws' top')
    where
      front : (v : List ℕ) (u : ℕ) → take (2 * collected_top F v u) (collected F v u) ≡ canon F v u
      front v u =
          rw (collected_canon F v u)
          (take_at (canon F v u) (replicate (length v - length (canon F v u)) 0) (2 * collected_top F v u)
          (length_canon F v u))

pub alike_is_collected : AlikeIsCollected
alike_is_collected F p ws top ws' top' s s' c = (
  λ a. canon_collects F ws top s ws' top' s' (same_length s s' c) (alike_canon F p ws top s ws' top' s' a),
  λ e. canon_alike F p ws top s ws' top' s' (collects_canon F ws top s ws' top' s' e),
)
