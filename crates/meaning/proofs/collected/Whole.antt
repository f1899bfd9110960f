-- A store in which every occupied heap cell is reached: collecting changes no word of it. So collecting a collected
-- store changes nothing. In order:
--   filled            an ascending list of n numbers from lo on, all below lo + n, is `up_from lo n`
--   below_up_from      how many of those are below c
--   collected_whole   where `top` stays as it is, so does every word
--   collected_again   collecting again
-- Assumes nothing.
use mathlib.Core.Path.{◌≡◌, refl, sym, ap, ap₂, ◌∙◌}
use mathlib.Core.Logic.{inl, inr}
use mathlib.Core.List.{List, [], ◌∷◌}
use Prim.Native.Nat.{ℕ, zero, suc, ◌+◌, ◌-◌, ◌*◌, ◌≤◌, ◌<◌}
use native.Mathlib.Nat.{le_refl}
use native.Mathlib.Omega.{arith}
use lib.Dec.{ltb}
use lib.ListN.{length, get_or}
use borrow.Author.Tests.{lt-ltb, le-ltb}
use Rattle.meaning.specs.Sound.{Cell, code, empty, ends, fst, snd, at, Sound}
use Rattle.meaning.specs.Reach.{Reached, reached, live}
use Rattle.meaning.specs.Collected.{below, count_if, map_ends, up_from, new_address, collected, new, collected_top}
use Rattle.meaning.proofs.Lists.{In, Asc, asc_in, asc_length, below_low}
use Rattle.meaning.proofs.sound.Cells.{TermIn, term_of_bracket, good, read, bracket_words, term_words}
use Rattle.meaning.proofs.sound.Cells.{register_rule, heap_rule, free_words}
use Rattle.meaning.proofs.reach.Reaching.{listed_iff, reached_asc, reached_below}
use Rattle.meaning.proofs.collected.Collecting.{collected_sound}
use Rattle.meaning.proofs.collected.Again.{live_kept}
use Rattle.meaning.proofs.collected.Determined.{is_collected}

pub filled : (lo n : ℕ) (xs : List ℕ) → Asc lo xs → ((c : ℕ) → In c xs → c < lo + n) → length xs ≡ n
    → xs ≡ up_from lo n
filled lo zero [] a b l = refl
filled lo zero (x ∷ xs) a b l = absurd (omega arith)
filled lo (suc n) [] a b l = absurd (omega arith)
filled lo (suc n) (x ∷ xs) a b l =
    let most = asc_length (suc x) (lo + suc n) xs a.1 (b x (inl refl)) (λ c i. b c (inr i)) in
    let e : x ≡ lo = omega (arith, a.0, most) in
    ap₂ {C = List ℕ} (λ u v. u ∷ v) e
    (filled (suc lo) n xs (rw e at a.1) (λ c i. let q = b c (inr i) in omega arith) (omega arith))

pub below_up_from : (lo n c : ℕ) → lo ≤ c → c ≤ lo + n → below c (up_from lo n) ≡ c - lo
below_up_from lo zero c l h = omega arith
below_up_from lo (suc n) c l h = go (c - lo) refl (below_up_from (suc lo) n c)
  where
    go : (d : ℕ) → c - lo ≡ d → (suc lo ≤ c → c ≤ suc lo + n → below c (up_from (suc lo) n) ≡ c - suc lo)
        → count_if (ltb lo c) (below c (up_from (suc lo) n)) ≡ c - lo
    go zero e r = rw (le-ltb lo c (omega arith)) (below_low (suc lo) c (up_from (suc lo) n) (asc_up (suc lo) n)
        (omega arith) ∙ sym e)
      where
        asc_up : (x m : ℕ) → Asc x (up_from x m)
        asc_up x zero = tt
        asc_up x (suc m) = (le_refl x, asc_up (suc x) m)
    go (suc d) e r = rw (lt-ltb lo c (omega arith)) (omega (arith, r (omega arith) (omega arith)))

same_ends : (F n lim : ℕ) (b : Cell) → lim ≤ F + n → TermIn F lim b → map_ends (new_address F (up_from F n)) b ≡ b
unfolding new_address
same_ends F n lim (code a) h t = refl
same_ends F n lim empty h t = refl
same_ends F n lim (ends l r) h t =
    ap₂ {C = Cell} (λ u v. ends u v) (omega (arith, below_up_from F n l t.0 (omega (arith, t.1, t.2)), t.0))
    (omega (arith, below_up_from F n r (omega (arith, t.0, t.1)) (omega (arith, t.2)), t.0, t.1))

module _ (F : ℕ) (ws : List ℕ) (top : ℕ) (p : 0 < F) (s : Sound F ws top) (e : collected_top F ws top ≡ top) where
  abbrev n : ℕ
  n = live F ws top

  reached_whole : reached F ws top ≡ up_from F n
  unfolding live
  reached_whole =
      filled F n (reached F ws top) (reached_asc F ws top p s)
      (λ c i. omega (arith, reached_below F ws top p s c i)) refl

  new_whole : (c : ℕ) → F ≤ c → c ≤ top → new F ws top c ≡ c
  unfolding new_address
  new_whole c f h = rw reached_whole (omega (arith, below_up_from F n c f (omega arith)))

  ends_whole : (lim : ℕ) (b : Cell) → lim ≤ top → TermIn F lim b → map_ends (new F ws top) b ≡ b
  ends_whole lim b h t = rw reached_whole (same_ends F n lim b (omega arith) t)

  pub collected_whole : collected F ws top ≡ ws
  unfolding at read
  collected_whole =
      sym (is_collected F ws top p s ws refl register heap (λ i l h. free_words F ws top s i (omega arith) h))
    where
      register : (i : ℕ) → i < F
          → (get_or ws (2 * i) 0 ≡ fst (map_ends (new F ws top) (at ws i)))
          × (get_or ws (2 * i + 1) 0 ≡ snd (map_ends (new F ws top) (at ws i)))
      register i h =
          let w = bracket_words F top (get_or ws (2 * i) 0) (get_or ws (2 * i + 1) 0) p (register_rule s i h) in
          let t = term_of_bracket F top (at ws i) ((good F ws top p s).regs i h) in
          rw (ends_whole top (at ws i) (le_refl top) t) (sym w.one, sym w.two)

      heap : (c : ℕ) → Reached F (at ws) c
          → (get_or ws (2 * new F ws top c) 0 ≡ fst (map_ends (new F ws top) (at ws c)))
          × (get_or ws (2 * new F ws top c + 1) 0 ≡ snd (map_ends (new F ws top) (at ws c)))
      heap c r =
          let i = (listed_iff F ws top p s c).1 r in
          let f = asc_in F c (reached F ws top) (reached_asc F ws top p s) i in
          let h = reached_below F ws top p s c i in
          let w = term_words F c (get_or ws (2 * c) 0) (get_or ws (2 * c + 1) 0) p (heap_rule s c f h) in
          rw (new_whole c f (omega arith), ends_whole c (at ws c) (omega arith) ((good F ws top p s).heap c f h))
          (sym w.one, sym w.two)

-- collecting again changes no word, and by `live_kept` not `top`
pub collected_again : (F : ℕ) (ws : List ℕ) (top : ℕ) → 0 < F → Sound F ws top
    → collected F (collected F ws top) (collected_top F ws top) ≡ collected F ws top
collected_again F ws top p s =
    collected_whole F (collected F ws top) (collected_top F ws top) p (collected_sound F ws top p s)
    (ap (λ (x : ℕ). F + x) (live_kept F ws top p s))
