-- A sound store as the sweep sees it: `heap_of`, what soundness and reaching say of it, and its first phase. In order:
--   live_to, live_of  its reached cells are those of the definition
--   proper            what is asked of a heap
--   begun             the phase before the sweep
-- Assumes nothing.
use mathlib.Core.Path.{◌≡◌, refl, sym, ◌∙◌, ap, subst}
use mathlib.Core.Logic.{◌⊎◌, inl, inr}
use mathlib.Core.Bool.{Bool, true, false, cond, ◌||◌, true≢false, false≢true}
use mathlib.Core.List.{List, [], ◌∷◌}
use Prim.Native.Nat.{ℕ, ◌^◌, ◌≤◌, ◌<◌}
use native.Mathlib.Omega.{arith}
use lib.Dec.{ltb, eqb}
use borrow.Author.Tests.{ltb-true, lt-ltb, le-ltb, eqb-true, eq-eqb}
use Rattle.words.specs.Cell.{first_word, second_word}
use Rattle.words.specs.Second.{Second, decode, full_word}
use Rattle.meaning.specs.Limits.{first_heap_cell}
use Rattle.meaning.specs.Sound as S
use Rattle.meaning.specs.Reach.{Between, Reached, by_register, by_bracket, reached}
use Rattle.meaning.specs.Collected.{new}
use Rattle.meaning.proofs.Lists.{In}
use Rattle.meaning.proofs.sound.Cells.{limit_fits, good}
use Rattle.meaning.proofs.reach.Reaching.{or_left, or_right, or_cases, reached_heap, listed_iff}
use Rattle.meaning.proofs.collected.Determined.{new_first, new_after, new_skip}
use Rattle.collect.specs.Cells.{cell}
use Rattle.collect.specs.Heap.{Heap, holder, Proper}
use Rattle.collect.specs.Chain.{old_cell, SweptTo}
use Rattle.collect.specs.Phases.{Begun}
use Rattle.meaning.proofs.sound.Fields.{Fields, cell_fields, cell_ends, cell_plain, full_ends, ends_full, ends_in}
use Rattle.meaning.proofs.sound.Fields.{ends_down}
use Rattle.meaning.proofs.Counting.{both_true}
use Rattle.collect.proofs.heap.Spots.{last_zero, whole_l, ahead_r, spot_ahead}

-- ---- whether a number is in a list

abbrev among : ℕ → List ℕ → Bool
among c [] = false
among c (b ∷ bs) = eqb c b || among c bs

among_to : (c : ℕ) (bs : List ℕ) → among c bs ≡ true → In c bs
among_to c [] e = absurd (false≢true e)
among_to c (b ∷ bs) e = go (or_cases (eqb c b) (among c bs) e) (among_to c bs)
  where
    go : (eqb c b ≡ true) ⊎ (among c bs ≡ true) → (among c bs ≡ true → In c bs) → In c (b ∷ bs)
    go (inl q) ih = inl (eqb-true c b q)
    go (inr q) ih = inr (ih q)

among_of : (c : ℕ) (bs : List ℕ) → In c bs → among c bs ≡ true
among_of c [] i = absurd i
among_of c (b ∷ bs) (inl e) = or_left (eqb c b) (among c bs) (eq-eqb c b e)
among_of c (b ∷ bs) (inr i) = or_right (eqb c b) (among c bs) (among_of c bs i)

-- ---- the heap that the sound words ws hold, to be packed or not

abbrev pub heap_of : ℕ → List ℕ → ℕ → Bool → Heap
heap_of F ws top packs = record {
  F = F;
  T = top;
  br = λ c. (decode (second_word ws c)).br;
  live = λ c. among c (reached F ws top);
  li = λ c. first_word ws c;
  ri = λ c. (decode (second_word ws c)).ri;
  new = new F ws top;
  packs = packs;
}

module _ (F : ℕ) (ws : List ℕ) (top : ℕ) (packs : Bool) (p : 0 < F) (s : S.Sound F ws top) where
  abbrev g : Heap
  g = heap_of F ws top packs

  pub live_to : (c : ℕ) → g.live c ≡ true → Reached F (S.at ws) c
  live_to c e = (listed_iff F ws top p s c).0 (among_to c (reached F ws top) e)

  pub live_of : (c : ℕ) → Reached F (S.at ws) c → g.live c ≡ true
  live_of c r = among_of c (reached F ws top) ((listed_iff F ws top p s c).1 r)

  split : (c : ℕ) → holder g c ≡ true → ((ltb c F || g.live c) ≡ true) × (full_word (second_word ws c) ≡ true)
  unfolding holder
  split c h = both_true (ltb c F || g.live c) (full_word (second_word ws c)) h

  pub holder_ends : (c : ℕ) → holder g c ≡ true → S.at ws c ≡ S.Cell.ends (g.li c) (g.ri c)
  holder_ends c h = full_ends F ws top p s c (split c h).1

  live_heap : (c : ℕ) → g.live c ≡ true → (F ≤ c) × (c < top)
  live_heap c h = reached_heap F (S.at ws) top (good F ws top p s) (live_to c h)

  holds : (c j : ℕ) → holder g c ≡ true → g.li c ≤ j → j ≤ g.ri c → Reached F (S.at ws) j
  holds c j h a b = go (ltb c F) refl (split c h).0
    where
      within : Between (S.at ws c) j
      within = subst (λ (x : S.Cell). Between x j) (sym (holder_ends c h)) (a, b)

      go : (t : Bool) → ltb c F ≡ t → (t || g.live c) ≡ true → Reached F (S.at ws) j
      go true e q = by_register c (ltb-true c F e) within
      go false e q = by_bracket c (live_to c q) within

  -- a register or reached cell that holds c
  abbrev Held : ℕ → Type 0
  Held c = (b : ℕ) × (holder g b ≡ true) × (g.li b ≤ c) × (c ≤ g.ri b)

  is_held : (b c : ℕ) → (ltb b F || g.live b) ≡ true → Between (S.at ws b) c → Held c
  unfolding holder
  is_held b c k h = go (S.at ws b) refl h
    where
      go : (x : S.Cell) → S.at ws b ≡ x → Between x c → Held c
      go (S.code a) e y = absurd y
      go S.empty e y = absurd y
      go (S.ends l r) e y =
          let w = cell_ends F ws top p s b e in (
            b,
            rw k (ends_full F ws top p s b e),
            omega (arith, w.0, y.0),
            omega (arith, ap (λ (x : Second). x.ri) w.1, y.1),
          )

  held : (c : ℕ) → Reached F (S.at ws) c → Held c
  held c (by_register i l h) = is_held i c (rw (lt-ltb i F l)) h
  held c (by_bracket b r h) = is_held b c (or_right (ltb b F) (g.live b) (live_of b r)) h

  pub proper : Proper g
  proper = record {
    some = p;
    FT = s.low;
    heap = live_heap;
    ends = λ c h. ends_in F ws top p s c (holder_ends c h);
    down = λ c h f. ends_down F ws top p s c f (low c h f) (holder_ends c h);
    kept = λ c j h a b. live_of j (holds c j h a b);
    held = λ c h. held c (live_to c h);
    first = new_first F ws top p s;
    after = λ c h. new_after F ws top p s c (live_to c h);
    skip = λ c h. new_skip F ws top p s c (λ r. true≢false (sym (live_of c r) ∙ h));
  }
    where
      low : (c : ℕ) → holder g c ≡ true → F ≤ c → c < top
      low c h f = (live_heap c (rw (le-ltb c F f) at (split c h).0)).1

  -- a first word fits 28 bits
  first_small : (c : ℕ) → first_word ws c < 2 ^ 28
  first_small c = go (S.at ws c) refl (cell_fields F ws top p s c)
    where
      go : (x : S.Cell) → S.at ws c ≡ x → Fields x (first_word ws c) (decode (second_word ws c))
          → first_word ws c < 2 ^ 28
      go (S.code a) e f = omega (arith, f.0, f.2)
      go S.empty e f = omega (arith, f.0)
      go (S.ends l r) e f = omega (arith, f.0, ends_in F ws top p s c e, s.high, s.allowed.small, limit_fits)

  pub old_cell_lem : (c : ℕ) → cell ws c ≡ old_cell g c
  old_cell_lem c = let e = cell_plain F ws top p s c in rw (e)

  before : SweptTo g 0 0 (cell ws)
  before = record {
    at = λ c h.
        rw (
          spot_ahead g 0 c (omega arith),
          whole_l g 0 c (omega arith),
          last_zero g c,
          ahead_r g 0 0 c (omega arith),
        ) (old_cell_lem c);
    dead = λ c f l h. old_cell_lem c;
  }

  pub begun : {lifts : ℕ → ℕ → Type 0} → F ≡ first_heap_cell
      → ((dead d : ℕ) → lifts dead d → d ≡ cond packs dead 0) → Begun g ws top lifts
  begun first up = record {
    phase = record {
      frame = record {
        proper = proper;
        first = first;
        room = omega (arith, s.high);
        len = omega (arith, s.allowed.small);
        small = first_small;
      };
      at = before;
    };
    ends = refl;
    up = up;
  }
