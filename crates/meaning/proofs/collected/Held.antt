-- A store is its own collection exactly where each heap cell lies between the ends of some register or heap bracket.
-- References in the heap point down, so a bracket that holds a cell is itself held by a higher cell, and so on up to a
-- register. In order:
--   reached_all, all_whole   each heap cell is reached, where live says so;  there and back
--   held_reached             a heap cell is reached, where each of them is held
--   held_whole, whole_held   there and back
-- Assumes nothing.
use mathlib.Core.Path.{◌≡◌, ap, ◌∙◌}
use mathlib.Core.Logic.{◌⊎◌, inl, inr}
use mathlib.Core.Bool.{true}
use mathlib.Core.List.{List}
use Prim.Native.Nat.{ℕ, zero, suc, ◌+◌, ◌-◌, ◌≤◌, ◌<◌}
use native.Mathlib.Omega.{arith}
use lib.ListN.{length}
use Rattle.meaning.specs.Sound.{at, Sound}
use Rattle.meaning.specs.Reach.{Between, Reached, by_register, by_bracket, held_below, reached, live}
use Rattle.meaning.specs.Collected.{up_from}
use Rattle.meaning.proofs.Lists.{lt_or_ge, In}
use Rattle.meaning.proofs.sound.Cells.{good}
use Rattle.meaning.proofs.reach.Reaching.{below_to, below_of, listed_iff, reached_asc, reached_below}
use Rattle.meaning.proofs.reach.Reaching.{reached_heap, between_term}
use Rattle.meaning.proofs.collected.Laid.{up_from_length}
use Rattle.meaning.proofs.collected.Again.{full}
use Rattle.meaning.proofs.collected.Whole.{filled}

in_up : (lo n c : ℕ) → lo ≤ c → c < lo + n → In c (up_from lo n)
in_up lo zero c l h = absurd (omega arith)
in_up lo (suc n) c l h = go (lt_or_ge lo c) (λ m. in_up (suc lo) n c m (omega arith))
  where
    go : (lo < c) ⊎ (c ≤ lo) → (lo < c → In c (up_from (suc lo) n)) → In c (up_from lo (suc n))
    go (inl m) r = inr (r m)
    go (inr m) r = inl (omega arith)

module _ (F : ℕ) (ws : List ℕ) (top : ℕ) (p : 0 < F) (s : Sound F ws top) where
  pub all_whole : ((c : ℕ) → F ≤ c → c < top → Reached F (at ws) c) → live F ws top ≡ top - F
  unfolding live
  all_whole a =
      let e : F + (top - F) ≡ top = omega (arith, s.low) in
      let r = full F (top - F) (reached F ws top) (reached_asc F ws top p s)
      (λ c l h. (listed_iff F ws top p s c).1 (a c l (omega arith)))
      (λ c i. let h = reached_below F ws top p s c i in omega arith) in
      ap (λ (xs : List ℕ). length xs) r ∙ up_from_length F (top - F)

  pub reached_all : live F ws top ≡ top - F → (c : ℕ) → F ≤ c → c < top → Reached F (at ws) c
  unfolding live
  reached_all e c l h =
      let r = filled F (top - F) (reached F ws top) (reached_asc F ws top p s)
      (λ x i. let q = reached_below F ws top p s x i in omega (arith, s.low)) e in
      (listed_iff F ws top p s c).0 (rw r (in_up F (top - F) c l (omega (arith, s.low))))

  held_reached : ((c : ℕ) → F ≤ c → c < top → held_below (at ws) top c ≡ true) → (n c : ℕ) → top - n ≤ c → F ≤ c
      → c < top → Reached F (at ws) c
  held_reached a zero c m f h = absurd (omega arith)
  held_reached a (suc n) c m f h = go (below_to (at ws) top c (a c f h)) (held_reached a n)
    where
      go : (i : ℕ) × (i < top) × Between (at ws i) c
          → ((x : ℕ) → top - n ≤ x → F ≤ x → x < top → Reached F (at ws) x) → Reached F (at ws) c
      go q rec = pick (lt_or_ge q.0 F)
        where
          pick : (q.0 < F) ⊎ (F ≤ q.0) → Reached F (at ws) c
          pick (inl l) = by_register q.0 l q.2
          pick (inr l) =
              let g = good F ws top p s in
              let t = between_term F (at ws) top g (at ws q.0) q.0 c (g.heap q.0 l q.1) q.2 in
              by_bracket q.0 (rec q.0 (omega (arith, t.1)) l q.1) q.2

  pub held_whole : ((c : ℕ) → F ≤ c → c < top → held_below (at ws) top c ≡ true) → live F ws top ≡ top - F
  held_whole a = all_whole (λ c l h. held_reached a top c (omega arith) l h)

  pub whole_held : live F ws top ≡ top - F → (c : ℕ) → F ≤ c → c < top → held_below (at ws) top c ≡ true
  whole_held e c l h = go (reached_all e c l h)
    where
      go : Reached F (at ws) c → held_below (at ws) top c ≡ true
      go (by_register i m q) = below_of (at ws) top c i (omega (arith, s.low)) q
      go (by_bracket b r q) = below_of (at ws) top c b (reached_heap F (at ws) top (good F ws top p s) r).1 q
