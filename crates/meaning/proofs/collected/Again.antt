-- After collecting, every occupied heap cell is reached. In order:
--   full            an ascending list of all numbers from lo up to lo + n is `up_from lo n`
--   lay_ext         the words laid are the same where the cells are
--   reached_kept    a reached cell is reached at its new address
--   all_reached     every occupied heap cell of the result is reached
--   reached_again   the list of its reached cells
--   live_kept       live stays when it is collected again, and with it `top`
-- Assumes nothing.
use mathlib.Core.Path.{◌≡◌, refl, sym, ap, ap₂, ◌∙◌, subst}
use mathlib.Core.Logic.{inl, inr}
use mathlib.Core.List.{List, [], ◌∷◌}
use Prim.Native.Nat.{ℕ, zero, suc, ◌+◌, ◌-◌, ◌≤◌, ◌<◌}
use native.Mathlib.Nat.{le_refl}
use native.Mathlib.Omega.{arith}
use lib.ListN.{length, get_or}
use Rattle.meaning.specs.Sound.{Cell, code, empty, ends, fst, snd, at, Sound}
use Rattle.meaning.specs.Reach.{Between, Reached, by_register, by_bracket, reached, live}
use Rattle.meaning.specs.Collected.{map_ends, lay, up_from, new_address, collected, new}
use Rattle.meaning.specs.Collected.{collected_top}
use Rattle.meaning.proofs.Lists.{In, Asc, asc_in, in_get_d, below_get_d, below_mono}
use Rattle.meaning.proofs.reach.Reaching.{listed_iff, reached_asc, reached_below}
use Rattle.meaning.proofs.collected.Laid.{up_from_length}
use Rattle.meaning.proofs.collected.Collecting.{at_register, at_new, collected_sound}

-- an ascending list that has every number from lo up to lo + n, and no other
full_at : (lo x n : ℕ) (xs : List ℕ) → Asc lo (x ∷ xs) → In lo (x ∷ xs) → lo ≡ x
full_at lo x n xs a (inl e) = e
full_at lo x n xs a (inr i) = absurd (let l = asc_in (suc x) lo xs a.1 i in omega (arith, a.0))

tail_in : (c x : ℕ) (xs : List ℕ) → x < c → In c (x ∷ xs) → In c xs
tail_in c x xs l (inl e) = absurd (omega arith)
tail_in c x xs l (inr i) = i

pub full : (lo n : ℕ) (xs : List ℕ) → Asc lo xs → ((c : ℕ) → lo ≤ c → c < lo + n → In c xs)
    → ((c : ℕ) → In c xs → c < lo + n) → xs ≡ up_from lo n
full lo zero [] a f b = refl
full lo zero (x ∷ xs) a f b = absurd (let l = b x (inl refl) in omega (arith, a.0))
full lo (suc n) [] a f b = absurd (f lo (le_refl lo) (omega arith))
full lo (suc n) (x ∷ xs) a f b =
    let e = full_at lo x n xs a (f lo (le_refl lo) (omega arith)) in
    ap₂ {C = List ℕ} (λ u v. u ∷ v) (sym e)
    (full (suc lo) n xs (rw e a.1) (λ c l h. tail_in c x xs (omega arith) (f c (omega arith) (omega arith)))
    (λ c i. let q = b c (inr i) in omega arith))

pub lay_ext : (k k' : ℕ → Cell) (xs ys : List ℕ) → length xs ≡ length ys
    → ((j : ℕ) → j < length xs → k (get_or xs j 0) ≡ k' (get_or ys j 0)) → lay k xs ≡ lay k' ys
lay_ext k k' [] [] e h = refl
lay_ext k k' [] (y ∷ ys) e h = absurd (omega arith)
lay_ext k k' (x ∷ xs) [] e h = absurd (omega arith)
lay_ext k k' (x ∷ xs) (y ∷ ys) e h =
    rw (h 0 (omega arith)) (ap (λ (r : List ℕ). fst (k' y) ∷ snd (k' y) ∷ r)
    (lay_ext k k' xs ys (omega arith) (λ j l. h (suc j) (omega arith))))

module _ (F : ℕ) (ws : List ℕ) (top : ℕ) (p : 0 < F) (s : Sound F ws top) where
  abbrev rs : List ℕ
  rs = reached F ws top

  abbrev ws' : List ℕ
  ws' = collected F ws top

  moved_between : (b : Cell) (c : ℕ) → Between b c → Between (map_ends (new F ws top) b) (new F ws top c)
  unfolding new_address
  moved_between (code a) c q = q
  moved_between empty c q = q
  moved_between (ends l r) c q = (omega (arith, below_mono rs l c q.0), omega (arith, below_mono rs c r q.1))

  pub reached_kept : {c : ℕ} → Reached F (at ws) c
      → Reached F (at (collected F ws top)) (new F ws top c)
  reached_kept {c} (by_register i h q) =
      by_register {c = new F ws top c} i h (rw (at_register F ws top p s i h) (moved_between (at ws i) c q))
  reached_kept {c} (by_bracket b r q) =
      by_bracket {c = new F ws top c} (new F ws top b) (reached_kept r)
      (rw (at_new F ws top p s b ((listed_iff F ws top p s b).1 r))
      (moved_between (at ws b) c q))

  -- every occupied heap cell of the result is reached
  pub all_reached : (a : ℕ) → F ≤ a → a < collected_top F ws top → Reached F (at (collected F ws top)) a
  unfolding live new_address
  all_reached a l h =
      let q : a - F < length rs = omega arith in
      let i = in_get_d rs (a - F) q in
      let e : F + (a - F) ≡ a = omega arith in
      subst (λ (x : ℕ). Reached F (at ws') x) (ap (λ (x : ℕ). F + x)
      (below_get_d F rs (a - F) (reached_asc F ws top p s) q) ∙ e)
      (reached_kept ((listed_iff F ws top p s (get_or rs (a - F) 0)).0 i))

  pub reached_again : reached F (collected F ws top) (collected_top F ws top) ≡ up_from F (live F ws top)
  reached_again =
      let s' = collected_sound F ws top p s in
      full F (live F ws top) (reached F ws' (collected_top F ws top)) (reached_asc F ws' (collected_top F ws top) p s')
      (λ c l h. (listed_iff F ws' (collected_top F ws top) p s' c).1 (all_reached c l h))
      (λ c i. reached_below F ws' (collected_top F ws top) p s' c i)

  pub live_kept : live F (collected F ws top) (collected_top F ws top) ≡ live F ws top
  unfolding live
  live_kept = ap (λ (xs : List ℕ). length xs) reached_again ∙ up_from_length F (length rs)
