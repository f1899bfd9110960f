-- Demand 2, collecting.
-- Assumes nothing.
use mathlib.Core.Path.{◌≡◌}
use mathlib.Core.List.{List, [], ◌∷◌}
use Prim.Native.Nat.{ℕ, zero, suc, ◌+◌, ◌-◌, ◌≤◌, ◌<◌}
use native.Mathlib.Nat.{not-suc-le-zero}
use native.Mathlib.Omega.{arith}
use lib.ListN.{length, get_or}
use Rattle.meaning.specs.Sound.{Cell, ends, at, Sound}
use Rattle.meaning.specs.Reach.{Reached, reached, live}
use Rattle.meaning.specs.Collected.{below, new_address, new}
use Rattle.meaning.proofs.Lists.{In, Asc, asc_in, in_get_d, place, below_get_d, below_le}
use Rattle.meaning.proofs.meaning.Terms.{Along}
use Rattle.meaning.proofs.sound.Cells.{free_rule}
use Rattle.meaning.proofs.reach.Reaching.{listed_iff, reached_asc}
use Rattle.meaning.proofs.collected.Collecting.{at_register, at_new, collected_sound, length_collected, meaning_kept}
use Rattle.meaning.proofs.collected.Again.{all_reached, live_kept}
use Rattle.meaning.proofs.collected.Whole.{collected_again}
use Rattle.promises.specs.Collecting.{LiveCounts, CollectingKeeps}
use Rattle.meaning.proofs.twins.Pairs.{new_low, new_high, new_rises, along_register, along_heap}

asc_rising : (lo : ℕ) (xs : List ℕ) → Asc lo xs → (j k : ℕ) → j < k → k < length xs → get_or xs j 0 < get_or xs k 0
asc_rising lo [] a j k l h = absurd (not-suc-le-zero h)
asc_rising lo (x ∷ xs) a j zero l h = absurd (not-suc-le-zero l)
asc_rising lo (x ∷ xs) a zero (suc k) l h = asc_in (suc x) (get_or xs k 0) xs a.1 (in_get_d xs k (omega arith))
asc_rising lo (x ∷ xs) a (suc j) (suc k) l h = asc_rising (suc x) xs a.1 j k (omega arith) (omega arith)

pub live_counts : LiveCounts
unfolding live
live_counts F p ws top s =
    let rs = reached F ws top in
    let asc = reached_asc F ws top p s in
    record {
      each = λ c r. let q = place F c rs asc ((listed_iff F ws top p s c).1 r) in (below c rs, q.0, q.1);
      only = λ k h. (listed_iff F ws top p s (get_or rs k 0)).0 (in_get_d rs k h);
      rising = asc_rising F rs asc;
    }

-- the cell c of a run
run_moved : (P : ℕ → Type 0) (f : ℕ → ℕ) (b : Cell) (l r c : ℕ) → Along P f b → b ≡ ends l r → l ≤ c → c ≤ r
    → f c ≡ f l + (c - l)
run_moved P f b l r c a e h g =
    let q : Along P f (ends l r) = rw e at a in
    let z : l + (c - l) ≡ c = omega arith in
    rw z at (q (c - l) (omega arith)).1

module _ (F : ℕ) (p : 0 < F) (ws : List ℕ) (top : ℕ) (s : Sound F ws top) where
  abbrev P : ℕ → Type 0
  P c = In c (reached F ws top)

  listed : {c : ℕ} → Reached F (at ws) c → P c
  listed {c} r = (listed_iff F ws top p s c).1 r

  packed : (y : ℕ) → F ≤ y → y < F + live F ws top
      → (c : ℕ) × Reached F (at ws) c × (new F ws top c ≡ y)
  unfolding live new_address
  packed y l h =
      let rs = reached F ws top in
      let j : y - F < length rs = omega arith in (
        get_or rs (y - F) 0,
        (listed_iff F ws top p s (get_or rs (y - F) 0)).0 (in_get_d rs (y - F) j),
        omega
            (arith, below_get_d F rs (y - F) (reached_asc F ws top p s) j),
      )

  not_up : (c : ℕ) → P c → new F ws top c ≤ c
  unfolding new_address
  not_up c i = let a = reached_asc F ws top p s in below_le F c (reached F ws top) a (asc_in F c (reached F ws top) a i)

pub collecting_keeps : CollectingKeeps
collecting_keeps F p ws top s =
    let at-end = collected_sound F ws top p s in
    record {
      low = λ c r. let i = listed F p ws top s r in
          (new_low F ws top p s c, new_high F ws top p s c i, not_up F p ws top s c i);
      packed = packed F p ws top s;
      order = λ c x r q l. new_rises F ws top p s c x (listed F p ws top s r) l;
      registers = at_register F ws top p s;
      cells = λ c r. at_new F ws top p s c (listed F p ws top s r);
      register_run =
          λ i l r c h. run_moved (P F p ws top s) (new F ws top) (at ws i) l r c (along_register F ws top p s i h);
      cell_run = λ b l r c q. run_moved (P F p ws top s) (new F ws top) (at ws b) l r c
          (along_heap F ws top p s b (listed F p ws top s q));
      rest = λ c l h. free_rule at-end c l (rw (length_collected F ws top p s) h);
      all = all_reached F ws top p s;
      expressions = meaning_kept F ws top p s;
      sound = at-end;
      len = length_collected F ws top p s;
      many = live_kept F ws top p s;
      again = collected_again F ws top p s;
    }
