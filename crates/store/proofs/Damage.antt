-- Passes that gather damage in one word and are never left: the word is zero only where nothing added to it. In order:
--   Clear, clear_more           what a pass of tests knows, and after a turn;  gathered  a turn's test
--   gathered_none               words that are OR-ed to zero are zero
--   register_keeps, heap_keeps  a cell whose test passes keeps its rule
--   free_keep, all_keep         the free cells by their words; the three passes together
-- Assumes nothing.
use mathlib.Core.Path.{◌≡◌, refl, sym, subst}
use mathlib.Core.Bool.{Bool, true, false, not}
use mathlib.Core.Logic.{◌⊎◌, inl, inr}
use mathlib.Core.List.{List, [], ◌∷◌}
use Prim.Native.Nat.{ℕ, zero, suc, ◌+◌, ◌-◌, ◌*◌, ◌≤◌, ◌<◌}
use native.Mathlib.Omega.{arith}
use native.Mathlib.Decide.{ℕ_discrete}
use lib.Bits.{bit_or, or_add_and, and_le_l, and_le_r}
use lib.ListN.{length, get_or, take, drop, length-drop}
use mir.Val.{bool_byte}
use Rattle.std.specs.List.{fold}
use Rattle.std.proofs.lemmas.List.{get_or-drop, take_all}
use Rattle.words.specs.Cell.{first_word, second_word}
use Rattle.meaning.specs.Sound.{capacity, IsBracket, IsTerm, CellRule}
use Rattle.meaning.proofs.Lists.{lt_or_ge}
use Rattle.store.specs.Passing.{Passed}

-- ---- a pass over numbers from `low` on, up to c: where nothing is gathered, P holds of each

abbrev pub Clear : (ℕ → Type 0) → ℕ → ℕ → ℕ → Type 0
Clear P low damage c = damage ≡ 0 → (x : ℕ) → low ≤ x → x < c → P x

none : {damage v : ℕ} → bit_or damage v ≡ 0 → (damage ≡ 0) × (v ≡ 0)
none {damage} {v} e =
    let sum = or_add_and damage v in
    (omega (arith, sum, and_le_r damage v), omega (arith, sum, and_le_l damage v))

module _ (P : ℕ → Type 0) (low : ℕ) where
  -- a turn: v, which is zero only where P holds of c, is gathered too
  pub clear_more : {damage c v : ℕ} → Clear P low damage c → (v ≡ 0 → P c) → Clear P low (bit_or damage v) (c + 1)
  clear_more {damage} {c} {v} h p e x l k = go (ℕ_discrete x c)
    where
      go : Dec (x ≡ c) → P x
      go (yes q) = subst P (sym q) (p (none e).1)
      go (no n) = h (none e).0 x l (omega arith)

-- what Q says of a test's answer t, where the turn adds nothing
passed : (t : Bool) → bool_byte (not t) ≡ 0 → t ≡ true
passed true e = refl
passed false e = absurd (omega arith)

pub gathered : (Q : Bool → Type 0) {t : Bool} → Q t → bool_byte (not t) ≡ 0 → Q true
gathered Q {t} q z = subst Q (passed t z) q

-- ---- words that are OR-ed to zero are zero

gathered_from : (a : ℕ) (ws : List ℕ) → fold bit_or a ws ≡ 0
    → (a ≡ 0) × ((i : ℕ) → i < length ws → get_or ws i 0 ≡ 0)
gathered_from a [] e = (e, λ i h. absurd (omega arith))
gathered_from a (w ∷ ws) e = go (gathered_from (bit_or a w) ws e)
  where
    go : (bit_or a w ≡ 0) × ((i : ℕ) → i < length ws → get_or ws i 0 ≡ 0)
        → (a ≡ 0) × ((i : ℕ) → i < length (w ∷ ws) → get_or (w ∷ ws) i 0 ≡ 0)
    go r = ((none r.0).0, at)
      where
        at : (i : ℕ) → i < length (w ∷ ws) → get_or (w ∷ ws) i 0 ≡ 0
        at zero h = (none r.0).1
        at (suc i) h = r.1 i (omega arith)

-- the words from n on, as a slice of them reads
pub gathered_none : (n : ℕ) (ws : List ℕ) → fold bit_or 0 (take (length ws - n) (drop n ws)) ≡ 0
    → (i : ℕ) → n ≤ i → i < length ws → get_or ws i 0 ≡ 0
gathered_none n ws e i l h =
    let m : length (drop n ws) ≤ length ws - n = omega (arith, length-drop n ws) in
    let z = (gathered_from 0 (drop n ws) (rw (take_all (length ws - n) (drop n ws) m) at e)).1 (i - n)
    (omega (arith, length-drop n ws)) in
    let k : n + (i - n) ≡ i = omega arith in
    rw (get_or-drop n ws (i - n) 0, k) at z

-- ---- one cell, by its test

module _ (F : ℕ) (ws : List ℕ) (top : ℕ) where
  pub register_keeps : (c : ℕ) → F ≤ top → c < F → IsBracket F top (first_word ws c) (second_word ws c)
      → CellRule F ws top c
  register_keeps c low l k =
      record {
        register = λ m. k;
        occupied = λ m. absurd (omega arith);
        free = λ m. absurd (omega arith);
      }

  pub heap_keeps : (c : ℕ) → F ≤ c → c < top → IsTerm F c (first_word ws c) (second_word ws c) → CellRule F ws top c
  heap_keeps c l m k =
      record {
        register = λ h. absurd (omega arith);
        occupied = λ h n. k;
        free = λ h. absurd (omega arith);
      }

  -- ---- all cells: the free ones by their words, and the passes one after the other

  pub free_keep : F ≤ top → ((x : ℕ) → 2 * top ≤ x → x < length ws → get_or ws x 0 ≡ 0)
      → (c : ℕ) → top ≤ c → c < capacity ws → CellRule F ws top c
  free_keep l h c m k =
      record {
        register = λ n. absurd (omega arith);
        occupied = λ n g. absurd (omega arith);
        free = λ n. (h (2 * c) (omega arith) (omega arith), h (2 * c + 1) (omega arith) (omega arith));
      }

  pub all_keep : {r s t : Bool} → r ≡ true → s ≡ true → Passed F ws top 0 F r → Passed F ws top F top s
      → Passed F ws top top (capacity ws) t → Passed F ws top 0 (capacity ws) t
  all_keep e f h k n g c l m = go (lt_or_ge c F) (lt_or_ge c top)
    where
      go : (c < F) ⊎ (F ≤ c) → (c < top) ⊎ (top ≤ c) → CellRule F ws top c
      go (inl x) y = h e c l x
      go (inr x) (inl y) = k f c x y
      go (inr x) (inr y) = n g c y m
