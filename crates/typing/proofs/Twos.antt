-- Cells by their two words. In order:
--   two_put_same, two_put_other                    a cell put, and the others
--   swapped_words                                  two cells that change places
--   kept_all, kept_then, kept_wide, kept_put       what is kept
--   lie_append, lie_kept, wait_append, wait_kept   cells that lie upward, and that wait downward
--   lie_turned                                     cells that waited, turned round
--   lie_puts                                       a store that is kept but for cells that lie in it
--   last_none, last_some                           a bracket around the last cells
-- Assumes nothing.
use mathlib.Core.Path.{◌≡◌, refl, sym, ap, ap₂, ◌∙◌}
use mathlib.Core.Logic.{◌≢◌, ◌⊎◌, inl, inr}
use mathlib.Core.List.{List, [], ◌∷◌, ◌++◌}
use Prim.Native.Nat.{ℕ, zero, suc, ◌+◌, ◌-◌, ◌*◌, ◌%◌, ◌≤◌, ◌<◌}
use native.Mathlib.Omega.{arith}
use native.Mathlib.Decide.{ℕ_discrete}
use lib.ListN.{length}
use Rattle.std.specs.List.{SwappedAt}
use Rattle.words.specs.Cell.{first_word, second_word, put_cell}
use Rattle.words.proofs.Cells.{first_word_same, second_word_same, first_word_other, second_word_other}
use Rattle.words.proofs.Cells.{words_ext}
use Rattle.meaning.specs.Sound.{Cell, empty, ends, fst, snd}
use Rattle.meaning.specs.Actions.{put}
use Rattle.meaning.specs.Lay.{puts, last_below}
use Rattle.meaning.proofs.Lists.{lt_or_ge}
use Rattle.meaning.proofs.actions.Writing.{length_put}
use Rattle.typing.specs.Cells.{Two, two, two_of, LieFrom, LieBelow, Kept, Swapped}

abbrev pair : ℕ → ℕ → Two
pair a b = record { first = a; second = b }

-- ---- a cell put

module _ (ws : List ℕ) (c a b : ℕ) where
  two_put_cell_same : 2 * c + 1 < length ws → two (put_cell ws c a b) c ≡ pair a b
  unfolding two
  two_put_cell_same h = ap₂ pair (first_word_same ws c a b h) (second_word_same ws c a b h)

  two_put_cell_other : (x : ℕ) → x ≢ c → two (put_cell ws c a b) x ≡ two ws x
  unfolding two
  two_put_cell_other x n = ap₂ pair (first_word_other ws c a b x n) (second_word_other ws c a b x n)

module _ (ws : List ℕ) (c : ℕ) (x : Cell) where
  pub two_put_same : 2 * c + 1 < length ws → two (put ws c x) c ≡ two_of x
  unfolding put two_of
  two_put_same h = two_put_cell_same ws c (fst x) (snd x) h

  pub two_put_other : (y : ℕ) → y ≢ c → two (put ws c x) y ≡ two ws y
  unfolding put
  two_put_other y n = two_put_cell_other ws c (fst x) (snd x) y n

-- ---- two cells change places, a word at a time

pub swapped_words : (ws vs us : List ℕ) (i j : ℕ) → SwappedAt ws vs (2 * i) (2 * j)
    → SwappedAt vs us (2 * i + 1) (2 * j + 1) → length vs ≡ length ws → length us ≡ length vs → Swapped ws i j us
unfolding two
swapped_words ws vs us i j h k l m = record {
  first = ap₂ pair
      (k.2 (2 * i) 0 (λ e. omega arith) (λ e. omega arith) ∙ h.0 0)
      (k.0 0 ∙ h.2 (2 * j + 1) 0 (λ e. omega arith) (λ e. omega arith));
  second = ap₂ pair
      (k.2 (2 * j) 0 (λ e. omega arith) (λ e. omega arith) ∙ h.1 0)
      (k.1 0 ∙ h.2 (2 * i + 1) 0 (λ e. omega arith) (λ e. omega arith));
  other = λ c n o. ap₂ pair
      (k.2 (2 * c) 0 (λ e. omega arith) (λ e. omega arith)
      ∙ h.2 (2 * c) 0 (λ e. n (omega arith)) (λ e. o (omega arith)))
      (k.2 (2 * c + 1) 0 (λ e. n (omega arith)) (λ e. o (omega arith))
      ∙ h.2 (2 * c + 1) 0 (λ e. omega arith) (λ e. omega arith));
  long = m ∙ l;
}

-- ---- what is kept

pub kept_all : (ws : List ℕ) (low high : ℕ) → Kept ws low high ws
kept_all ws low high = record { below = λ c h. refl; above = λ c h. refl; long = refl }

pub kept_then : {ws vs us : List ℕ} {low high l h : ℕ} → Kept ws low high vs → Kept vs l h us → low ≤ l → h ≤ high
    → Kept ws low high us
kept_then {l = l} {h = h} k m p q = record {
  below = λ c g. m.below c (omega arith) ∙ k.below c g;
  above = λ c g. m.above c (omega arith) ∙ k.above c g;
  long = m.long ∙ k.long;
}

pub kept_wide : {ws vs : List ℕ} {l h low high : ℕ} → Kept ws l h vs → low ≤ l → h ≤ high → Kept ws low high vs
kept_wide {ws} {low = low} {high = high} k p q = kept_then (kept_all ws low high) k p q

pub kept_put : (ws : List ℕ) (c : ℕ) (x : Cell) → Kept ws c (suc c) (put ws c x)
kept_put ws c x = record {
  below = λ y h. two_put_other ws c x y (λ e. omega arith);
  above = λ y h. two_put_other ws c x y (λ e. omega arith);
  long = length_put ws c x;
}

-- ---- what lies where

pub lie_append : (ws : List ℕ) (c : ℕ) (xs ys : List Cell) → LieFrom ws c xs → LieFrom ws (c + length xs) ys
    → LieFrom ws c (xs ++ ys)
lie_append ws c [] ys h k = let e : c + 0 ≡ c = omega arith in rw e at k
lie_append ws c (x ∷ xs) ys h k =
    let e : c + suc (length xs) ≡ suc c + length xs = omega arith in
    (h.0, lie_append ws (suc c) xs ys h.1 (rw e at k))

-- cells lie where they did, in a store that is the same there
pub lie_kept : (ws vs : List ℕ) (c : ℕ) (xs : List Cell)
    → ((x : ℕ) → c ≤ x → x < c + length xs → two vs x ≡ two ws x) → LieFrom ws c xs → LieFrom vs c xs
lie_kept ws vs c [] f h = tt
lie_kept ws vs c (x ∷ xs) f h = (
  f c (omega arith) (omega arith) ∙ h.0,
  lie_kept ws vs (suc c) xs (λ y p q. f y (omega arith) (omega arith)) h.1,
)

pub wait_kept : (ws vs : List ℕ) (c : ℕ) (xs : List Cell) → length xs ≤ c
    → ((x : ℕ) → c ≤ x + length xs → x < c → two vs x ≡ two ws x) → LieBelow ws c xs → LieBelow vs c xs
wait_kept ws vs c [] l f h = tt
wait_kept ws vs c (x ∷ xs) l f h = (
  f (c - 1) (omega arith) (omega arith) ∙ h.0,
  wait_kept ws vs (c - 1) xs (omega arith) (λ y p q. f y (omega arith) (omega arith)) h.1,
)

pub wait_append : (ws : List ℕ) (c : ℕ) (xs ys : List Cell) → LieBelow ws c xs → LieBelow ws (c - length xs) ys
    → LieBelow ws c (xs ++ ys)
wait_append ws c [] ys h k = let e : c - 0 ≡ c = omega arith in rw e at k
wait_append ws c (x ∷ xs) ys h k =
    let e : c - suc (length xs) ≡ c - 1 - length xs = omega arith in
    (h.0, wait_append ws (c - 1) xs ys h.1 (rw e at k))

-- cells that waited, turned round
pub lie_turned : (ws vs : List ℕ) (low high : ℕ) (xs : List Cell)
    → ((i : ℕ) → i < length xs → two vs (low + i) ≡ two ws (high - 1 - i)) → LieBelow ws high xs → LieFrom vs low xs
lie_turned ws vs low high [] f h = tt
lie_turned ws vs low high (x ∷ xs) f h =
    let e : low + 0 ≡ low = omega arith in
    let g : high - 1 - 0 ≡ high - 1 = omega arith in (
      sym (ap (two vs) e) ∙ (f 0 (omega arith) ∙ (ap (two ws) g ∙ h.0)),
      lie_turned ws vs (suc low) (high - 1) xs (λ i l. step i (f (suc i) (omega arith))) h.1,
    )
  where
    step : (i : ℕ) → two vs (low + suc i) ≡ two ws (high - 1 - suc i) → two vs (suc low + i) ≡ two ws (high - 1 - 1 - i)
    step i e =
        let p : low + suc i ≡ suc low + i = omega arith in
        let q : high - 1 - suc i ≡ high - 1 - 1 - i = omega arith in
        sym (ap (two vs) p) ∙ (e ∙ ap (two ws) q)

-- ---- the words of a store that is kept but for the cells that lie in it

first_of_lem : (ws vs : List ℕ) (c : ℕ) → two ws c ≡ two vs c → first_word ws c ≡ first_word vs c
unfolding two
first_of_lem ws vs c e = ap (λ (t : Two). t.first) e

second_of : (ws vs : List ℕ) (c : ℕ) → two ws c ≡ two vs c → second_word ws c ≡ second_word vs c
unfolding two
second_of ws vs c e = ap (λ (t : Two). t.second) e

pub lie_puts : (ws vs : List ℕ) (c : ℕ) (xs : List Cell) → length ws % 2 ≡ 0 → 2 * (c + length xs) ≤ length ws
    → LieFrom vs c xs → Kept ws c (c + length xs) vs → vs ≡ puts ws c xs
lie_puts ws vs c [] v r h k =
    words_ext vs ws k.long (rw k.long v) (λ x l. first_of_lem vs ws x (same x (lt_or_ge x c)))
    (λ x l. second_of vs ws x (same x (lt_or_ge x c)))
  where
    same : (x : ℕ) → (x < c) ⊎ (c ≤ x) → two vs x ≡ two ws x
    same x (inl l) = k.below x l
    same x (inr l) = k.above x (omega arith)
lie_puts ws vs c (x ∷ xs) v r h k =
    lie_puts (put ws c x) vs (suc c) xs (rw (length_put ws c x) v) (omega (arith, length_put ws c x)) h.1
    (record {
      below = λ y l. low y l (ℕ_discrete y c);
      above = λ y l. k.above y (omega arith) ∙ sym (two_put_other ws c x y (λ e. omega arith));
      long = k.long ∙ sym (length_put ws c x);
    })
  where
    low : (y : ℕ) → y < suc c → Dec (y ≡ c) → two vs y ≡ two (put ws c x) y
    low y l (yes e) = rw e (h.0 ∙ sym (two_put_same ws c x (omega arith)))
    low y l (no n) = k.below y (omega (arith, n)) ∙ sym (two_put_other ws c x y n)

-- ---- a bracket around the last cells

module _ (ws : List ℕ) (c e n : ℕ) where
  pub last_none : n ≡ 0 → put ws c empty ≡ put ws c (last_below e n)
  last_none h = rw h

  pub last_some : n ≢ 0 → put ws c (ends (e - n) (e - 1)) ≡ put ws c (last_below e n)
  last_some h = go n h
    where
      go : (m : ℕ) → m ≢ 0 → put ws c (ends (e - m) (e - 1)) ≡ put ws c (last_below e m)
      go zero h = absurd (h refl)
      go (suc m) h = refl
