-- The check answers 0 exactly for a sound store, and 3 with the first damaged cell. In order:
--   length_yes, yes_length       the test and the rule of the length, each from the other;  top_yes, yes_top  of `top`
--   damaged_low                  the first damaged cell is none before the first that is tested
--   damaged_before, damaged_at   the cells before it are in order, and it is not;  damaged_none  where all are, none is
--   cell_yes, yes_cell           a cell's test and its rule, each from the other
--   tests_sound, sound_test      the tests, all passed, are soundness, and back
--   sound_check                  a sound store is answered 0
--   CheckCases, check_cases               the four answers, and that the check's is one of them
--   check_sound                  0 is the answer for a sound store only
--   on_zero_no                    what depends on a status that is not 0
-- Assumes nothing.
use mathlib.Core.Path.{◌≡◌, refl}
use mathlib.Core.Logic.{◌⊎◌, inl, inr, ◌≢◌}
use mathlib.Core.Bool.{Bool, true, false, cond, false≢true}
use mathlib.Core.List.{List}
use Prim.Native.Nat.{ℕ, zero, suc, ◌+◌, ◌*◌, ◌%◌, ◌≤◌, ◌<◌}
use native.Mathlib.Nat.{le_refl, eq-or-lt_of_le}
use native.Mathlib.Omega.{arith}
use lib.Dec.{ltb, leb, eqb}
use lib.ListN.{length}
use borrow.Author.Tests.{leb-true, le-leb, ltb-true, ltb-false, le-ltb, eqb-true, eq-eqb}
use Rattle.words.specs.Cell.{first_word, second_word}
use Rattle.meaning.specs.Limits.{limit}
use Rattle.meaning.specs.Sound.{capacity, Allowed, CellRule, Sound}
use Rattle.meaning.specs.Verdicts.{Verdict, only, damaged_at, on_zero}
use Rattle.meaning.specs.Check.{top_test, broken_rule, cell_test, damaged, length_test, verdict_at, check}
use Rattle.meaning.proofs.sound.Cells.{limit_fits}
use Rattle.meaning.proofs.check.Rules.{none_kept, kept_rule, cell_kept, kept_cell}

-- ---- the length and `top`

pub length_yes : (F n : ℕ) → length_test F n ≡ true → Allowed F n
unfolding length_test
length_yes F n q = go (eqb (n % 2) 0) (ltb n (2 * F)) refl refl q
  where
    go : (t u : Bool) → eqb (n % 2) 0 ≡ t → ltb n (2 * F) ≡ u
        → cond t (cond u false (leb n (2 * limit))) false ≡ true → Allowed F n
    go true true e f r = absurd (false≢true r)
    go true false e f r = record { even = eqb-true _ _ e; large = ltb-false _ _ f; small = leb-true _ _ r }
    go false u e f r = absurd (false≢true r)

pub yes_length : (F n : ℕ) → Allowed F n → length_test F n ≡ true
unfolding length_test
yes_length F n a = rw (a.even, le-ltb n (2 * F) a.large, le-leb n (2 * limit) a.small) refl

pub top_yes : (F cells top : ℕ) → top_test F cells top ≡ true → (F ≤ top) × (top ≤ cells)
unfolding top_test
top_yes F cells top q = go (ltb top F) refl q
  where
    go : (t : Bool) → ltb top F ≡ t → cond t false (leb top cells) ≡ true → (F ≤ top) × (top ≤ cells)
    go true e r = absurd (false≢true r)
    go false e r = (ltb-false top F e, leb-true top cells r)

pub yes_top : (F cells top : ℕ) → F ≤ top → top ≤ cells → top_test F cells top ≡ true
unfolding top_test
yes_top F cells top l m = rw (le-ltb top F l, le-leb top cells m) refl

-- ---- all cells

module _ (F : ℕ) (ws : List ℕ) (top : ℕ) where
  abbrev test : ℕ → Bool
  test c = cell_test F top c (first_word ws c) (second_word ws c)

  pub damaged_low : (c n : ℕ) → c ≤ damaged F ws top c n
  damaged_low c zero = le_refl c
  damaged_low c (suc n) = go (test c) (damaged_low (suc c) n)
    where
      go : (t : Bool) → suc c ≤ damaged F ws top (suc c) n
          → c ≤ elim t [ true ↦ damaged F ws top (suc c) n | false ↦ c ]
      go true h = omega arith
      go false h = le_refl c

  -- every cell before the damaged one is in order
  pub damaged_before : (c n x : ℕ) → c ≤ x → x < damaged F ws top c n → test x ≡ true
  damaged_before c zero x h l = absurd (omega arith)
  damaged_before c (suc n) x h l = go (test c) refl (damaged_before (suc c) n x) l
    where
      go : (t : Bool) → test c ≡ t → (suc c ≤ x → x < damaged F ws top (suc c) n → test x ≡ true)
          → x < elim t [ true ↦ damaged F ws top (suc c) n | false ↦ c ] → test x ≡ true
      go true q r m = pick (eq-or-lt_of_le h)
        where
          pick : (c ≡ x) ⊎ (c < x) → test x ≡ true
          pick (inl e) = rw e at q
          pick (inr g) = r g m
      go false q r m = absurd (omega arith)

  -- the damaged one, if there is one, is not
  pub damaged_at_lem : (c n : ℕ) → damaged F ws top c n < c + n → test (damaged F ws top c n) ≡ false
  damaged_at_lem c zero l = absurd (omega arith)
  damaged_at_lem c (suc n) l = go (test c) refl (damaged_at_lem (suc c) n) l
    where
      go : (t : Bool) → test c ≡ t
          → (damaged F ws top (suc c) n < suc c + n → test (damaged F ws top (suc c) n) ≡ false)
          → (elim t [ true ↦ damaged F ws top (suc c) n | false ↦ c ]) < c + suc n
          → test (elim t [ true ↦ damaged F ws top (suc c) n | false ↦ c ]) ≡ false
      go true q r m = r (omega arith)
      go false q r m = q

  -- where all are in order, none is damaged
  pub damaged_none : (c n : ℕ) → ((x : ℕ) → c ≤ x → x < c + n → test x ≡ true) → damaged F ws top c n ≡ c + n
  damaged_none c zero h = omega arith
  damaged_none c (suc n) h =
      let r = damaged_none (suc c) n (λ x l m. h x (omega arith) (omega arith)) in
      rw (h c (le_refl c) (omega arith), damaged) (omega (arith, r))

  -- a cell's test and its rule
  pub cell_yes : F ≤ top → (c : ℕ) → test c ≡ true → CellRule F ws top c
  unfolding cell_test
  cell_yes low c q = kept_cell F ws top c low (none_kept F top c (first_word ws c) (second_word ws c) (eqb-true _ 0 q))

  pub yes_cell : top ≤ 268435456 → (c : ℕ) → CellRule F ws top c → test c ≡ true
  unfolding cell_test
  yes_cell m c r =
      eq-eqb (broken_rule F top c (first_word ws c) (second_word ws c)) 0 (kept_rule F top c m (cell_kept F ws top c r))

  -- the tests, all passed, are soundness
  pub tests_sound : length_test F (length ws) ≡ true → top_test F (capacity ws) top ≡ true
      → ((c : ℕ) → c < capacity ws → test c ≡ true) → Sound F ws top
  tests_sound q r h =
      let t = top_yes F (capacity ws) top r in
      record {
        allowed = length_yes F (length ws) q;
        low = t.0;
        high = t.1;
        cells = λ c l. cell_yes t.0 c (h c l);
      }

  -- and back
  pub sound_test : Sound F ws top → (c : ℕ) → c < capacity ws → test c ≡ true
  sound_test s c h = yes_cell (omega (arith, s.high, s.allowed.small, limit_fits)) c (s.cells c h)

  -- a sound store passes
  pub sound_check : Sound F ws top → check F ws top ≡ only 0
  unfolding check verdict_at
  sound_check s =
      let d = damaged_none 0 (capacity ws) (λ x l m. sound_test s x (omega arith)) in
      rw (
        yes_length F (length ws) s.allowed,
        yes_top F (capacity ws) top s.low s.high,
        d,
        le-ltb
            (0 + capacity ws) (capacity ws) (omega arith),
      ) refl

  -- the three answers of a store that is not sound, and the one of a sound store
  pub data CheckCases : Verdict → Type 0 where
    length_bad : length_test F (length ws) ≡ false → CheckCases (only 1)
    top_bad : length_test F (length ws) ≡ true → top_test F (capacity ws) top ≡ false → CheckCases (only 2)
    cell_bad : (c : ℕ) → length_test F (length ws) ≡ true → top_test F (capacity ws) top ≡ true → c < capacity ws
        → test c ≡ false
        → ((x : ℕ) → x < c → test x ≡ true)
        → CheckCases (damaged_at c (broken_rule F top c (first_word ws c) (second_word ws c)))
    sound : Sound F ws top → CheckCases (only 0)

  pub check_cases : CheckCases (check F ws top)
  unfolding check verdict_at
  check_cases = go (length_test F (length ws)) (top_test F (capacity ws) top)
      (ltb (damaged F ws top 0 (capacity ws)) (capacity ws)) refl refl refl
    where
      go : (t u v : Bool) → length_test F (length ws) ≡ t → top_test F (capacity ws) top ≡ u
          → ltb (damaged F ws top 0 (capacity ws)) (capacity ws) ≡ v
          → let d = damaged F ws top 0 (capacity ws) in CheckCases (cond t (cond u (cond {A = Verdict} v
          (damaged_at d (broken_rule F top d (first_word ws d) (second_word ws d))) (only 0)) (only 2)) (only 1))
      go false u v a b c = length_bad a
      go true false v a b c = top_bad a b
      go true true true a b c =
          let l = ltb-true (damaged F ws top 0 (capacity ws)) (capacity ws) c in
          cell_bad (damaged F ws top 0 (capacity ws)) a b l (damaged_at_lem 0 (capacity ws) (omega arith))
          (λ x h. damaged_before 0 (capacity ws) x (omega arith) h)
      go true true false a b c =
          sound (tests_sound a b (λ x l. damaged_before 0 (capacity ws) x (omega arith)
          (omega (arith, ltb-false (damaged F ws top 0 (capacity ws)) (capacity ws) c))))

  -- 0 is the answer for a sound store only
  pub check_sound : (check F ws top).status ≡ 0 → Sound F ws top
  check_sound q = go (check F ws top) refl check_cases q
    where
      go : (v : Verdict) → check F ws top ≡ v → CheckCases v → v.status ≡ 0 → Sound F ws top
      go v e (length_bad a) r = absurd (omega arith)
      go v e (top_bad a b) r = absurd (omega arith)
      go v e (cell_bad c a b l x y) r = absurd (omega arith)
      go v e (sound s) r = s

-- ---- what depends on the check's status

pub on_zero_no : {A : Type 0} (s : ℕ) (x y : A) → s ≢ 0 → on_zero s x y ≡ y
on_zero_no zero x y n = absurd (n refl)
on_zero_no (suc s) x y n = refl
