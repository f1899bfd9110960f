-- The check by its tests, and the scan of the cells a step at a time: what the loop of `check` does. In order:
--   ruled                            the rule of a cell's words, from the rule of what was read;  unbroken, broken
--                                    and by a test whether one is broken
--   check_length, check_top          the check by its tests: 1, or 2;  check_cells  else what the scan finds
--   placed                           where the cells are, once the first two tests passed
--   check_kept                       0 where all cells keep their rules
--   turn                             one cell more;  stop  at the damaged cell;  finish  at the end
--   verdict_damaged, verdict_sound   the answer by the cell at which the scan stopped
-- Assumes nothing.
use mathlib.Core.Path.{◌≡◌, refl, sym}
use mathlib.Core.Logic.{◌≢◌, ◌↔◌}
use mathlib.Core.Bool.{Bool, true, false}
use mathlib.Core.List.{List}
use Prim.Native.Nat.{ℕ, suc, ◌+◌, ◌-◌, ◌*◌, ◌^◌, ◌≤◌, ◌<◌}
use native.Mathlib.Numerals.{add-one}
use native.Mathlib.Omega.{arith}
use lib.ListN.{length}
use borrow.Author.Tests.{lt-ltb, le-ltb, ne_eqb}
use Rattle.words.specs.Cell.{first_word, second_word}
use Rattle.meaning.specs.Sound.{capacity, CellRule}
use Rattle.meaning.specs.Verdicts.{only, damaged_at}
use Rattle.meaning.specs.Check.{broken_rule, cell_test, damaged, length_test, top_test, verdict_at, check}
use Rattle.meaning.proofs.Counting.{refuted}
use Rattle.meaning.proofs.sound.Cells.{limit_fits}
use Rattle.meaning.proofs.check.Checking.{length_yes, top_yes, sound_check}

-- the rule of a cell's words, from the rule of what was read; and a test that says yes exactly where none is broken
pub ruled : (F top c : ℕ) {x y a b q : ℕ} → x ≡ a → y ≡ b → q ≡ broken_rule F top c x y → broken_rule F top c a b ≡ q
ruled F top c e f r = rw (← e, ← f) (sym r)

pub unbroken : (F top c : ℕ) {x y a b : ℕ} {r : Bool} → x ≡ a → y ≡ b → (r ≡ true) ↔ (broken_rule F top c x y ≡ 0)
    → r ≡ true → broken_rule F top c a b ≡ 0
unbroken F top c e f q h = rw (← e, ← f) (q.0 h)

pub broken : (F top c : ℕ) {x y a b : ℕ} {r : Bool} → x ≡ a → y ≡ b → (r ≡ true) ↔ (broken_rule F top c x y ≡ 0)
    → r ≡ false → broken_rule F top c a b ≢ 0
broken F top c e f q h = refuted _ (λ z. q.1 (rw (e, f) z)) h

module _ (F : ℕ) (ws : List ℕ) (top : ℕ) where
  pub check_length : length_test F (length ws) ≡ false → check F ws top ≡ only 1
  unfolding check
  check_length e = rw (e, check)

  pub check_top : length_test F (length ws) ≡ true → top_test F (capacity ws) top ≡ false → check F ws top ≡ only 2
  unfolding check
  check_top e f = rw (e, f, check)

  pub check_cells : length_test F (length ws) ≡ true → top_test F (capacity ws) top ≡ true
      → check F ws top ≡ verdict_at F ws top (damaged F ws top 0 (capacity ws))
  unfolding check
  check_cells e f = rw (e, f, check)

  -- the first two tests passed: where the cells are
  pub placed : length_test F (length ws) ≡ true → top_test F (capacity ws) top ≡ true
      → (F ≤ top) × (2 * top ≤ length ws) × (top < 2 ^ 31)
  placed e f =
      let t = top_yes F (capacity ws) top f in
      (t.0, omega (arith, t.1), omega (arith, t.1, (length_yes F (length ws) e).small, limit_fits))

  -- all cells keep their rules
  pub check_kept : length_test F (length ws) ≡ true → top_test F (capacity ws) top ≡ true
      → ((c : ℕ) → 0 ≤ c → c < capacity ws → CellRule F ws top c) → check F ws top ≡ only 0
  check_kept e f h =
      let t = top_yes F (capacity ws) top f in
      sound_check F ws top (record {
        allowed = length_yes F (length ws) e;
        low = t.0;
        high = t.1;
        cells = λ c k. h c (omega arith) k;
      })

  module _ (cells c : ℕ) where
    -- a turn of the loop
    pub turn : c < cells → broken_rule F top c (first_word ws c) (second_word ws c) ≡ 0
        → damaged F ws top (c + 1) (cells - (c + 1)) ≡ damaged F ws top c (cells - c)
    unfolding cell_test
    turn h e =
        let k : cells - c ≡ suc (cells - suc c) = omega arith in
        rw (k, add-one c, e, damaged) refl

    -- it leaves with the damaged cell
    pub stop : c < cells → broken_rule F top c (first_word ws c) (second_word ws c) ≢ 0
        → damaged F ws top c (cells - c) ≡ c
    unfolding cell_test
    stop h n =
        let k : cells - c ≡ suc (cells - (c + 1)) = omega arith in
        rw (k, ne_eqb (broken_rule F top c (first_word ws c) (second_word ws c)) 0 n, damaged) refl

    -- it leaves at the end
    pub finish : cells ≤ c → damaged F ws top c (cells - c) ≡ c
    finish h = let k : cells - c ≡ 0 = omega arith in rw k refl

  pub verdict_damaged : (c q : ℕ) → c < capacity ws → broken_rule F top c (first_word ws c) (second_word ws c) ≡ q
      → verdict_at F ws top c ≡ damaged_at c q
  unfolding verdict_at
  verdict_damaged c q h e = rw (lt-ltb c (capacity ws) h, e, verdict_at) refl

  pub verdict_sound : (c : ℕ) → capacity ws ≤ c → verdict_at F ws top c ≡ only 0
  unfolding verdict_at
  verdict_sound c h = rw (le-ltb c (capacity ws) h, verdict_at) refl
