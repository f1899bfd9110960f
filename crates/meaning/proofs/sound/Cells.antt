-- What soundness says of a store's cells, apart from words; and back to words. In order:
--   limit_fits, limit_within    an address fits 28 bits;  a store has no more cells than a text may have terms
--   code_range, range_code      what a code may be;  zero_no_code  0 is none;  code_fits  one fits 28 bits
--   BracketIn, TermIn           a bracket, or any term, whose ends lie from F on and below a limit
--   SoundCells                  what the cells of a sound store are
--   term_of_bracket             such a bracket is such a term
--   read                        two words as a cell
--   read_ends, read_words       a bracket's words, and any cell's, are read as that cell
--   is_bracket, is_term         the words of such a cell keep the rule
--   Words                       two words that are those of the cell that they are read as
--   bracket_words, term_words   words that keep the rule are
--   words_of_cells              what holds of both words of each cell holds of each word
--   register_rule, heap_rule    a sound store's cells keep their rules;  free_rule  the free ones too
--   free_words                  each word from `top` on is zero
--   good                        a sound store's cells are `SoundCells`
-- Assumes nothing.
use mathlib.Core.Path.{◌≡◌, refl, sym, subst}
use mathlib.Core.Logic.{◌⊎◌, inl, inr}
use mathlib.Core.Bool.{Bool, true, false}
use mathlib.Core.List.{List}
use Prim.Native.Nat.{ℕ, zero, suc, ◌+◌, ◌*◌, ◌/◌, ◌≤◌, ◌<◌}
use native.Mathlib.Nat.{not-suc-le-zero, add-sub_cancel_left}
use native.Mathlib.Omega.{arith}
use lib.Dec.{ltb}
use lib.ListN.{length, get_or}
use borrow.Author.Tests.{ltb-true, ltb-false, le-ltb}
use Rattle.words.specs.Cell.{first_word, second_word}
use Rattle.meaning.specs.Limits.{code_test, limit, terms_limit}
use Rattle.meaning.specs.Sound.{IsCode, Cell, code, empty, ends, fst, snd, bracket_of, cell_of, at, IsBracket}
use Rattle.meaning.specs.Sound.{is_empty, is_full, IsTerm, is_symbol, is_bracket, capacity, Sound}
use Rattle.meaning.proofs.Counting.{within, yes_within}

-- All that the code needs to know of the limit: an address fits the 28 bits of a right end.
pub limit_fits : limit ≤ 268435456
unfolding limit
limit_fits = omega arith

-- and all that proofs about texts do: no store has room for a text that has too many terms
pub limit_within : limit ≤ terms_limit
unfolding limit terms_limit
limit_within = omega arith

-- All that proofs know of codes: their range. No other proof looks into `code_test`.
pub code_range : (a : ℕ) → IsCode a → (1 ≤ a) × (a ≤ 268435455)
unfolding code_test
code_range a h = within 1 268435455 a h

pub range_code : (a : ℕ) → 1 ≤ a → a ≤ 268435455 → IsCode a
unfolding code_test
range_code a h l = yes_within 1 268435455 a h l

pub zero_no_code : code_test 0 ≡ false
unfolding code_test
zero_no_code = refl

-- a code fits the 28 bits in which it sits for a while
pub code_fits : (a : ℕ) → IsCode a → a < 268435456
code_fits a h = omega (arith, (code_range a h).1)

abbrev pub BracketIn : ℕ → ℕ → Cell → Type 0
BracketIn F lim (code a) = ⊥
BracketIn F lim empty = Unit {0}
BracketIn F lim (ends l r) = (F ≤ l) × (l ≤ r) × (r < lim)

abbrev pub TermIn : ℕ → ℕ → Cell → Type 0
TermIn F lim (code a) = IsCode a
TermIn F lim empty = Unit {0}
TermIn F lim (ends l r) = (F ≤ l) × (l ≤ r) × (r < lim)

pub record SoundCells (F : ℕ) (k : ℕ → Cell) (top : ℕ) : Type 0 where
  pub regs : (i : ℕ) → i < F → BracketIn F top (k i)
  pub heap : (c : ℕ) → F ≤ c → c < top → TermIn F c (k c)

pub term_of_bracket : (F lim : ℕ) (k : Cell) → BracketIn F lim k → TermIn F lim k
term_of_bracket F lim (code a) h = absurd h
term_of_bracket F lim empty h = h
term_of_bracket F lim (ends l r) h = h

-- two words as a cell

unfoldable pub read : ℕ → ℕ → Cell
read a b = cell_of (ltb b 2147483648) a b

bracket_of_pos : (l r : ℕ) → 0 < r → bracket_of l r ≡ ends l r
bracket_of_pos l zero h = absurd (not-suc-le-zero h)
bracket_of_pos l (suc r) h = refl

pub read_ends : (l r : ℕ) → 0 < r → read l (2147483648 + r) ≡ ends l r
unfolding read
read_ends l r h =
    rw (le-ltb (2147483648 + r) 2147483648 (omega arith), add-sub_cancel_left 2147483648 r) (bracket_of_pos l r h)

-- a cell's words are read as that cell
pub read_words : (F lim : ℕ) (k : Cell) → 0 < F → TermIn F lim k → read (fst k) (snd k) ≡ k
unfolding read
read_words F lim (code a) p h = refl
read_words F lim empty p h = refl
read_words F lim (ends l r) p h = read_ends l r (omega (arith, h.0, h.1))

pub is_bracket_lem : (F lim : ℕ) (k : Cell) → BracketIn F lim k → IsBracket F lim (fst k) (snd k)
is_bracket_lem F lim (code a) h = absurd h
is_bracket_lem F lim empty h = is_empty
is_bracket_lem F lim (ends l r) h = is_full h.0 h.1 h.2

pub is_term : (F lim : ℕ) (k : Cell) → TermIn F lim k → IsTerm F lim (fst k) (snd k)
is_term F lim (code a) h = is_symbol h
is_term F lim empty h = is_bracket is_empty
is_term F lim (ends l r) h = is_bracket (is_full h.0 h.1 h.2)

-- a cell with its two words
pub record Words (P : Cell → Type 0) (a b : ℕ) : Type 0 where
  pub good : P (read a b)
  pub one : fst (read a b) ≡ a
  pub two : snd (read a b) ≡ b

words_of_lem : (P : Cell → Type 0) (a b : ℕ) (k : Cell) → read a b ≡ k → P k → fst k ≡ a → snd k ≡ b → Words P a b
words_of_lem P a b k e h p q = record { good = rw e h; one = rw e p; two = rw e q }

pub bracket_words : (F lim a b : ℕ) → 0 < F → IsBracket F lim a b → Words (BracketIn F lim) a b
unfolding read
bracket_words F lim a b p is_empty = words_of_lem (BracketIn F lim) 0 2147483648 empty refl tt refl refl
bracket_words F lim a b p (is_full {l} {r} x y z) =
    words_of_lem (BracketIn F lim) l (2147483648 + r) (ends l r) (read_ends l r (omega arith)) (x, y, z) refl refl

pub term_words : (F lim a b : ℕ) → 0 < F → IsTerm F lim a b → Words (TermIn F lim) a b
unfolding read
term_words F lim a b p (is_symbol {a = s} h) = words_of_lem (TermIn F lim) s 0 (code s) refl h refl refl
term_words F lim a b p (is_bracket {a = a'} {b = b'} h) =
    let w = bracket_words F lim a' b' p h in
    record { good = term_of_bracket F lim (read a' b') w.good; one = w.one; two = w.two }

-- ---- cells and words from `top` on

even_or_odd : (i : ℕ) → (i ≡ 2 * (i / 2)) ⊎ (i ≡ 2 * (i / 2) + 1)
even_or_odd i = go (ltb (2 * (i / 2)) i) refl
  where
    go : (t : Bool) → ltb (2 * (i / 2)) i ≡ t → (i ≡ 2 * (i / 2)) ⊎ (i ≡ 2 * (i / 2) + 1)
    go true e = inr (omega (arith, ltb-true (2 * (i / 2)) i e))
    go false e = inl (omega (arith, ltb-false (2 * (i / 2)) i e))

-- what holds of both words of each cell from m on up to n holds of each word
pub words_of_cells : (P : ℕ → Type 0) (m n : ℕ) → ((c : ℕ) → m ≤ c → c < n → P (2 * c) × P (2 * c + 1)) → (i : ℕ)
    → 2 * m ≤ i → i < 2 * n → P i
words_of_cells P m n h i l u = go (even_or_odd i)
  where
    go : (i ≡ 2 * (i / 2)) ⊎ (i ≡ 2 * (i / 2) + 1) → P i
    go (inl q) = subst P (sym q) (h (i / 2) (omega arith) (omega arith)).0
    go (inr q) = subst P (sym q) (h (i / 2) (omega arith) (omega arith)).1

-- ---- a sound store's cells keep their rules

module _ {F : ℕ} {ws : List ℕ} {top : ℕ} (s : Sound F ws top) where
  pub register_rule : (i : ℕ) → i < F → IsBracket F top (first_word ws i) (second_word ws i)
  register_rule i h = (s.cells i (omega (arith, s.low, s.high))).register h

  pub heap_rule : (c : ℕ) → F ≤ c → c < top → IsTerm F c (first_word ws c) (second_word ws c)
  heap_rule c l h = (s.cells c (omega (arith, s.high))).occupied l h

  pub free_rule : (c : ℕ) → top ≤ c → c < capacity ws → (first_word ws c ≡ 0) × (second_word ws c ≡ 0)
  free_rule c l h = (s.cells c h).free l

-- each word from `top` on is zero
pub free_words : (F : ℕ) (ws : List ℕ) (top : ℕ) → Sound F ws top → (i : ℕ) → 2 * top ≤ i → i < length ws
    → get_or ws i 0 ≡ 0
free_words F ws top s i l h =
    words_of_cells (λ j. get_or ws j 0 ≡ 0) top (length ws / 2) (free_rule s) i l (omega (arith, s.allowed.even))

module _ (F : ℕ) (ws : List ℕ) (top : ℕ) (p : 0 < F) (s : Sound F ws top) where
  pub good : SoundCells F (at ws) top
  unfolding at read
  good = record {
    regs = λ i h. (bracket_words F top (get_or ws (2 * i) 0) (get_or ws (2 * i + 1) 0) p (register_rule s i h)).good;
    heap = λ c l h. (term_words F c (get_or ws (2 * c) 0) (get_or ws (2 * c + 1) 0) p (heap_rule s c l h)).good;
  }
