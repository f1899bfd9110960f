-- A store's cells, and what makes a store sound (SCOPE 1.1 to 1.4).
-- `top` is the first cell that is not occupied, F the first heap cell: the registers are cells 0 to F - 1.
-- Assumes nothing.
use Rattle.std.specs.Prelude.{◌≡◌, Bool, true, false, List, ℕ, zero, suc, ◌-◌, ◌*◌, ◌/◌, ◌%◌, ◌≤◌, ◌<◌, ltb, length}
use Rattle.words.specs.Cell.{first_word, second_word}
use Rattle.words.specs.Second.{bracket_to}
use Rattle.meaning.specs.Limits.{limit, code_test}

-- a cell: a symbol with its code, an empty bracket, or a bracket with its two ends, both inclusive
pub data Cell : Type 0 where
  code : ℕ → Cell
  empty : Cell
  ends : ℕ → ℕ → Cell

-- its two words
abbrev pub fst : Cell → ℕ
fst (code a) = a
fst empty = 0
fst (ends l r) = l

abbrev pub snd : Cell → ℕ
snd (code a) = 0
snd empty = bracket_to 0
snd (ends l r) = bracket_to r

-- the cell that two words are: in a sound store their own, since a right end of 0 means empty
abbrev pub bracket_of : ℕ → ℕ → Cell
bracket_of l zero = empty
bracket_of l (suc r) = ends l (suc r)

abbrev pub cell_of : Bool → ℕ → ℕ → Cell
cell_of true a b = code a
cell_of false a b = bracket_of a (b - bracket_to 0)

unfoldable pub at : List ℕ → ℕ → Cell
at ws c = cell_of (ltb (second_word ws c) (bracket_to 0)) (first_word ws c) (second_word ws c)

-- the number of terms in a bracket, and its first cell
abbrev pub size : Cell → ℕ
size (code a) = 0
size empty = 0
size (ends l r) = suc r - l

abbrev pub start : Cell → ℕ
start (code a) = 0
start empty = 0
start (ends l r) = l

-- the two words of a bracket: empty, or with ends from F on and below `lim`
pub data IsBracket (F lim : ℕ) : ℕ → ℕ → Type 0 where
  is_empty : IsBracket F lim 0 (bracket_to 0)
  is_full : {l r : ℕ} → F ≤ l → l ≤ r → r < lim → IsBracket F lim l (bracket_to r)

abbrev pub IsCode : ℕ → Type 0
IsCode a = code_test a ≡ true

-- the two words of the occupied heap cell c: a symbol, or a bracket whose ends lie below c
pub data IsTerm (F c : ℕ) : ℕ → ℕ → Type 0 where
  is_symbol : {a : ℕ} → IsCode a → IsTerm F c a 0
  is_bracket : {a b : ℕ} → IsBracket F c a b → IsTerm F c a b

-- the number of cells
abbrev pub capacity : List ℕ → ℕ
capacity ws = length ws / 2

-- how many words a store may have: whole cells, no fewer than the registers and no more than the limit
pub record Allowed (F n : ℕ) : Type 0 where
  pub even : n % 2 ≡ 0
  pub large : 2 * F ≤ n
  pub small : n ≤ 2 * limit

-- the rule of cell c: a register is a bracket, an occupied heap cell a term, and a cell from `top` on two zero words
pub record CellRule (F : ℕ) (ws : List ℕ) (top c : ℕ) : Type 0 where
  pub register : c < F → IsBracket F top (first_word ws c) (second_word ws c)
  pub occupied : F ≤ c → c < top → IsTerm F c (first_word ws c) (second_word ws c)
  pub free : top ≤ c → (first_word ws c ≡ 0) × (second_word ws c ≡ 0)

pub record Sound (F : ℕ) (ws : List ℕ) (top : ℕ) : Type 0 where
  pub allowed : Allowed F (length ws)
  pub low : F ≤ top
  pub high : top ≤ capacity ws
  pub cells : (c : ℕ) → c < capacity ws → CellRule F ws top c
