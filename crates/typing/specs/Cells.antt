-- Cells by their two words: what is kept, what lies where, and a run turned round. Assumes nothing.
use Rattle.std.specs.Prelude.{◌≡◌, ◌≢◌, List, [], ◌∷◌, ℕ, suc, ◌+◌, ◌-◌, ◌≤◌, ◌<◌, length}
use Rattle.words.specs.Cell.{first_word, second_word}
use Rattle.meaning.specs.Sound.{Cell, fst, snd}

-- the two words of a cell of a store, and of a cell by what it is
pub record Two : Type 0 where
  pub first : ℕ
  pub second : ℕ

unfoldable pub two : List ℕ → ℕ → Two
two ws c = record { first = first_word ws c; second = second_word ws c }

unfoldable pub two_of : Cell → Two
two_of x = record { first = fst x; second = snd x }

-- cells lie in a store: from c upward; from below c downward
abbrev pub LieFrom : List ℕ → ℕ → List Cell → Type 0
LieFrom ws c [] = Unit {0}
LieFrom ws c (x ∷ xs) = (two ws c ≡ two_of x) × LieFrom ws (suc c) xs

abbrev pub LieBelow : List ℕ → ℕ → List Cell → Type 0
LieBelow ws c [] = Unit {0}
LieBelow ws c (x ∷ xs) = (two ws (c - 1) ≡ two_of x) × LieBelow ws (c - 1) xs

-- outside the cells from `low` up to but not including `high` nothing changes
pub record Kept (ws : List ℕ) (low high : ℕ) (ws' : List ℕ) : Type 0 where
  pub below : (c : ℕ) → c < low → two ws' c ≡ two ws c
  pub above : (c : ℕ) → high ≤ c → two ws' c ≡ two ws c
  pub long : length ws' ≡ length ws

-- cells i and j change places
pub record Swapped (ws : List ℕ) (i j : ℕ) (ws' : List ℕ) : Type 0 where
  pub first : two ws' i ≡ two ws j
  pub second : two ws' j ≡ two ws i
  pub other : (c : ℕ) → c ≢ i → c ≢ j → two ws' c ≡ two ws c
  pub long : length ws' ≡ length ws

-- the n cells from `low` on are those that were below `high`, the highest first
pub record Turned (ws : List ℕ) (low high n : ℕ) (ws' : List ℕ) : Type 0 where
  pub cells : (i : ℕ) → i < n → two ws' (low + i) ≡ two ws (high - 1 - i)
  pub kept : Kept ws low high ws'
