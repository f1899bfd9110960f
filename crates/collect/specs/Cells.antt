-- A cell as the chains see it: two flags and two links, each an address or other number and its chain flag (SCOPE 3.4).
-- Assumes nothing.
use Rattle.std.specs.Prelude.{Bool, true, false, List, ℕ}
use Rattle.words.specs.Cell.{first_word, second_word}
use Rattle.words.specs.Second.{Second, decode}

-- A number with a mark that says whether it leads on along a chain: lc with li, rc with ri.
pub record Link : Type 0 where
  pub tag : Bool
  pub num : ℕ

pub record ChainCell : Type 0 where
  pub br : Bool
  pub used : Bool
  pub l : Link
  pub r : Link

abbrev pub val : ℕ → Link
val n = record { tag = false; num = n }

abbrev pub ptr : ℕ → Link
ptr n = record { tag = true; num = n }

abbrev pub mk : Bool → Bool → Link → Link → ChainCell
mk b u l r = record { br = b; used = u; l = l; r = r }

-- the cell with the first word a and the second word's fields s
abbrev pub linked : ℕ → Second → ChainCell
linked a s = mk s.br s.used (record { tag = s.lc; num = a }) (record { tag = s.rc; num = s.ri })

-- cell c of the words s
abbrev pub cell : List ℕ → ℕ → ChainCell
cell s c = linked (first_word s c) (decode (second_word s c))
