-- What the functions of the pass up, which lowers what the sweep has packed, ask for and leave, on words.
-- Assumes nothing.
use Rattle.std.specs.Prelude.{◌≡◌, true, List, ℕ, ◌+◌, ◌-◌, ◌*◌, ◌≤◌, ◌<◌, length}
use Rattle.words.specs.Cell.{first_word, second_word}
use Rattle.words.specs.Second.{decode, full_word}
use Rattle.collect.specs.Cells.{linked, cell}
use Rattle.collect.specs.Step.{Laid, lowered}
use Rattle.collect.specs.Passes.{PlainWord}

-- a cell with the words a and w can be put down at `to`, its ends d lower
pub record Layable (s : List ℕ) (to a w d : ℕ) : Type 0 where
  pub to_in : 2 * to + 1 < length s
  pub bare : PlainWord w
  pub far : full_word w ≡ true → (d ≤ a) × (d ≤ (decode w).ri)

abbrev pub Lays : List ℕ → List ℕ → ℕ → ℕ → ℕ → ℕ → Type 0
Lays s s' to a w d = Laid (cell s) (cell s') to (lowered d (linked a (decode w)))

-- The cells from `low` up to `high` move down by `by`, and their ends by d. In the heap `by` is d; the registers stay
-- where they are.
pub record Lowerable (s : List ℕ) (low high by d : ℕ) : Type 0 where
  pub apart : by ≤ low
  pub some : low ≤ high
  pub room : 2 * high ≤ length s
  pub cells : (i : ℕ) → low ≤ i → i < high → Layable s (i - by) (first_word s i) (second_word s i) d

pub record Lowers (s s' : List ℕ) (low high by d : ℕ) : Type 0 where
  pub down : (i : ℕ) → low ≤ i → i < high → cell s' (i - by) ≡ lowered d (cell s i)
  pub rest : (c : ℕ) → (low ≤ c + by → high ≤ c + by) → cell s' c ≡ cell s c

-- the cells from m up to n are two zero words, the others as they were
pub record Cleared (s s' : List ℕ) (m n : ℕ) : Type 0 where
  pub gone : (c : ℕ) → m ≤ c → c < n → (first_word s' c ≡ 0) × (second_word s' c ≡ 0)
  pub kept : (c : ℕ) → (m ≤ c → n ≤ c) → (first_word s' c ≡ first_word s c) × (second_word s' c ≡ second_word s c)
