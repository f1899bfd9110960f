-- What the functions of the collector ask for and leave, on words: a function is asked for some heap in its phase, and
-- leaves every such heap in the next. In order: a cell put down, then the sweep. Lowering has the pass up.
-- Assumes nothing.
use Rattle.std.specs.Prelude.{◌≡◌, ◌≢◌, true, false, List, ℕ, suc, ◌+◌, ◌*◌, ◌^◌, ◌≤◌, ◌<◌, length}
use Rattle.words.specs.Cell.{first_word, put_cell}
use Rattle.words.specs.Second.{decode, plain, full_word}
use Rattle.meaning.specs.Limits.{limit}
use Rattle.collect.specs.Cells.{linked, cell}
use Rattle.collect.specs.Heap.{Heap, pos}
use Rattle.collect.specs.Chain.{SweptTo, Known}
use Rattle.collect.specs.Step.{Laid, Linked}
use Rattle.collect.specs.Phases.{Sweeping, Turn, Head, Passed, Begun}

-- a second word without mark and chains
abbrev pub PlainWord : ℕ → Type 0
PlainWord w = decode w ≡ plain (decode w).br (decode w).ri

-- ---- a cell put down

-- the bracket with the words a and w can be linked to its right end, and stand at m
pub record Linkable (s : List ℕ) (m a w : ℕ) : Type 0 where
  pub m_in : 2 * m + 1 < length s
  pub k_in : 2 * (decode w).ri + 1 < length s
  pub len : length s ≤ 2 * limit
  pub apart : m ≢ (decode w).ri
  pub small : first_word s (decode w).ri < 2 ^ 28
  pub bare : (decode w).lc ≡ false
  pub order : a ≤ (decode w).ri

abbrev pub Links : List ℕ → List ℕ → ℕ → ℕ → ℕ → Type 0
Links s s' m a w = Linked (cell s) (cell s') m (decode w).ri (linked a (decode w))

-- the cell with the words a and w can stand at m
pub record Standable (s : List ℕ) (m a w : ℕ) : Type 0 where
  pub m_in : 2 * m + 1 < length s
  pub bare : PlainWord w
  pub link : full_word w ≡ true → Linkable s m a w

-- it does: linked, if it has contents
pub record Stood (s s' : List ℕ) (m a w : ℕ) : Type 0 where
  pub held : full_word w ≡ true → Links s s' m a w
  pub laid : full_word w ≡ false → Laid (cell s) (cell s') m (linked a (decode w))

-- ---- the sweep

-- a cell's turn
abbrev pub MyTurn : List ℕ → ℕ → ℕ → ℕ → ℕ → Type 0
MyTurn s c w to low = (g : Heap) × Turn g s c w to low

-- its chain is undone; the words a and b are its own now, wherever they are put
abbrev pub Releases : List ℕ → List ℕ → ℕ → ℕ → ℕ → ℕ → ℕ → ℕ → ℕ → Type 0
Releases s s' c w to low a b low' =
    (g : Heap) → Turn g s c w to low
    → SweptTo g (pos g c) 0 (cell (put_cell s' c a b)) × Known g (pos g c) 0 low' c

-- its turn is over
abbrev pub Turned : List ℕ → List ℕ → ℕ → ℕ → ℕ → ℕ → ℕ → Type 0
Turned s s' c w to low low' =
    (g : Heap) → Turn g s c w to low
    → Sweeping g s' (suc (pos g c)) × Known g (suc (pos g c)) (suc (pos g c)) low' c

-- the turns of the registers
abbrev pub Untouched : List ℕ → Type 0
Untouched s = (g : Heap) × Sweeping g s 0

abbrev pub HoldsRegisters : List ℕ → List ℕ → Type 0
HoldsRegisters s s' = (g : Heap) → Sweeping g s 0 → Sweeping g s' g.F

-- a cell that has a chain, and with it the cells below that become known
abbrev pub AtHead : List ℕ → ℕ → ℕ → ℕ → Type 0
AtHead s c w d = (g : Heap) × Head g s c w d

abbrev pub Passes : List ℕ → List ℕ → ℕ → ℕ → ℕ → ℕ → Type 0
Passes s s' c w d r = (g : Heap) → Head g s c w d → Passed g s' c r

-- the whole sweep, which gives the number of unreached heap cells below `top`
abbrev pub Sweepable : List ℕ → ℕ → (ℕ → ℕ → Type 0) → Type 0
Sweepable s top lifts = (g : Heap) × Begun g s top lifts

abbrev pub Sweeps : List ℕ → List ℕ → ℕ → (ℕ → ℕ → Type 0) → ℕ → Type 0
Sweeps s s' top lifts dead =
    (g : Heap) → Begun g s top lifts → Sweeping g s' g.T × (dead + g.new g.T ≡ g.T)
