-- Demand 2, collecting: exactly the reached cells are kept, in their old order, packed from the first heap cell on,
-- with both ends of every reference moved and sharing kept; the rest is zero, and every register denotes what it did
-- (SCOPE 3.1, 3.2; 8.2). Assumes nothing.
use Rattle.std.specs.Prelude.{◌≡◌, List, ℕ, ◌+◌, ◌-◌, ◌≤◌, ◌<◌, length, get_or}
use Rattle.words.specs.Cell.{first_word, second_word}
use Rattle.meaning.specs.Sound.{ends, at, capacity, Sound}
use Rattle.meaning.specs.Meaning.{meaning}
use Rattle.meaning.specs.Reach.{Reached, reached, live}
use Rattle.meaning.specs.Collected.{map_ends, new, collected}

-- ---- live is the number of reached heap cells: `reached` has each of them once, in ascending order, and nothing else

pub record Counted (F : ℕ) (ws : List ℕ) (top : ℕ) : Type 0 where
  pub each : (c : ℕ) → Reached F (at ws) c → (k : ℕ) × (k < live F ws top) × (get_or (reached F ws top) k 0 ≡ c)
  pub only : (k : ℕ) → k < live F ws top → Reached F (at ws) (get_or (reached F ws top) k 0)
  pub rising : (j k : ℕ) → j < k → k < live F ws top → get_or (reached F ws top) j 0 < get_or (reached F ws top) k 0

abbrev pub LiveCounts : Type 0
LiveCounts = (F : ℕ) → 0 < F → (ws : List ℕ) (top : ℕ) → Sound F ws top → Counted F ws top

-- ---- the collected store v

pub record CollectedFrom (F : ℕ) (ws : List ℕ) (top : ℕ) (v : List ℕ) : Type 0 where
  -- packed low: the new addresses are the cells from F up to but not including F + live, and no cell moves up
  pub low : (c : ℕ) → Reached F (at ws) c
      → (F ≤ new F ws top c) × (new F ws top c < F + live F ws top) × (new F ws top c ≤ c)
  pub packed : (y : ℕ) → F ≤ y → y < F + live F ws top → (c : ℕ) × Reached F (at ws) c × (new F ws top c ≡ y)
  -- in their old order, so that two cells stay two
  pub order : (c x : ℕ) → Reached F (at ws) c → Reached F (at ws) x → c < x → new F ws top c < new F ws top x
  -- both ends of every reference become the new addresses of the cells that they named, so that two references to one
  -- cell still meet in one cell
  pub registers : (i : ℕ) → i < F → at v i ≡ map_ends (new F ws top) (at ws i)
  pub cells : (c : ℕ) → Reached F (at ws) c → at v (new F ws top c) ≡ map_ends (new F ws top) (at ws c)
  -- and the cells between the ends stay between them, each at its place
  pub register_run : (i l r c : ℕ) → i < F → at ws i ≡ ends l r → l ≤ c → c ≤ r
      → new F ws top c ≡ new F ws top l + (c - l)
  pub cell_run : (b l r c : ℕ) → Reached F (at ws) b → at ws b ≡ ends l r → l ≤ c → c ≤ r
      → new F ws top c ≡ new F ws top l + (c - l)
  -- the rest is zero
  pub rest : (c : ℕ) → F + live F ws top ≤ c → c < capacity ws → (first_word v c ≡ 0) × (second_word v c ≡ 0)
  -- every cell that is kept is reached
  pub all : (y : ℕ) → F ≤ y → y < F + live F ws top → Reached F (at v) y
  pub expressions : (i : ℕ) → i < F → meaning v i ≡ meaning ws i
  pub sound : Sound F v (F + live F ws top)
  pub len : length v ≡ length ws
  pub many : live F v (F + live F ws top) ≡ live F ws top
  -- collecting again changes nothing
  pub again : collected F v (F + live F ws top) ≡ v

abbrev pub CollectingKeeps : Type 0
CollectingKeeps =
    (F : ℕ) → 0 < F → (ws : List ℕ) (top : ℕ) → Sound F ws top → CollectedFrom F ws top (collected F ws top)
