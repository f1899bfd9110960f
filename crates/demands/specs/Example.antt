-- Two stores that meet the premises of demand 3 and are not equal, each with a history of its own: they collect at
-- different places, the first for a typed text, for which the second has room, the second for a JOIN, for which the
-- first has room, and by COLLECT, and both by `collect::collect` and for a JOIN that has room only in place of what its
-- register held; and they end unequal again. All of it is computed, so that the premises are seen to be met. The heap
-- begins at the code's first heap cell F, and has room for four cells; F + 2 and so on are cells. Assumes nothing.
use Rattle.std.specs.Prelude.{◌≡◌, ◌≢◌, List, [], ◌∷◌, ◌++◌, ℕ, ◌+◌, ◌-◌, Result, Ok}
use Rattle.words.specs.Second.{bracket_to}
use Rattle.meaning.specs.Limits.{first_heap_cell}
use Rattle.meaning.specs.Sound.{Sound, capacity}
use Rattle.meaning.specs.Fresh.{empty_registers}
use Rattle.store.specs.declared.Unsound.{Unsound}
use Rattle.collect.specs.declared.Collected.{Collected}
use Rattle.promises.specs.Alike.{Alike, strike}
use Rattle.collect.specs.Answers.{Collects}
use Rattle.demands.specs.Runs.{Step, run, type, collect, Happened, asked, words_after, top_after, Unseen}

abbrev pub F : ℕ
F = first_heap_cell

-- ---- the stores

-- Register 0 holds the symbol 65: the first store has it in cell F + 1, after a dead 70; the second has it in cell F.
abbrev pub first : List ℕ
first = (F + 1) ∷ bracket_to (F + 1) ∷ empty_registers (F - 1) ++ (70 ∷ 0 ∷ 65 ∷ 0 ∷ 0 ∷ 0 ∷ 0 ∷ 0 ∷ [])

abbrev pub second : List ℕ
second = F ∷ bracket_to F ∷ empty_registers (F - 1) ++ (65 ∷ 0 ∷ 0 ∷ 0 ∷ 0 ∷ 0 ∷ 0 ∷ 0 ∷ [])

-- registers 0 and 1 hold a cell each, l and r; then the words of the heap
abbrev pub two : ℕ → ℕ → List ℕ → List ℕ
two l r heap = l ∷ bracket_to l ∷ r ∷ bracket_to r ∷ empty_registers (F - 2) ++ heap

-- register 2 holds the cells from l on; the heap is full, with 65 and 66 below its upper two cells
abbrev pub three : ℕ → List ℕ → List ℕ
three l upper =
    F ∷ bracket_to F ∷ (F + 1) ∷ bracket_to (F + 1) ∷ l ∷ bracket_to (F + 3) ∷ empty_registers (F - 3)
    ++ (65 ∷ 0 ∷ 66 ∷ 0 ∷ upper)

-- the upper two cells: those of the text (7), those of 65 66, and those of 66 65
abbrev pub seven : List ℕ
seven = 7 ∷ 0 ∷ (F + 2) ∷ bracket_to (F + 2) ∷ []

abbrev pub pair : List ℕ
pair = 65 ∷ 0 ∷ 66 ∷ 0 ∷ []

abbrev pub turned : List ℕ
turned = 66 ∷ 0 ∷ 65 ∷ 0 ∷ []

-- what the stores come to: with those two cells dead, and collected
abbrev pub full : List ℕ → List ℕ
full upper = two F (F + 1) (65 ∷ 0 ∷ 66 ∷ 0 ∷ upper)

abbrev pub low : List ℕ
low = full (0 ∷ 0 ∷ 0 ∷ 0 ∷ [])

-- ---- the histories

-- the bytes of (7)
abbrev pub bytes : List ℕ
bytes = 40 ∷ 55 ∷ 41 ∷ []

-- SYMBOL 1 66; (7) typed into register 2, for which the store is collected; CLEAR 2; a collection; JOIN 2 0 1, WRAP 3 2
-- without room, LIVE, JOIN 2 1 0 in place of what register 2 held, CLEAR 2, with two answer words to spare
abbrev pub first_history : List Step
first_history =
    run (2 ∷ 1 ∷ 66 ∷ 0 ∷ []) (9 ∷ 9 ∷ []) (F + 3) (two (F + 1) (F + 2) (70 ∷ 0 ∷ 65 ∷ 0 ∷ 66 ∷ 0 ∷ 0 ∷ 0 ∷ []))
    (0 ∷ 0 ∷ []) ∷
    type 2 bytes (Ok (F + 4)) (F + 4) (three (F + 3) seven) ∷
    run (0 ∷ 2 ∷ 0 ∷ 0 ∷ []) (9 ∷ 9 ∷ []) (F + 4) (full seven) (0 ∷ 0 ∷ []) ∷
    collect 2 (F + 2) low ∷
    run (4 ∷ 2 ∷ 0 ∷ 1 ∷ 3 ∷ 3 ∷ 2 ∷ 0 ∷ 10 ∷ 0 ∷ 0 ∷ 0 ∷ 4 ∷ 2 ∷ 1 ∷ 0 ∷ 0 ∷ 2 ∷ 0 ∷ 0 ∷ [])
    (9 ∷ 9 ∷ 9 ∷ 9 ∷ 9 ∷ 9 ∷ 9 ∷ 9 ∷ 9 ∷ 9 ∷ 9 ∷ 9 ∷ []) (F + 4) (full turned)
    (0 ∷ 0 ∷ 16 ∷ 0 ∷ 0 ∷ 4 ∷ 0 ∷ 0 ∷ 0 ∷ 0 ∷ 0 ∷ 0 ∷ []) ∷ []

-- SYMBOL 1 66; (7) typed into register 2, which has room; CLEAR 2, JOIN 2 0 1, for which the store is collected,
-- COLLECT; no call; WRAP 3 2, LIVE, JOIN 2 1 0, CLEAR 2; a collection
abbrev pub second_history : List Step
second_history =
    run (2 ∷ 1 ∷ 66 ∷ 0 ∷ []) (9 ∷ 9 ∷ []) (F + 2) low (0 ∷ 0 ∷ []) ∷
    type 2 bytes (Ok (F + 4)) (F + 4) (three (F + 3) seven) ∷
    run (0 ∷ 2 ∷ 0 ∷ 0 ∷ 4 ∷ 2 ∷ 0 ∷ 1 ∷ 11 ∷ 0 ∷ 0 ∷ 0 ∷ []) (9 ∷ 9 ∷ 9 ∷ 9 ∷ 9 ∷ 9 ∷ []) (F + 4)
    (three (F + 2) pair) (0 ∷ 0 ∷ 0 ∷ 0 ∷ 0 ∷ 4 ∷ []) ∷
    run [] [] (F + 4) (three (F + 2) pair) [] ∷
    run (3 ∷ 3 ∷ 2 ∷ 0 ∷ 10 ∷ 0 ∷ 0 ∷ 0 ∷ 4 ∷ 2 ∷ 1 ∷ 0 ∷ 0 ∷ 2 ∷ 0 ∷ 0 ∷ []) (9 ∷ 9 ∷ 9 ∷ 9 ∷ 9 ∷ 9 ∷ 9 ∷ 9 ∷ [])
    (F + 4) (full turned) (16 ∷ 0 ∷ 0 ∷ 4 ∷ 0 ∷ 0 ∷ 0 ∷ 0 ∷ []) ∷
    collect 2 (F + 2) low ∷
    []

-- ---- the premises are met, and the stores differ before and after

pub record Met : Type 0 where
  pub sound : Sound F first (F + 2)
  pub sound' : Sound F second (F + 1)
  pub capacities : capacity first ≡ capacity second
  pub alike : Alike F first (F + 2) second (F + 1)
  pub happened : Happened first (F + 2) first_history
  pub happened' : Happened second (F + 1) second_history
  pub struck : strike (asked first_history) ≡ strike (asked second_history)

abbrev pub PremisesMet : Type 0
PremisesMet = Met × (first ≢ second) × (words_after first first_history ≢ words_after second second_history)

-- ---- so the demand says, of these two

abbrev pub HistoriesUnseen : Type 0
HistoriesUnseen = Unseen first (F + 2) first_history second (F + 1) second_history

-- One more collection of what the first history leaves, known by its contract alone, returns live 2 and `top` F + 2,
-- and leaves the words that the second history left.
abbrev pub OneMoreCollection : Type 0
OneMoreCollection =
    (r : Result Collected Unsound) (v : List ℕ)
    → Collects (words_after first first_history) (top_after (F + 2) first_history) r v
    → (r ≡ Ok (record { live = 2; top = F + 2 })) × (v ≡ words_after second second_history)
