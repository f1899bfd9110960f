-- Which heap cells are reached, by the wording and as a list that is computed; live (SCOPE 2.3).
-- Assumes nothing.
use Rattle.std.specs.Prelude.{Bool, true, false, ◌&&◌, ◌||◌, List, [], ◌∷◌, ℕ, zero, suc, ◌-◌, ◌≤◌, ◌<◌, leb, length}
use Rattle.meaning.specs.Sound.{Cell, code, empty, ends, at}

-- c lies between the ends of a bracket
abbrev pub Between : Cell → ℕ → Type 0
Between (code a) c = ⊥
Between empty c = ⊥
Between (ends l r) c = (l ≤ c) × (c ≤ r)

-- A heap cell is reached if it lies between the ends of a register or of a reached bracket, and not otherwise.
pub data Reached (F : ℕ) (k : ℕ → Cell) : ℕ → Type 0 where
  by_register : {c : ℕ} (i : ℕ) → i < F → Between (k i) c → Reached F k c
  by_bracket : {c : ℕ} (b : ℕ) → Reached F k b → Between (k b) c → Reached F k c

-- the same by computation
abbrev pub between : Cell → ℕ → Bool
between (code a) c = false
between empty c = false
between (ends l r) c = leb l c && leb c r

-- one of the cells below n holds c
abbrev pub held_below : (ℕ → Cell) → ℕ → ℕ → Bool
held_below k zero c = false
held_below k (suc n) c = between (k n) c || held_below k n c

-- one of the cells of a list holds c
abbrev pub held_in : (ℕ → Cell) → List ℕ → ℕ → Bool
held_in k [] c = false
held_in k (b ∷ bs) c = between (k b) c || held_in k bs c

abbrev pub cons_if : Bool → ℕ → List ℕ → List ℕ
cons_if true c cs = c ∷ cs
cons_if false c cs = cs

-- The reached ones of the n cells below `top`, in order. Only registers and higher cells hold a cell, so one pass
-- downward finds them.
abbrev pub reached_of : ℕ → (ℕ → Cell) → ℕ → ℕ → List ℕ
reached_of F k top zero = []
reached_of F k top (suc n) =
    let c = top - suc n in
    let above = reached_of F k top n in
    cons_if (held_below k F c || held_in k above c) c above

-- the reached heap cells of a store, in order
unfoldable pub reached : ℕ → List ℕ → ℕ → List ℕ
reached F ws top = reached_of F (at ws) top (top - F)

-- the number of reached heap cells
unfoldable pub live : ℕ → List ℕ → ℕ → ℕ
live F ws top = length (reached F ws top)
