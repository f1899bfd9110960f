-- Which cells lie between the ends of some cell, by how far the runs reach that begin at or before them.
-- k are the cells of a store, m is how many of them are looked at. Assumes nothing.
use Rattle.std.specs.Prelude.{◌≡◌, Bool, true, cond, ◌&&◌, List, [], ◌∷◌, ℕ, zero, suc, ◌-◌, ◌<◌, max, eqb, ltb, length}
use Rattle.std.specs.Prelude.{get_or, set}
use Rattle.meaning.specs.Sound.{Cell, code, empty, ends}
use Rattle.meaning.specs.Reach.{held_below}

-- n cells from x on are held, each by one of the m cells
abbrev pub held_from : (ℕ → Cell) → ℕ → ℕ → ℕ → Bool
held_from k m x zero = true
held_from k m x (suc n) = held_below k m x && held_from k m (suc x) n

-- the cell after the right end of a run whose left end passes a test; else 0
abbrev pub past_if : (ℕ → Bool) → Cell → ℕ
past_if t (code a) = 0
past_if t empty = 0
past_if t (ends l r) = cond (t l) (suc r) 0

-- the farthest of these of the m cells
abbrev pub past : (ℕ → Bool) → (ℕ → Cell) → ℕ → ℕ
past t k zero = 0
past t k (suc m) = max (past_if t (k m)) (past t k m)

-- A run that begins at l belongs to place j of the window that begins at cell w: the run begins there or, for place 0,
-- there or before.
abbrev pub placed : ℕ → ℕ → ℕ → Bool
placed w j l = eqb (l - w) j

-- the window has, for each of its places, the farthest of the runs of the m cells that belong to it
abbrev pub Noted : (ℕ → Cell) → ℕ → ℕ → List ℕ → Type 0
Noted k m w far = (j : ℕ) → j < length far → get_or far j 0 ≡ past (placed w j) k m

-- a window after one cell more
abbrev pub noted : ℕ → Cell → List ℕ → List ℕ
noted w (code a) far = far
noted w empty far = far
noted w (ends l r) far = set far (l - w) (max (get_or far (l - w) 0) (suc r))

-- a look along a window from cell w on: each cell lies before the farthest that any place up to its own has
abbrev pub along : ℕ → ℕ → List ℕ → Bool
along w reach [] = true
along w reach (x ∷ far) = ltb w (max reach x) && along (suc w) (max reach x) far
