-- Demand 2, cells: what a call that is done leaves in register d, in the new cells and everywhere else (SCOPE 4.2,
-- 4.3).
-- w is the store in which it acts, t the first new cell; a register's bracket has its first cell and its size. In
-- order:
--   d_cells, new_cells   d's cell and new cell number j, by a row for each operation that sets d
--   OnlyThere          no other cell changes
--   Leaves             all three
--   laid_on, laid_from   the store in which new cells are laid, and the first of them
-- Assumes nothing.
use Rattle.std.specs.Prelude.{◌≡◌, ◌⊎◌, ◌≢◌, cond, List, [], ◌∷◌, ℕ, suc, ◌+◌, ◌-◌, ◌≤◌, ◌<◌, ltb, leb, eqb, get_or}
use Rattle.words.specs.Cell.{first_word, second_word}
use Rattle.meaning.specs.Sound.{Cell, code, empty, ends, at, capacity, size, start}
use Rattle.meaning.specs.Reach.{live}
use Rattle.meaning.specs.Collected.{collected}

-- register a without its first cell
abbrev pub less_one : List ℕ → ℕ → Cell
less_one w a =
    cond (leb (size (at w a)) 1) empty (ends (suc (start (at w a))) (start (at w a) + size (at w a) - 1))

-- JOIN: the one that is not empty, shared, a before b; else the new cells, as many as both have
abbrev pub joined : List ℕ → ℕ → ℕ → ℕ → Cell
joined w t a b =
    cond (eqb (size (at w a)) 0) (at w b)
    (cond (eqb (size (at w b)) 0) (at w a) (ends t (t + (size (at w a) + size (at w b)) - 1)))

abbrev pub d_cells : List ℕ → ℕ → ℕ → ℕ → List Cell
d_cells w t a b =
    empty ∷  -- 0 CLEAR
    at w a ∷  -- 1 COPY: the same ends, so that both share the run
    ends t t ∷  -- 2 SYMBOL
    ends t t ∷  -- 3 WRAP
    joined w t a b ∷  -- 4 JOIN
    ends (start (at w a)) (start (at w a)) ∷  -- 5 HEAD
    less_one w a ∷  -- 6 REST
    at w (start (at w a)) ∷ []  -- 7 OPEN: the ends of the first cell

abbrev pub d_cell : ℕ → List ℕ → ℕ → ℕ → ℕ → Cell
d_cell o w t a b = get_or (d_cells w t a b) o empty

-- JOIN's: the cells of a, then those of b
abbrev pub copied : List ℕ → ℕ → ℕ → ℕ → Cell
copied w a b j =
    cond (ltb j (size (at w a))) (at w (start (at w a) + j)) (at w (start (at w b) + (j - size (at w a))))

abbrev pub new_cells : List ℕ → ℕ → ℕ → ℕ → List Cell
new_cells w a b j =
    empty ∷ empty ∷  -- 0 CLEAR and 1 COPY need none
    code a ∷  -- 2 SYMBOL
    at w a ∷  -- 3 WRAP: equal to register a's
    copied w a b j ∷ []  -- 4 JOIN

abbrev pub new_cell : ℕ → List ℕ → ℕ → ℕ → ℕ → Cell
new_cell o w a b j = get_or (new_cells w a b j) o empty

-- v has the words of w in every cell but d and the n cells from t on
abbrev pub OnlyThere : ℕ → ℕ → ℕ → List ℕ → List ℕ → Type 0
OnlyThere d t n w v =
    (c : ℕ) → c ≢ d → (c < t) ⊎ (t + n ≤ c) → (first_word v c ≡ first_word w c) × (second_word v c ≡ second_word w c)

-- v is what the call o d a b with n new cells leaves of w
pub record Leaves (o d a b n : ℕ) (w : List ℕ) (t : ℕ) (v : List ℕ) : Type 0 where
  pub others : OnlyThere d t n w v
  pub sets : o < 8 → at v d ≡ d_cell o w t a b
  pub lays : (j : ℕ) → j < n → at v (t + j) ≡ new_cell o w a b j

-- ---- where n new cells are laid, with room sought in v

-- the store, and its `top`: v collected where `top` + n exceeds the capacity, else the store as it is
abbrev pub laid_on : ℕ → ℕ → List ℕ → List ℕ → ℕ → List ℕ
laid_on F n v ws top = cond (ltb (capacity ws) (top + n)) (collected F v top) ws

abbrev pub laid_from : ℕ → ℕ → List ℕ → List ℕ → ℕ → ℕ
laid_from F n v ws top = cond (ltb (capacity ws) (top + n)) (F + live F v top) top
