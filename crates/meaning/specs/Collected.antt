-- The store that collecting leaves, word for word (SCOPE 3.1).
-- Assumes nothing.
use Rattle.std.specs.Prelude.{Bool, true, false, List, [], ◌∷◌, ◌++◌, ℕ, zero, suc, ◌+◌, ◌-◌, ◌*◌, ltb, length}
use Rattle.std.specs.Prelude.{replicate}
use Rattle.meaning.specs.Sound.{Cell, code, empty, ends, fst, snd, at}
use Rattle.meaning.specs.Reach.{reached, live}

abbrev pub count_if : Bool → ℕ → ℕ
count_if true n = suc n
count_if false n = n

-- how many numbers of a list are below c
abbrev pub below : ℕ → List ℕ → ℕ
below c [] = zero
below c (b ∷ bs) = count_if (ltb b c) (below c bs)

-- The new address of the reached cell c, where rs are the reached cells: F plus the number of them below c.
unfoldable pub new_address : ℕ → List ℕ → ℕ → ℕ
new_address F rs c = F + below c rs

-- and in a store
abbrev pub new : ℕ → List ℕ → ℕ → ℕ → ℕ
new F ws top = new_address F (reached F ws top)

-- a cell with both ends moved
abbrev pub map_ends : (ℕ → ℕ) → Cell → Cell
map_ends f (code a) = code a
map_ends f empty = empty
map_ends f (ends l r) = ends (f l) (f r)

-- the words of the cells of a list
abbrev pub lay : (ℕ → Cell) → List ℕ → List ℕ
lay k [] = []
lay k (c ∷ cs) = fst (k c) ∷ snd (k c) ∷ lay k cs

-- c, c + 1, .. , n numbers
abbrev pub up_from : ℕ → ℕ → List ℕ
up_from c zero = []
up_from c (suc n) = c ∷ up_from (suc c) n

-- the registers and the reached cells, both ends of every reference moved; then zeros
unfoldable pub collected_of : ℕ → List ℕ → List ℕ → List ℕ
collected_of F ws rs =
    lay (λ c. map_ends (new_address F rs) (at ws c)) (up_from 0 F ++ rs) ++ replicate (length ws - 2 * (F + length rs)) 0

unfoldable pub collected : ℕ → List ℕ → ℕ → List ℕ
collected F ws top = collected_of F ws (reached F ws top)

-- `top` after collecting
abbrev pub collected_top : ℕ → List ℕ → ℕ → ℕ
collected_top F ws top = F + live F ws top
