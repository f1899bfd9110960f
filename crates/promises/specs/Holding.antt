-- Demand 2, the new cells of a typed text (SCOPE 5.8): no new cell refers to an old one, and none is shared. A cell is
-- held by a bracket where it lies between its ends. Assumes nothing.
use Rattle.std.specs.Prelude.{◌≡◌, ◌⊎◌, List, ℕ, ◌+◌, ◌≤◌, ◌<◌}
use Rattle.meaning.specs.Sound.{at}
use Rattle.meaning.specs.Reach.{Between}
use Rattle.meaning.specs.Lay.{all_terms}
use Rattle.meaning.specs.Typed.{type_in}
use Rattle.promises.specs.Typing.{said, typed_from}

-- of a store v with register d set, and n new cells from t on up to its `top`
pub record OwnAlone (d t n : ℕ) (v : List ℕ) : Type 0 where
  -- what d or a new cell holds is a new cell
  pub inward : (x c : ℕ) → (x ≡ d) ⊎ ((t ≤ x) × (x < t + n)) → Between (at v x) c → (t ≤ c) × (c < t + n)
  -- no new cell is held by two, of all registers and occupied cells
  pub once : (x y c : ℕ) → x < t + n → y < t + n → t ≤ c → Between (at v x) c → Between (at v y) c → x ≡ y

-- a text that is done
abbrev pub NewCellsOnly : Type 0
NewCellsOnly =
    (F : ℕ) (ws : List ℕ) (top d : ℕ) (bs : List ℕ) → (type_in F ws top d bs).verdict.status ≡ 0
    → OwnAlone d (typed_from F ws top d bs) (all_terms (said bs)) (type_in F ws top d bs).words
