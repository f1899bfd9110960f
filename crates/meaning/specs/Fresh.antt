-- A fresh store: every register empty, nothing occupied (SCOPE 1.5, 5.3). Assumes nothing.
use Rattle.std.specs.Prelude.{cond, List, [], ◌∷◌, ◌++◌, ℕ, zero, suc, ◌-◌, ◌*◌, length, replicate}
use Rattle.words.specs.Second.{bracket_to}
use Rattle.meaning.specs.Sound.{capacity}
use Rattle.meaning.specs.Verdicts.{Done, done, refused, only}
use Rattle.meaning.specs.Check.{length_test}

-- n empty registers
abbrev pub empty_registers : ℕ → List ℕ
empty_registers zero = []
empty_registers (suc n) = 0 ∷ bracket_to 0 ∷ empty_registers n

-- the words of a fresh store of n cells
unfoldable pub fresh : ℕ → ℕ → List ℕ
fresh F n = empty_registers F ++ replicate (2 * (n - F)) 0

-- written into a slice: 0 with `top` F, or 1 with `top` 0 and the slice unchanged
unfoldable pub fresh_in : ℕ → List ℕ → Done
fresh_in F ws = cond (length_test F (length ws)) (done (fresh F (capacity ws)) F 0) (refused ws 0 (only 1))
