-- The bytes of a text that are left. Assumes nothing.
use Rattle.std.specs.Prelude.{◌≢◌, Bool, false, cond, not, List, [], ◌∷◌, ℕ, eqb}
use Rattle.meaning.specs.Judge.{is_digit, with_digit}

-- there is a byte, and it is no closing bracket
abbrev pub goes_on : List ℕ → Bool
goes_on [] = false
goes_on (b ∷ bs) = not (eqb b 41)

-- what follows a space, if there is one
abbrev pub less_space : List ℕ → List ℕ
less_space [] = []
less_space (b ∷ bs) = cond (eqb b 32) bs (b ∷ bs)

-- no opening bracket comes next
abbrev pub NoBracket : List ℕ → Type 0
NoBracket [] = Unit {0}
NoBracket (b ∷ bs) = b ≢ 40

-- the code whose digits come next, after a; and what follows them
abbrev pub code_at : ℕ → List ℕ → ℕ
code_at a [] = a
code_at a (b ∷ bs) = cond (is_digit b) (code_at (with_digit a b) bs) a

abbrev pub less_digits : List ℕ → List ℕ
less_digits [] = []
less_digits (b ∷ bs) = cond (is_digit b) (less_digits bs) (b ∷ bs)
