-- Numbers in decimal, as bytes (SCOPE 6.3). Assumes nothing.
use Rattle.std.specs.Prelude.{true, false, List, [], ◌∷◌, ◌++◌, ℕ, zero, suc, ◌+◌, ◌/◌, ◌%◌, ltb}

-- n in decimal without leading zeros: k digits are enough where n is below 10 to the k
abbrev pub digits : ℕ → ℕ → List ℕ
digits zero n = []
digits (suc k) n = elim (ltb n 10) [ true ↦ (48 + n) ∷ [] | false ↦ digits k (n / 10) ++ ((48 + n % 10) ∷ []) ]

-- n + 1 steps are always enough
unfoldable pub decimal : ℕ → List ℕ
decimal n = digits (suc n) n
