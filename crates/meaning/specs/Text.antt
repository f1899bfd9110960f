-- The text of an expression, and a register printed (SCOPE 2.4, 5.7). Bytes are their ASCII numbers: 32 is a space, 40
-- and 41 are brackets. Assumes nothing.
use Rattle.std.specs.Prelude.{Bool, cond, ◌&&◌, List, [], ◌∷◌, ◌++◌, ℕ, zero, suc, ◌-◌, ltb, eqb, length}
use Rattle.octets.specs.Decimal.{decimal}
use Rattle.octets.specs.Space.{filled}
use Rattle.meaning.specs.Limits.{depth_limit}
use Rattle.meaning.specs.Expr.{Expr, nothing, symbol, parens}
use Rattle.meaning.specs.Sound.{IsCode}
use Rattle.meaning.specs.Meaning.{meaning}
use Rattle.meaning.specs.Verdicts.{Verdict, only, on_zero, if_sound}
use Rattle.meaning.specs.Check.{check}

-- what stands between a term and the rest of its expression: one space, where there is a rest
abbrev pub gap : Expr → List ℕ
gap nothing = []
gap (symbol a r) = 32 ∷ []
gap (parens i r) = 32 ∷ []

-- The text of an expression: terms with one space between them, a code in decimal without leading zeros, brackets as
-- `(` and `)` with no inner padding. The empty expression is no bytes.
abbrev pub text : Expr → List ℕ
text nothing = []
text (symbol a r) = decimal a ++ (gap r ++ text r)
text (parens i r) = 40 ∷ text i ++ (41 ∷ gap r ++ text r)

-- the expressions whose texts may be read: codes as they may be, at most `left` brackets within one another
abbrev pub Readable : ℕ → Expr → Type 0
Readable left nothing = Unit {0}
Readable left (symbol a r) = IsCode a × Readable left r
Readable zero (parens i r) = ⊥
Readable (suc left) (parens i r) = Readable left i × Readable (suc left) r

-- how many more brackets may be open after a byte of a text, where `left` may be before it
unfoldable pub left_after : ℕ → ℕ → ℕ
left_after left b = cond (eqb b 40) (left - 1) (cond (eqb b 41) (suc left) left)

-- the byte opens a bracket, and no more may be open
unfoldable pub too_deep : ℕ → ℕ → Bool
too_deep left b = eqb b 40 && eqb left 0

-- The first trouble in writing a text into n bytes, from left to right, where `left` more brackets may be open: 21
-- before a bracket that is one too many, 22 where the next byte does not fit, 21 if both hold at one byte; else 0.
abbrev pub trouble : ℕ → ℕ → List ℕ → ℕ
trouble left n [] = 0
trouble left n (b ∷ bs) = cond (too_deep left b) 21 (cond (eqb n 0) 22 (trouble (left_after left b) (n - 1) bs))

-- what printing answers: a verdict, the length of the text, and the text space as it is left, every byte of it
pub record Printed : Type 0 where
  pub verdict : Verdict
  pub size : ℕ
  pub space : List ℕ

-- refused: length 0, and n bytes that are all zero
abbrev pub unprinted : Verdict → ℕ → Printed
unprinted v n = record { verdict = v; size = 0; space = filled n [] }

-- a text in a space of n bytes: zeros after it, or its first trouble
unfoldable pub printed : List ℕ → ℕ → Printed
printed t n =
    on_zero (trouble depth_limit n t) (record { verdict = only 0; size = length t; space = filled n t })
    (unprinted (only (trouble depth_limit n t)) n)

-- register i in a text space of n bytes: 1 to 3 first, then 20 for a register that is none, then the text's trouble
unfoldable pub print_in : ℕ → List ℕ → ℕ → ℕ → ℕ → Printed
print_in F ws top i n =
    if_sound (check F ws top)
    (cond (ltb i F) (printed (text (meaning ws i)) n) (unprinted (only 20) n))
    (unprinted (check F ws top) n)
