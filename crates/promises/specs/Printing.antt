-- Demands 1 and 2, printing (SCOPE 2.4, 5.7): what a text is, what it meets as it is written, and every answer from its
-- table. In order:
--   IsText              what is said of texts of expressions;  TextInWords, OneText  `text` alone is such
--   OneTooMany, Meets   a bracket that is one too many;  what a text meets in a space, by the first place of trouble
--   PrintedAs           the verdict, by cases;  PrintTable, PrintAnswers  every answer is from its table, and says
--                       every byte of the space
--   PrintsAlike         a print goes by what the register denotes;  CollectionsUnprinted, AlikePrinted  so it shows no
--                       collection
-- Assumes nothing.
use Rattle.std.specs.Prelude.{◌≡◌, ◌≢◌, cond, List, [], ◌∷◌, ◌++◌, ℕ, suc, ◌+◌, ◌-◌, ◌≤◌, ◌<◌, eqb, length, get_or}
use Rattle.std.specs.Prelude.{take, replicate}
use Rattle.octets.specs.Decimal.{decimal}
use Rattle.meaning.specs.Limits.{depth_limit}
use Rattle.meaning.specs.Expr.{Expr, nothing, symbol, parens, append, terms}
use Rattle.meaning.specs.Sound.{capacity, Sound}
use Rattle.meaning.specs.Meaning.{meaning}
use Rattle.meaning.specs.Collected.{collected, collected_top}
use Rattle.meaning.specs.Verdicts.{Verdict, only}
use Rattle.meaning.specs.Text.{text, Printed, print_in}
use Rattle.promises.specs.Table.{OneOf, Not, Judged}
use Rattle.promises.specs.Alike.{Alike}

-- ---- the text of an expression

-- t gives each expression its text: no bytes for the empty one, a symbol's code in decimal, brackets right around what
-- they hold, and one space between two rows of terms
pub record IsText (t : Expr → List ℕ) : Type 0 where
  pub none : t nothing ≡ []
  pub code : (a : ℕ) → t (symbol a nothing) ≡ decimal a
  pub brackets : (e : Expr) → t (parens e nothing) ≡ 40 ∷ t e ++ (41 ∷ [])
  pub between : (e f : Expr) → 0 < terms e → 0 < terms f → t (append e f) ≡ t e ++ (32 ∷ t f)

abbrev pub TextInWords : Type 0
TextInWords = IsText text

-- no other function is such
abbrev pub OneText : Type 0
OneText = (t : Expr → List ℕ) → IsText t → (e : Expr) → t e ≡ text e

-- ---- what a text meets

-- how often a byte stands among others
abbrev pub count : ℕ → List ℕ → ℕ
count b [] = 0
count b (x ∷ xs) = cond (eqb x b) (suc (count b xs)) (count b xs)

-- byte k of a text opens a bracket, and d brackets are open before it already: as many as were opened less those that
-- were closed
abbrev pub OneTooMany : ℕ → List ℕ → ℕ → Type 0
OneTooMany d bs k = (k < length bs) × (get_or bs k 0 ≡ 40) × (d + count 41 (take k bs) ≤ count 40 (take k bs))

-- what it meets in a space of n bytes: 21 where the first bracket that is one too many stands within the n bytes or is
-- the next one, 22 where the text is longer and no such bracket comes so early, else nothing
pub data Meets (d n : ℕ) (bs : List ℕ) : ℕ → Type 0 where
  deep : (k : ℕ) → k ≤ n → OneTooMany d bs k → ((j : ℕ) → j < k → Not (OneTooMany d bs j)) → Meets d n bs 21
  long : n < length bs → ((j : ℕ) → j ≤ n → Not (OneTooMany d bs j)) → Meets d n bs 22
  fits : length bs ≤ n → ((j : ℕ) → Not (OneTooMany d bs j)) → Meets d n bs 0

-- ---- printing

-- the status and value, by what comes first: the check's, 20, or what the register's text meets
pub data PrintedAs (F : ℕ) (ws : List ℕ) (top i n : ℕ) : Verdict → Type 0 where
  unsound : (v : Verdict) → Judged F ws top v → v.status ≢ 0 → PrintedAs F ws top i n v
  no_register : Sound F ws top → F ≤ i → PrintedAs F ws top i n (only 20)
  written : (s : ℕ) → Sound F ws top → i < F → Meets depth_limit n (text (meaning ws i)) s
      → PrintedAs F ws top i n (only s)

pub record PrintTable (F : ℕ) (ws : List ℕ) (top i n : ℕ) (r : Printed) : Type 0 where
  pub number : OneOf r.verdict.status (0 ∷ 1 ∷ 2 ∷ 3 ∷ 20 ∷ 21 ∷ 22 ∷ [])
  pub value : r.verdict.status ≢ 3 → r.verdict.value ≡ 0
  pub rule : r.verdict.status ≢ 3 → r.verdict.rule ≡ 0
  pub prints : PrintedAs F ws top i n r.verdict
  -- the whole text, and zeros after it
  pub whole : r.verdict.status ≡ 0
      → (r.size ≡ length (text (meaning ws i)))
      × (r.space ≡ text (meaning ws i) ++ replicate (n - length (text (meaning ws i))) 0)
  -- a refusal: no length, and every byte of the space zero
  pub refused : r.verdict.status ≢ 0 → (r.size ≡ 0) × (r.space ≡ replicate n 0)

abbrev pub PrintAnswers : Type 0
PrintAnswers = (F : ℕ) (ws : List ℕ) (top i n : ℕ) → PrintTable F ws top i n (print_in F ws top i n)

-- ---- stores that print alike

-- two sound stores in which a register denotes the same
abbrev pub PrintsAlike : Type 0
PrintsAlike =
    (F : ℕ) (ws : List ℕ) (top : ℕ) (ws' : List ℕ) (top' i n : ℕ) → Sound F ws top → Sound F ws' top'
    → meaning ws i ≡ meaning ws' i → print_in F ws top i n ≡ print_in F ws' top' i n

-- a sound store before and after a collection
abbrev pub CollectionsUnprinted : Type 0
CollectionsUnprinted =
    (F : ℕ) → 0 < F → (ws : List ℕ) (top i n : ℕ) → Sound F ws top
    → print_in F (collected F ws top) (collected_top F ws top) i n ≡ print_in F ws top i n

-- two that are alike (SCOPE 8.4)
abbrev pub AlikePrinted : Type 0
AlikePrinted =
    (F : ℕ) → 0 < F → (ws : List ℕ) (top : ℕ) (ws' : List ℕ) (top' i n : ℕ) → Sound F ws top → Sound F ws' top'
    → capacity ws ≡ capacity ws' → Alike F ws top ws' top' → print_in F ws top i n ≡ print_in F ws' top' i n
