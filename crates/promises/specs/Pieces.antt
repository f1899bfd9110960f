-- Demands 1 and 2, a text counted as it arrives in pieces (SCOPE 5.11): what the end answers is what the whole text
-- has, however it is cut. In order:
--   Holds, MostOf            what the brackets of an expression hold, inward;  the most terms of one expression in it
--   MostInWords, OneMost     the definition's most is such, and no other number is
--   CountedAs, CountTable    what counting a text answers, by cases;  CountAnswers  it does, and from its table
--   OneCount                 no second answer is such
--   joined                   pieces put together
--   CutAnywhere              the end is that of the whole text;  FedAppend  a piece is fed as its parts are
--   RefusedStays             after a refusal no piece changes anything
--   CountTells               what typing the text in will answer
-- Assumes nothing.
use Rattle.std.specs.Prelude.{◌≡◌, ◌⊎◌, ◌≢◌, false, List, [], ◌∷◌, ◌++◌, ℕ, ◌+◌, ◌≤◌, ◌<◌}
use Rattle.meaning.specs.Limits.{depth_limit, terms_limit}
use Rattle.meaning.specs.Expr.{Expr, symbol, parens, terms}
use Rattle.meaning.specs.Sound.{capacity, Sound}
use Rattle.meaning.specs.Reach.{live}
use Rattle.meaning.specs.Verdicts.{Verdict, only}
use Rattle.meaning.specs.Lay.{all_terms}
use Rattle.meaning.specs.Call.{sought}
use Rattle.meaning.specs.Text.{text, Readable}
use Rattle.meaning.specs.Typed.{type_in}
use Rattle.meaning.specs.Pieces.{most_terms, Count, counts, uncounted, count_text, Pieces, fed, fed_all, no_pieces}
use Rattle.meaning.specs.Pieces.{counted}
use Rattle.promises.specs.Table.{Not, OneOf}
use Rattle.promises.specs.Reading.{MayBegin, RefusedText}

-- ---- the most terms of one expression

-- a bracket of the first expression holds the second, or one inside what it holds does
pub data Holds : Expr → Expr → Type 0 where
  here : (i r : Expr) → Holds (parens i r) i
  inward : (i r x : Expr) → Holds i x → Holds (parens i r) x
  behind_symbol : (a : ℕ) (r x : Expr) → Holds r x → Holds (symbol a r) x
  behind_bracket : (i r x : Expr) → Holds r x → Holds (parens i r) x

-- m is the most terms that any one has at its own level, e itself or what a bracket in it holds
pub record MostOf (e : Expr) (m : ℕ) : Type 0 where
  pub some : (x : Expr) × ((x ≡ e) ⊎ Holds e x) × (terms x ≡ m)
  pub own : terms e ≤ m
  pub each : (x : Expr) → Holds e x → terms x ≤ m

abbrev pub MostInWords : Type 0
MostInWords = (e : Expr) → MostOf e (most_terms e)

abbrev pub OneMost : Type 0
OneMost = (e : Expr) (m n : ℕ) → MostOf e m → MostOf e n → m ≡ n

-- ---- a text counted

-- the bytes are the text of e, which has no more terms than a text may have: its terms on all levels, and the most of
-- one expression in it; or the refusal of Reading, with 0 and 0
pub data CountedAs (bs : List ℕ) : Count → Type 0 where
  whole : (e : Expr) (m : ℕ) → Readable depth_limit e → text e ≡ bs → all_terms e ≤ terms_limit → MostOf e m
      → CountedAs bs (counts (all_terms e) m)
  refused : (v : Verdict) → RefusedText bs v → CountedAs bs (uncounted v)

pub record CountTable (bs : List ℕ) (r : Count) : Type 0 where
  pub number : OneOf r.verdict.status (0 ∷ 13 ∷ 21 ∷ 23 ∷ 24 ∷ [])
  pub says : CountedAs bs r
  -- 0 has no value, and a refusal no count; no cell is damaged
  pub done : r.verdict.status ≡ 0 → r.verdict.value ≡ 0
  pub none : r.verdict.status ≢ 0 → (r.need ≡ 0) × (r.most ≡ 0)
  pub rule : r.verdict.rule ≡ 0

abbrev pub CountAnswers : Type 0
CountAnswers = (bs : List ℕ) → CountTable bs (count_text bs)

abbrev pub OneCount : Type 0
OneCount = (bs : List ℕ) (r q : Count) → CountTable bs r → CountTable bs q → r ≡ q

-- ---- in pieces

abbrev pub joined : List (List ℕ) → List ℕ
joined [] = []
joined (x ∷ xs) = x ++ joined xs

-- however a text is cut, into pieces with bytes or without
abbrev pub CutAnywhere : Type 0
CutAnywhere = (ps : List (List ℕ)) → counted (fed_all no_pieces ps) ≡ count_text (joined ps)

-- whatever the state: one that no text leads to, too
abbrev pub FedAppend : Type 0
FedAppend = (p : Pieces) (xs ys : List ℕ) → fed p (xs ++ ys) ≡ fed (fed p xs) ys

-- where what was fed may begin no text, so that a byte of it is refused, no part of the state changes any more
abbrev pub RefusedStays : Type 0
RefusedStays = (bs cs : List ℕ) → Not (MayBegin bs) → fed (fed no_pieces bs) cs ≡ fed no_pieces bs

-- ---- what it is for

-- before anything is laid: a text that is refused is refused alike when it is typed into a register of a sound store,
-- and any other is done exactly where there is room for as many cells as it has terms
pub record Told (F : ℕ) (ws : List ℕ) (top d : ℕ) (c : Count) (v : Verdict) : Type 0 where
  pub refused : c.verdict.status ≢ 0 → v ≡ c.verdict
  pub room : c.verdict.status ≡ 0 → F + live F (sought false d ws) top + c.need ≤ capacity ws → v ≡ only 0
  pub no_room : c.verdict.status ≡ 0 → capacity ws < F + live F (sought false d ws) top + c.need → v ≡ only 16

abbrev pub CountTells : Type 0
CountTells =
    (F : ℕ) (ws : List ℕ) (top : ℕ) → Sound F ws top → (d : ℕ) → d < F → (bs : List ℕ)
    → Told F ws top d (count_text bs) (type_in F ws top d bs).verdict
