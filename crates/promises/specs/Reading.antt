-- Demand 2, a text read (SCOPE 5.8): what is read is what was written, and a text is refused at the byte farthest to
-- the left. In order:
--   BeginsText, AreText        bytes that begin a text;  bytes that are one
--   terms_begun, TermsBegin     the terms that begin in bytes;  in a text, they are its terms on all levels
--   MayBegin                   bytes that begin a text, with no more terms than it may have
--   ReadsBack, WritesBack      what was written is read back, and what is read is written back
--   TermMayBegin               where a term may begin
--   BracketTooDeep             a bracket that may stand there but is one too many
--   TermTooMany                a term that may begin there but is one too many
--   ZeroBegins, CodeTooLarge   a 0 that begins a term;  a digit that takes a code over the limit
--   StopsWith, RefusedText     the status at a byte;  the verdict on a text that is refused
--   StopsLeftmost              every refusal is such;  OneRefusal  no text has two
-- Assumes nothing.
use Rattle.std.specs.Prelude.{◌≡◌, ◌⊎◌, true, false, cond, not, ◌&&◌, ◌||◌, List, [], ◌∷◌, ◌++◌, ℕ, suc, ◌+◌, ◌-◌, ◌*◌}
use Rattle.std.specs.Prelude.{◌≤◌, ◌<◌, eqb, length, get_or, take}
use Rattle.octets.specs.Decimal.{decimal}
use Rattle.meaning.specs.Limits.{depth_limit, terms_limit}
use Rattle.meaning.specs.Expr.{Expr}
use Rattle.meaning.specs.Sound.{IsCode}
use Rattle.meaning.specs.Verdicts.{Verdict, valued}
use Rattle.meaning.specs.Lay.{all_terms}
use Rattle.meaning.specs.Text.{text, Readable}
use Rattle.meaning.specs.Judge.{is_digit}
use Rattle.meaning.specs.Reader.{is_whole, stop_verdict, expression, reads, blank}
use Rattle.promises.specs.Table.{Not}
use Rattle.promises.specs.Printing.{OneTooMany}

-- ---- what a text is

-- the bytes p begin a text
abbrev pub BeginsText : List ℕ → Type 0
BeginsText p = (e : Expr) × (rest : List ℕ) × Readable depth_limit e × (text e ≡ p ++ rest)

-- and are one
abbrev pub AreText : List ℕ → Type 0
AreText p = (e : Expr) × Readable depth_limit e × (text e ≡ p)

-- the terms that the byte b begins behind the byte p: one at an opening bracket, and at a digit that is behind no digit
abbrev pub begun_at : ℕ → ℕ → ℕ
begun_at p b = cond (eqb b 40 || (is_digit b && not (is_digit p))) 1 0

-- those that bytes begin behind p
abbrev pub begun_behind : ℕ → List ℕ → ℕ
begun_behind p [] = 0
begun_behind p (b ∷ bs) = begun_at p b + begun_behind b bs

-- from the first byte on, which is behind no digit
abbrev pub terms_begun : List ℕ → ℕ
terms_begun bs = begun_behind 32 bs

-- in a text, a term begins for each that its expression has, on all levels
abbrev pub TermsBegin : Type 0
TermsBegin = (e : Expr) → Readable depth_limit e → terms_begun (text e) ≡ all_terms e

-- the bytes p begin a text, and no more terms begin in them than a text may have
abbrev pub MayBegin : List ℕ → Type 0
MayBegin p = BeginsText p × (terms_begun p ≤ terms_limit)

-- the text of an expression that may be read, with no more terms than a text may have, is read whole, as that
-- expression
abbrev pub ReadsBack : Type 0
ReadsBack =
    (e : Expr) → Readable depth_limit e → all_terms e ≤ terms_limit
    → (is_whole (reads blank (text e)).place ≡ true) × (expression (reads blank (text e)) ≡ e)

-- bytes that are read whole are the text of what they are read as, and it has no more terms than that
abbrev pub WritesBack : Type 0
WritesBack =
    (bs : List ℕ) → is_whole (reads blank bs).place ≡ true
    → (let e = expression (reads blank bs) in Readable depth_limit e × (all_terms e ≤ terms_limit) × (text e ≡ bs))

-- ---- where a text is refused

-- byte k is the first, or stands behind a space or an opening bracket
abbrev pub TermMayBegin : List ℕ → ℕ → Type 0
TermMayBegin bs k = (k ≡ 0) ⊎ ((get_or bs (k - 1) 0 ≡ 32) ⊎ (get_or bs (k - 1) 0 ≡ 40))

-- byte k is a bracket that may stand there but is one too many
abbrev pub BracketTooDeep : List ℕ → ℕ → Type 0
BracketTooDeep bs k = TermMayBegin bs k × OneTooMany depth_limit bs k

-- with byte k, where a term may begin, more terms have begun than a text may have
abbrev pub TermTooMany : List ℕ → ℕ → Type 0
TermTooMany bs k = TermMayBegin bs k × (terms_limit < terms_begun (take (suc k) bs))

-- byte k is a 0 that begins a term
abbrev pub ZeroBegins : List ℕ → ℕ → Type 0
ZeroBegins bs k = TermMayBegin bs k × (get_or bs k 0 ≡ 48)

-- byte k is a digit that takes a code over the limit: those before it, from `start` on, are the code
pub record CodeTooLarge (bs : List ℕ) (k : ℕ) : Type 0 where
  pub start : ℕ
  pub code : ℕ
  pub begins : TermMayBegin bs start
  pub digits : take k bs ≡ take start bs ++ decimal code
  pub is_code : IsCode code
  pub digit : (48 ≤ get_or bs k 0) × (get_or bs k 0 ≤ 57)
  pub over : Not (IsCode (10 * code + (get_or bs k 0 - 48)))

-- the status at a byte that cannot continue a text as far as it may be read: 21, then 24, then 13, then 23
pub data StopsWith (bs : List ℕ) (k : ℕ) : ℕ → Type 0 where
  deep : BracketTooDeep bs k → StopsWith bs k 21
  many : Not (BracketTooDeep bs k) → TermTooMany bs k → StopsWith bs k 24
  banned : Not (TermTooMany bs k) → ZeroBegins bs k → StopsWith bs k 13
  large : CodeTooLarge bs k → StopsWith bs k 13
  other : Not (BracketTooDeep bs k) → Not (TermTooMany bs k) → Not (ZeroBegins bs k) → Not (CodeTooLarge bs k)
      → StopsWith bs k 23

-- 23 at the length where the text ends too soon; else the first byte with which no text begins so, or one term too many
-- does, and its status
pub data RefusedText (bs : List ℕ) : Verdict → Type 0 where
  ends_too_soon : MayBegin bs → Not (AreText bs) → RefusedText bs (valued 23 (length bs))
  stops_at : (k s : ℕ) → k < length bs → MayBegin (take k bs) → Not (MayBegin (take (suc k) bs)) → StopsWith bs k s
      → RefusedText bs (valued s k)

abbrev pub StopsLeftmost : Type 0
StopsLeftmost =
    (bs : List ℕ) → is_whole (reads blank bs).place ≡ false → RefusedText bs (stop_verdict (reads blank bs).place)

abbrev pub OneRefusal : Type 0
OneRefusal = (bs : List ℕ) (v w : Verdict) → RefusedText bs v → RefusedText bs w → v ≡ w
