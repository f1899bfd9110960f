-- Demands 1 and 2, a text typed into register d (SCOPE 5.8; 8.1, 8.2): its status and value by cases, what it does to
-- the registers and the cells, and every answer from its table. In order:
--   said, Whole              the expression that a text denotes, and that it is whole
--   TypedAs                  the status and value in a sound store, by what comes first
--   LeavesText               the cells of a text that is laid
--   TypedIn, TypesDo         a text typed into a sound store
--   TypeTable, TypeAnswers   into any words
-- Assumes nothing.
use Rattle.std.specs.Prelude.{◌≡◌, ◌≢◌, true, false, List, [], ◌∷◌, ℕ, ◌+◌, ◌≤◌, ◌<◌, length, get_or}
use Rattle.meaning.specs.Expr.{Expr, terms}
use Rattle.meaning.specs.Sound.{empty, at, capacity, Sound}
use Rattle.meaning.specs.Meaning.{meaning}
use Rattle.meaning.specs.Reach.{live}
use Rattle.meaning.specs.Collected.{collected}
use Rattle.meaning.specs.Verdicts.{Verdict, only, Done}
use Rattle.meaning.specs.Lay.{all_terms, last_below, laid}
use Rattle.meaning.specs.Call.{sought}
use Rattle.meaning.specs.Effect.{typing, after}
use Rattle.meaning.specs.Reader.{reads, blank, is_whole, expression}
use Rattle.meaning.specs.Typed.{type_in}
use Rattle.promises.specs.Table.{OneOf, Not, Judged}
use Rattle.promises.specs.Cells.{OnlyThere, laid_on, laid_from}
use Rattle.promises.specs.Reading.{RefusedText}

-- ---- the text

-- what it says, where it is whole: then bs is the text of that expression (`WritesBack` of Reading)
abbrev pub said : List ℕ → Expr
said bs = expression (reads blank bs)

abbrev pub Whole : List ℕ → Type 0
Whole bs = is_whole (reads blank bs).place ≡ true

-- ---- the status and value in a sound store

-- 20, then the text's refusal with the offset of its byte (Reading), then 16 exactly when F + live + a cell for each
-- term on all levels exceeds the capacity, where live is taken with d empty (`texts` of Room); else 0
pub data TypedAs (F : ℕ) (ws : List ℕ) (top d : ℕ) (bs : List ℕ) : Verdict → Type 0 where
  no_register : F ≤ d → TypedAs F ws top d bs (only 20)
  no_text : (v : Verdict) → d < F → Not (Whole bs) → RefusedText bs v → TypedAs F ws top d bs v
  no_room : d < F → Whole bs → capacity ws < F + live F (sought false d ws) top + all_terms (said bs)
      → TypedAs F ws top d bs (only 16)
  has_room : d < F → Whole bs → F + live F (sought false d ws) top + all_terms (said bs) ≤ capacity ws
      → TypedAs F ws top d bs (only 0)

-- ---- the cells

-- v is what the expression e, laid from cell t of the store w on, with register d set to its own terms, leaves of w
pub record LeavesText (d : ℕ) (e : Expr) (w : List ℕ) (t : ℕ) (v : List ℕ) : Type 0 where
  pub others : OnlyThere d t (all_terms e) w v
  pub sets : at v d ≡ last_below (t + all_terms e) (terms e)
  pub lays : (j : ℕ) → j < all_terms e → at v (t + j) ≡ get_or (laid t e) j empty

-- the store in which the text is laid, and its `top`
abbrev pub typed_on : ℕ → List ℕ → ℕ → ℕ → List ℕ → List ℕ
typed_on F ws top d bs = laid_on F (all_terms (said bs)) (sought false d ws) ws top

abbrev pub typed_from : ℕ → List ℕ → ℕ → ℕ → List ℕ → ℕ
typed_from F ws top d bs = laid_from F (all_terms (said bs)) (sought false d ws) ws top

-- ---- a text typed into a sound store

-- r is what the text bs, typed into register d, does in the store ws
pub record TypedIn (F : ℕ) (ws : List ℕ) (top d : ℕ) (bs : List ℕ) (r : Done) : Type 0 where
  pub says : TypedAs F ws top d bs r.verdict
  -- done: d denotes what the text says; no other register changes, and none where the text is refused
  pub registers : (i : ℕ) → i < F
      → meaning r.words i ≡ after r.verdict.status (typing (meaning ws) d (said bs)) (meaning ws) i
  -- done: d's cell and the new cells change, laid from the `top` of the store in which room is found, and no other cell
  pub done_top : r.verdict.status ≡ 0 → r.top ≡ typed_from F ws top d bs + all_terms (said bs)
  pub done_words : r.verdict.status ≡ 0
      → LeavesText d (said bs) (typed_on F ws top d bs) (typed_from F ws top d bs) r.words
  -- a text of no terms never collects
  pub no_need : r.verdict.status ≡ 0 → all_terms (said bs) ≡ 0 → (r.top ≡ top) × OnlyThere d top 0 ws r.words
  -- 16 leaves the store collected, any other refusal leaves it as it was
  pub full : r.verdict.status ≡ 16 → (r.words ≡ collected F ws top) × (r.top ≡ F + live F ws top)
  pub refused : r.verdict.status ≢ 0 → r.verdict.status ≢ 16 → (r.words ≡ ws) × (r.top ≡ top)
  pub sound : Sound F r.words r.top
  pub len : length r.words ≡ length ws

abbrev pub TypesDo : Type 0
TypesDo =
    (F : ℕ) (ws : List ℕ) (top : ℕ) → Sound F ws top → (d : ℕ) (bs : List ℕ)
    → TypedIn F ws top d bs (type_in F ws top d bs)

-- ---- into any words

pub record TypeTable (F : ℕ) (ws : List ℕ) (top d : ℕ) (bs : List ℕ) (r : Done) : Type 0 where
  pub number : OneOf r.verdict.status (0 ∷ 1 ∷ 2 ∷ 3 ∷ 13 ∷ 16 ∷ 20 ∷ 21 ∷ 23 ∷ 24 ∷ [])
  -- 3 has a cell for its value, 13, 21, 23 and 24 an offset
  pub value : OneOf r.verdict.status (0 ∷ 1 ∷ 2 ∷ 16 ∷ 20 ∷ []) → r.verdict.value ≡ 0
  pub rule : r.verdict.status ≢ 3 → r.verdict.rule ≡ 0
  pub types : Sound F ws top → TypedIn F ws top d bs r
  pub unsound : Not (Sound F ws top)
      → Judged F ws top r.verdict × (r.verdict.status ≢ 0) × (r.words ≡ ws) × (r.top ≡ top)

abbrev pub TypeAnswers : Type 0
TypeAnswers = (F : ℕ) (ws : List ℕ) (top d : ℕ) (bs : List ℕ) → TypeTable F ws top d bs (type_in F ws top d bs)
