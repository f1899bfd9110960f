-- Demand 3: collections never show (SCOPE 8.3, 8.4). Two sound stores of equal capacity that are alike, given lists of
-- calls and typed texts that are equal once COLLECT is struck out, each list cut into batches in its own way, none of
-- them refused: all other answers are equal, and one more collection of each makes the stores equal word for word.
-- Assumes nothing.
use Rattle.std.specs.Prelude.{◌≡◌, Bool, false, cond, List, [], ◌∷◌, ◌++◌, ℕ, ◌*◌, ◌/◌, ◌<◌, eqb, length, get_or, take}
use Rattle.meaning.specs.Sound.{Cell, code, empty, ends, at, Sound, capacity}
use Rattle.meaning.specs.Reach.{reached, live}
use Rattle.meaning.specs.Verdicts.{Verdict}
use Rattle.meaning.specs.Check.{collect_in}
use Rattle.meaning.specs.Batch.{batch}
use Rattle.meaning.specs.Typed.{type_in}
use Rattle.promises.specs.Requests.{Request, call, typed, requests, verdicts}

-- ---- alike

-- x and y are the j-th of their lists, for one j
pub record Paired (xs ys : List ℕ) (x y : ℕ) : Type 0 where
  pub j : ℕ
  pub first : j < length xs
  pub second : j < length ys
  pub here : x ≡ get_or xs j 0
  pub there : y ≡ get_or ys j 0

-- two cells have the same code, or both are empty brackets, or both have contents whose ends are paired
abbrev pub PairedCells : List ℕ → List ℕ → Cell → Cell → Type 0
PairedCells xs ys (code a) (code b) = a ≡ b
PairedCells xs ys (code a) empty = ⊥
PairedCells xs ys (code a) (ends l r) = ⊥
PairedCells xs ys empty (code b) = ⊥
PairedCells xs ys empty empty = Unit {0}
PairedCells xs ys empty (ends l r) = ⊥
PairedCells xs ys (ends l r) (code b) = ⊥
PairedCells xs ys (ends l r) empty = ⊥
PairedCells xs ys (ends l r) (ends l' r') = Paired xs ys l l' × Paired xs ys r r'

-- equally many reached cells, the k-th in each paired; registers likewise
pub record Alike (F : ℕ) (ws : List ℕ) (top : ℕ) (ws' : List ℕ) (top' : ℕ) : Type 0 where
  pub many : live F ws top ≡ live F ws' top'
  pub kth : (k : ℕ) → k < live F ws top
      → PairedCells (reached F ws top) (reached F ws' top')
      (at ws (get_or (reached F ws top) k 0)) (at ws' (get_or (reached F ws' top') k 0))
  pub registers : (i : ℕ) → i < F → PairedCells (reached F ws top) (reached F ws' top') (at ws i) (at ws' i)

-- Sound stores of equal capacity are alike exactly when collecting makes them equal, `top` and live included.
abbrev pub AlikeIsCollected : Type 0
AlikeIsCollected =
    (F : ℕ) → 0 < F → (ws : List ℕ) (top : ℕ) (ws' : List ℕ) (top' : ℕ)
    → Sound F ws top → Sound F ws' top' → capacity ws ≡ capacity ws'
    → (Alike F ws top ws' top' → collect_in F ws top ≡ collect_in F ws' top')
    × (collect_in F ws top ≡ collect_in F ws' top' → Alike F ws top ws' top')

-- ---- requests, cut into batches

-- what is lent in one go: a call list, and the answer space for it; or a text for register d
pub data Lent : Type 0 where
  calls : List ℕ → List ℕ → Lent
  text : ℕ → List ℕ → Lent

-- its requests; that it is not refused with 1 to 5, which no text is in a sound store; the store and `top` that it
-- leaves, and the answers to its requests
abbrev pub requests_in : Lent → List Request
requests_in (calls cs space) = requests cs
requests_in (text d bs) = typed d bs ∷ []

abbrev pub Accepted : ℕ → List ℕ → ℕ → Lent → Type 0
Accepted F ws top (calls cs space) = (batch F ws top cs space).verdict.status ≡ 0
Accepted F ws top (text d bs) = Unit {0}

pub record Served : Type 0 where
  pub words : List ℕ
  pub top : ℕ
  pub answers : List Verdict

abbrev pub served_by : ℕ → List ℕ → ℕ → Lent → Served
served_by F ws top (calls cs space) =
    let r = batch F ws top cs space in
    record { words = r.words; top = r.top; answers = verdicts (take (2 * (length cs / 4)) r.answers) }
served_by F ws top (text d bs) =
    let r = type_in F ws top d bs in record { words = r.words; top = r.top; answers = r.verdict ∷ [] }

-- the same of a list, each on the store that the one before left
abbrev pub requests_of : List Lent → List Request
requests_of [] = []
requests_of (b ∷ bs) = requests_in b ++ requests_of bs

abbrev pub NoneRefused : ℕ → List ℕ → ℕ → List Lent → Type 0
NoneRefused F ws top [] = Unit {0}
NoneRefused F ws top (b ∷ bs) =
    let r = served_by F ws top b in Accepted F ws top b × NoneRefused F r.words r.top bs

abbrev pub served : ℕ → List ℕ → ℕ → List Lent → Served
served F ws top [] = record { words = ws; top = top; answers = [] }
served F ws top (b ∷ bs) =
    let r = served_by F ws top b in
    let q = served F r.words r.top bs in
    record { words = q.words; top = q.top; answers = r.answers ++ q.answers }

-- ---- COLLECT struck out of a list of requests, and its answers out of theirs

-- operation word 11, whatever the other words are
abbrev pub is_collect : Request → Bool
is_collect (call o d a b) = eqb o 11
is_collect (typed d bs) = false

abbrev pub strike : List Request → List Request
strike [] = []
strike (q ∷ qs) = cond (is_collect q) (strike qs) (q ∷ strike qs)

abbrev pub strike_answers : List Request → List Verdict → List Verdict
strike_answers [] vs = []
strike_answers (q ∷ qs) [] = []
strike_answers (q ∷ qs) (v ∷ vs) = cond (is_collect q) (strike_answers qs vs) (v ∷ strike_answers qs vs)

-- ---- collections never show

pub record Unshown (F : ℕ) (bs bs' : List Lent) (q q' : Served) : Type 0 where
  -- every other answer, status and value, refusals for room included
  pub answers : strike_answers (requests_of bs) q.answers ≡ strike_answers (requests_of bs') q'.answers
  pub alike : Alike F q.words q.top q'.words q'.top
  -- one more collection is not refused, and gives equal words, `top` and live
  pub collects : (collect_in F q.words q.top).verdict.status ≡ 0
  pub equal : collect_in F q.words q.top ≡ collect_in F q'.words q'.top

abbrev pub CollectionsNeverShow : Type 0
CollectionsNeverShow =
    (F : ℕ) → 0 < F → (ws : List ℕ) (top : ℕ) (ws' : List ℕ) (top' : ℕ)
    → Sound F ws top → Sound F ws' top' → capacity ws ≡ capacity ws'
    → Alike F ws top ws' top' → (bs bs' : List Lent) → NoneRefused F ws top bs → NoneRefused F ws' top' bs'
    → strike (requests_of bs) ≡ strike (requests_of bs')
    → Unshown F bs bs' (served F ws top bs) (served F ws' top' bs')
