-- Demand 3 of the code (SCOPE 8.3): two sound stores of equal capacity that are alike, each with a history of its own:
-- batches by `calls::run`, none of them refused, texts by `typing::type_in`, and collections by `collect::collect`
-- anywhere between them. Each step is known only by what the function's contract promises. Where the calls and texts
-- are equal once COLLECT is struck out, so are the answers, and one more `collect::collect` of each leaves the same
-- words, `top` and live. That a store is sound is what `store::check` says (`CheckMeets`). Assumes nothing.
use Rattle.std.specs.Prelude.{◌≡◌, List, [], ◌∷◌, ◌++◌, ℕ, ◌*◌, ◌/◌, length, take, Result, Ok}
use Rattle.meaning.specs.Limits.{first_heap_cell}
use Rattle.meaning.specs.Sound.{Sound, capacity}
use Rattle.meaning.specs.Verdicts.{Verdict}
use Rattle.store.specs.declared.Unsound.{Unsound}
use Rattle.collect.specs.declared.Collected.{Collected}
use Rattle.typing.specs.declared.NotTyped.{NotTyped}
use Rattle.promises.specs.Requests.{Request, typed, requests, verdicts}
use Rattle.promises.specs.Alike.{Alike, strike, strike_answers}
use Rattle.store.specs.Answers.{Makes}
use Rattle.collect.specs.Answers.{Collects}
use Rattle.calls.specs.Answers.{Runs}
use Rattle.typing.specs.Answers.{typed_in, Types}

-- ---- a history

pub data Step : Type 0 where
  -- a batch: the call list and the answer space lent; it ended with this `top`, and left these words and answers
  run : List ℕ → List ℕ → ℕ → List ℕ → List ℕ → Step
  -- a text typed in: the register and the bytes lent; it was answered so, done or refused, with this `top`, and left
  -- these words
  type : ℕ → List ℕ → Result ℕ NotTyped → ℕ → List ℕ → Step
  -- a collection: done with this live and this `top`, and left these words
  collect : ℕ → ℕ → List ℕ → Step

-- Each step did as its function promises, on the words and the `top` that the one before left. A text's answer tells
-- its `top`: where none stands in it, it is the one lent.
abbrev pub Happened : List ℕ → ℕ → List Step → Type 0
Happened ws top [] = Unit {0}
Happened ws top (run cs out t v a ∷ hs) = Runs ws top cs out (Ok t) v a × Happened v t hs
Happened ws top (type d bs r t v ∷ hs) = Types ws top d bs r v × ((typed_in r top v).top ≡ t) × Happened v t hs
Happened ws top (collect n t v ∷ hs) = Collects ws top (Ok (record { live = n; top = t })) v × Happened v t hs

-- what was asked in all batches, call by call, and in texts; and what was answered: the first two words for each call
-- of a batch, and the numbers of a text's answer
abbrev pub asked : List Step → List Request
asked [] = []
asked (run cs out t v a ∷ hs) = requests cs ++ asked hs
asked (type d bs r t v ∷ hs) = typed d bs ∷ asked hs
asked (collect n t v ∷ hs) = asked hs

abbrev pub answered : List Step → List Verdict
answered [] = []
answered (run cs out t v a ∷ hs) = verdicts (take (2 * (length cs / 4)) a) ++ answered hs
answered (type d bs r t v ∷ hs) = (typed_in r t v).verdict ∷ answered hs
answered (collect n t v ∷ hs) = answered hs

-- the words and the `top` that are left in the end
abbrev pub words_after : List ℕ → List Step → List ℕ
words_after ws [] = ws
words_after ws (run cs out t v a ∷ hs) = words_after v hs
words_after ws (type d bs r t v ∷ hs) = words_after v hs
words_after ws (collect n t v ∷ hs) = words_after v hs

abbrev pub top_after : ℕ → List Step → ℕ
top_after top [] = top
top_after top (run cs out t v a ∷ hs) = top_after t hs
top_after top (type d bs r t v ∷ hs) = top_after t hs
top_after top (collect n t v ∷ hs) = top_after t hs

-- ---- two histories

-- one more collection of each, whatever it returns and leaves: it is not refused, and both return and leave the same
abbrev pub SameCollected : List ℕ → ℕ → List ℕ → ℕ → Type 0
SameCollected ws top ws' top' =
    (r r' : Result Collected Unsound) (v v' : List ℕ) → Collects ws top r v → Collects ws' top' r' v'
    → ((n : ℕ) × (t : ℕ) × (r ≡ Ok (record { live = n; top = t }))) × (r ≡ r') × (v ≡ v')

-- what does not show of two histories
pub record Unseen (ws : List ℕ) (top : ℕ) (hs : List Step) (ws' : List ℕ) (top' : ℕ) (hs' : List Step) : Type 0 where
  pub answers : strike_answers (asked hs) (answered hs) ≡ strike_answers (asked hs') (answered hs')
  pub alike : Alike first_heap_cell (words_after ws hs) (top_after top hs) (words_after ws' hs') (top_after top' hs')
  pub equal : SameCollected (words_after ws hs) (top_after top hs) (words_after ws' hs') (top_after top' hs')

abbrev pub RunsNeverShow : Type 0
RunsNeverShow =
    (ws : List ℕ) (top : ℕ) (ws' : List ℕ) (top' : ℕ)
    → Sound first_heap_cell ws top → Sound first_heap_cell ws' top' → capacity ws ≡ capacity ws'
    → Alike first_heap_cell ws top ws' top'
    → (hs hs' : List Step) → Happened ws top hs → Happened ws' top' hs' → strike (asked hs) ≡ strike (asked hs')
    → Unseen ws top hs ws' top' hs'

-- The same with contracts alone for premises: each store is made by `store::fresh`, in slices of equal length.
abbrev pub FreshRunsNeverShow : Type 0
FreshRunsNeverShow =
    (ws ws' : List ℕ) → length ws ≡ length ws' → (top top' : ℕ) (v v' : List ℕ)
    → Makes ws (Ok top) v → Makes ws' (Ok top') v'
    → (hs hs' : List Step) → Happened v top hs → Happened v' top' hs' → strike (asked hs) ≡ strike (asked hs')
    → Unseen v top hs v' top' hs'
