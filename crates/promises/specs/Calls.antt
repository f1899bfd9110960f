-- Demand 2, calls: on a sound store each call, whatever its four words are, does to the registers what it says of
-- expressions, with the status, the value, the `top` and the words that SCOPE gives it (4.1 to 4.6, 5.6;
-- 8.2). Assumes nothing.
use Rattle.std.specs.Prelude.{◌≡◌, ◌≢◌, Bool, false, cond, List, [], ◌∷◌, ◌++◌, ℕ, ◌+◌, ◌-◌, ◌*◌, ◌≤◌, ◌<◌, ltb, length}
use Rattle.std.specs.Prelude.{replicate}
use Rattle.meaning.specs.Sound.{capacity, Sound}
use Rattle.meaning.specs.Meaning.{meaning}
use Rattle.meaning.specs.Reach.{live}
use Rattle.meaning.specs.Collected.{collected}
use Rattle.meaning.specs.Verdicts.{Verdict, Done}
use Rattle.meaning.specs.Operands.{op_at}
use Rattle.meaning.specs.Call.{sought_by, step}
use Rattle.meaning.specs.Effect.{effect, live_for_room, call_status, after, answer}
use Rattle.meaning.specs.Batch.{Outcome, batch}
use Rattle.promises.specs.OwnWords.{OwnFault}
use Rattle.promises.specs.Cells.{OnlyThere, Leaves, laid_on, laid_from}
use Rattle.promises.specs.Requests.{Request, call, typed, requests, in_words}
use Rattle.promises.specs.Typing.{TypedIn}

-- ---- room for the n new cells that the call needs

-- there is none: F + live + n exceeds the capacity; live is taken in the store in which room is sought (Room)
abbrev pub lacking : ℕ → List ℕ → ℕ → ℕ → ℕ → ℕ → ℕ → ℕ → Bool
lacking F ws top o d a b n = ltb (capacity ws) (F + live_for_room F ws top o d a b + n)

-- The store in which the call acts, and its `top`: collected by a call that collects without need, else by its room
abbrev pub acted_on : ℕ → List ℕ → ℕ → ℕ → ℕ → ℕ → ℕ → ℕ → List ℕ
acted_on F ws top o d a b n =
    cond (effect F ws top o d a b).collects (collected F ws top)
    (laid_on F n (sought_by (op_at o) d a b ws) ws top)

abbrev pub acted_top : ℕ → List ℕ → ℕ → ℕ → ℕ → ℕ → ℕ → ℕ → ℕ
acted_top F ws top o d a b n =
    cond (effect F ws top o d a b).collects (F + live F ws top)
    (laid_from F n (sought_by (op_at o) d a b ws) ws top)

-- ---- one call

-- r is what the call o d a b does in the store ws, with n the new cells that it needs
pub record Called (F : ℕ) (ws : List ℕ) (top o d a b n : ℕ) (r : Done) : Type 0 where
  -- what is wrong with its own words: 10 to 13, or 0
  pub wrong : ℕ
  pub own : OwnFault F o d a b wrong
  -- the first status that applies, of 10 to 16, else 0; the value and the registers' expressions by the effect
  pub status : r.verdict.status ≡ call_status wrong (effect F ws top o d a b) (lacking F ws top o d a b n)
  pub value : r.verdict.value ≡ answer r.verdict.status (effect F ws top o d a b)
  pub rule : r.verdict.rule ≡ 0
  pub registers : (i : ℕ) → i < F
      → meaning r.words i ≡ after r.verdict.status (effect F ws top o d a b) (meaning ws) i
  -- a call whose words and operands are right is refused for room exactly when F + live + need exceeds the capacity
  pub no_room : wrong ≡ 0 → (effect F ws top o d a b).unfit ≡ 0
      → (r.verdict.status ≡ 16 → capacity ws < F + live_for_room F ws top o d a b + n)
      × (capacity ws < F + live_for_room F ws top o d a b + n → r.verdict.status ≡ 16)
  -- done: d's cell and the new cells, laid from the `top` of the store in which it acts, and no other cell changes
  pub done_top : r.verdict.status ≡ 0 → r.top ≡ acted_top F ws top o d a b n + n
  pub done_words : r.verdict.status ≡ 0
      → Leaves o d a b n (acted_on F ws top o d a b n) (acted_top F ws top o d a b n) r.words
  -- LENGTH, FIRST, LIVE and COLLECT change no register's words
  pub asked : r.verdict.status ≡ 0 → 8 ≤ o → r.words ≡ acted_on F ws top o d a b n
  -- a call without need never collects, COLLECT apart
  pub no_need : r.verdict.status ≡ 0 → (effect F ws top o d a b).collects ≡ false → n ≡ 0
      → (r.top ≡ top) × OnlyThere d top 0 ws r.words
  -- 16 leaves the store collected, 10 to 15 leave it as it was
  pub full : r.verdict.status ≡ 16 → (r.words ≡ collected F ws top) × (r.top ≡ F + live F ws top)
  pub refused : r.verdict.status ≢ 0 → r.verdict.status ≢ 16 → (r.words ≡ ws) × (r.top ≡ top)
  pub sound : Sound F r.words r.top
  pub len : length r.words ≡ length ws

abbrev pub CallsDo : Type 0
CallsDo =
    (F : ℕ) → 0 < F → (ws : List ℕ) (top : ℕ) → Sound F ws top → (o d a b : ℕ)
    → Called F ws top o d a b (effect F ws top o d a b).need (step F ws top o d a b)

-- ---- a batch answers request by request: a status and a value each, in order; words after those are zero

-- r is what the request does in the store ws
abbrev pub Did : ℕ → List ℕ → ℕ → Request → Done → Type 0
Did F ws top (call o d a b) r = Called F ws top o d a b (effect F ws top o d a b).need r
Did F ws top (typed d bs) r = TypedIn F ws top d bs r

pub data Answered (F : ℕ) : List ℕ → ℕ → List Request → List Verdict → List ℕ → ℕ → Type 0 where
  none : {ws : List ℕ} {top : ℕ} → Answered F ws top [] [] ws top
  next : {ws : List ℕ} {top : ℕ} {q : Request} {qs : List Request} {said : List Verdict} {v : List ℕ} {t : ℕ} (r : Done)
      → Did F ws top q r → Answered F r.words r.top qs said v t
      → Answered F ws top (q ∷ qs) (r.verdict ∷ said) v t

pub record BatchRun (F : ℕ) (ws : List ℕ) (top : ℕ) (calls out : List ℕ) (r : Outcome) : Type 0 where
  pub said : List Verdict
  pub answered : Answered F ws top (requests calls) said r.words r.top
  pub many : length calls ≡ 4 * length said
  pub answers : r.answers ≡ in_words said ++ replicate (length out - length (in_words said)) 0

abbrev pub BatchesRun : Type 0
BatchesRun =
    (F : ℕ) → 0 < F → (ws : List ℕ) (top : ℕ) (calls out : List ℕ) → (batch F ws top calls out).verdict.status ≡ 0
    → BatchRun F ws top calls out (batch F ws top calls out)
