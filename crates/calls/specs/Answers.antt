-- One call's answer and a batch's, as the definitions have them: SCOPE's number and values for each case
-- (4.5, 4.6, 5.1).
-- Assumes nothing.
use Rattle.std.specs.Prelude.{◌≡◌, ◌≢◌, List, [], ◌∷◌, ℕ, Result, Ok, Err, MatchResult}
use Rattle.meaning.specs.Limits.{first_heap_cell}
use Rattle.meaning.specs.Sound.{Cell, size}
use Rattle.meaning.specs.Verdicts.{Verdict, Done, done, refused, only}
use Rattle.meaning.specs.Batch.{Outcome, as_lent, batch}
use Rattle.store.specs.Answers.{refusal_of}
use Rattle.store.specs.Holds.{RunIs}
use Rattle.store.specs.declared.Run.{Run}
use Rattle.build.specs.Room.{RoomMade}
use Rattle.calls.specs.Refusals.{status_of}
use Rattle.calls.specs.declared.NotRun.{NotRun}
use Rattle.calls.specs.declared.NotRun.TheVariants as not_run
use Rattle.calls.specs.declared.answer.Refusal.{Refusal}
use Rattle.calls.specs.declared.answer.Refusal.TheVariants.{Empty, NoRoom}

-- ---- one call

-- its answer, with the words and `top` that it leaves
abbrev pub answered : Result ℕ Refusal → List ℕ → ℕ → Done
answered (Ok value) ws top = done ws top value
answered (Err why) ws top = refused ws top (only (status_of why))

-- the same of a call that leaves `top`, whatever this is
abbrev pub AtAnyTop : Result ℕ Refusal → List ℕ → (ℕ → Done) → Type 0
AtAnyTop r ws does = (top : ℕ) → answered r ws top ≡ does top

-- its two answer words
abbrev pub Written : Result ℕ Refusal → List ℕ → Type 0
Written r words = words ≡ (answered r [] 0).verdict.status ∷ (answered r [] 0).verdict.value ∷ []

-- the cells of the bracket p, or the refusal of a register that has none
abbrev pub HasTerms : Cell → Result Run Refusal → Type 0
HasTerms p r = MatchResult r (λ terms. (terms.size ≢ 0) × RunIs terms p) (λ why. (why ≡ Empty) × (size p ≡ 0))

-- room for n new cells sought in v, from t on; or the refusal, with t for the collected store's `top`
abbrev pub Roomed : ℕ → List ℕ → List ℕ → ℕ → Result (Unit {0}) Refusal → List ℕ → ℕ → Type 0
Roomed n v ws top r ws' t =
    MatchResult r (λ u. RoomMade n v ws top (Ok t) ws')
    (λ why. (why ≡ NoRoom) × RoomMade n v ws top (Err (record { top = t })) ws')

-- ---- a batch

-- refused: as the check refuses the store, or with 4 or 5
abbrev pub not_run_of : NotRun → Verdict
not_run_of (not_run.Unsound u) = refusal_of u
not_run_of not_run.BadCalls = only 4
not_run_of not_run.ShortAnswers = only 5

-- run to its end, with the new `top`; or refused, with the words and the answers as they are, and `top` as it came
abbrev pub ran_in : Result ℕ NotRun → List ℕ → ℕ → List ℕ → Outcome
ran_in (Ok t) ws top out = record { verdict = only 0; words = ws; top = t; answers = out }
ran_in (Err e) ws top out = as_lent (not_run_of e) ws top out

-- what `run` promises, of its answer and the words vs and answers os that it leaves
abbrev pub Runs : List ℕ → ℕ → List ℕ → List ℕ → Result ℕ NotRun → List ℕ → List ℕ → Type 0
Runs ws top calls out r vs os = ran_in r vs top os ≡ batch first_heap_cell ws top calls out
