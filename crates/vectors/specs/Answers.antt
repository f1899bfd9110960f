-- The numbers that the rows show for an answer, as the definitions that give them have it. Assumes nothing.
use Rattle.std.specs.Prelude.{◌≡◌, List, ℕ, Result}
use Rattle.meaning.specs.Verdicts as meaning
use Rattle.store.specs.declared.BadLength.{BadLength}
use Rattle.store.specs.Answers.{made_in}
use Rattle.calls.specs.declared.NotRun.{NotRun}
use Rattle.calls.specs.Answers.{ran_in}
use Rattle.vectors.specs.declared.answers.Answer.{Answer}
use Rattle.vectors.specs.declared.answers.Verdict.{Verdict}

-- a verdict's status, value and rule
abbrev pub verdict_is : Verdict → meaning.Verdict
verdict_is v = record { status = v.status; value = v.value; rule = v.rule }

-- a fresh store's answer, whatever words are left
abbrev pub IsMade : Answer → Result ℕ BadLength → Type 0
IsMade r m = (ws : List ℕ) → record { verdict = verdict_is r.verdict; words = ws; top = r.top } ≡ made_in m ws

-- a batch's answer, whatever words and answers are left
abbrev pub IsRan : Answer → Result ℕ NotRun → ℕ → Type 0
IsRan r b top =
    (ws out : List ℕ)
    → record { verdict = verdict_is r.verdict; words = ws; top = r.top; answers = out } ≡ ran_in b ws top out
