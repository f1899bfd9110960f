-- SCOPE's number and values for each case of collecting's answer (5.4).
-- Assumes nothing.
use Rattle.std.specs.Prelude.{◌≡◌, Result, Ok, Err, List, ℕ}
use Rattle.meaning.specs.Limits.{first_heap_cell}
use Rattle.meaning.specs.Verdicts.{Done, done, refused}
use Rattle.meaning.specs.Check.{collect_in}
use Rattle.store.specs.Answers.{refusal_of}
use Rattle.store.specs.declared.Unsound.{Unsound}
use Rattle.collect.specs.declared.Collected.{Collected}

-- 0 with live and the new `top`, or the check's refusal with `top` as it came; and the words that are left
abbrev pub collected_in : Result Collected Unsound → List ℕ → ℕ → Done
collected_in (Ok r) ws top = done ws r.top r.live
collected_in (Err u) ws top = refused ws top (refusal_of u)

-- what `collect` promises, of its answer and the words vs that it leaves
abbrev pub Collects : List ℕ → ℕ → Result Collected Unsound → List ℕ → Type 0
Collects ws top r vs = collected_in r vs top ≡ collect_in first_heap_cell ws top
