-- What came of a batch is read off its outcome. Assumes nothing.
use Rattle.std.specs.Prelude.{Result, Ok, Err}
use mathlib.Core.Path.{◌≡◌, refl, sym, ap, ◌∙◌}
use mathlib.Core.List.{List}
use Prim.Native.Nat.{ℕ, zero, suc, ◌-◌}
use Rattle.meaning.specs.Verdicts.{on_zero}
use Rattle.meaning.specs.Batch.{Outcome}
use Rattle.store.specs.Answers.{refusal_of}
use Rattle.store.specs.declared.Unsound.{Unsound}
use Rattle.store.proofs.Refusals.{unsound_of, unsound_of_back, refusal_by}
use Rattle.calls.specs.Answers.{ran_in}
use Rattle.calls.specs.declared.NotRun.{NotRun}
use Rattle.calls.specs.declared.NotRun.TheVariants as not_run

-- refused, by the status less 3: an unsound store, 4 or 5
abbrev refused_by : ℕ → Unsound → NotRun
refused_by zero u = not_run.Unsound u
refused_by (suc zero) u = not_run.BadCalls
refused_by (suc (suc s)) u = not_run.ShortAnswers

-- by the status
abbrev ran_by : ℕ → ℕ → Unsound → Result ℕ NotRun
ran_by s t u = on_zero s (Ok t) (Err (refused_by (s - 3) u))

abbrev ran_of : Outcome → Result ℕ NotRun
ran_of o = ran_by o.verdict.status o.top (unsound_of o.verdict)

refused_back : (t : ℕ) (u : Unsound)
    → ran_by (refusal_of u).status t (unsound_of (refusal_of u)) ≡ Err (not_run.Unsound u)
refused_back t u =
    refusal_by (λ (s : ℕ). ran_by s t (unsound_of (refusal_of u))) (Err (not_run.Unsound (unsound_of (refusal_of u))))
    refl refl refl u
    ∙ ap (λ (x : Unsound). Err (not_run.Unsound x)) (unsound_of_back u)

back : (ws : List ℕ) (top : ℕ) (out : List ℕ) (r : Result ℕ NotRun)
    → (ran_of (ran_in r ws top out) ≡ r) × ((ran_in r ws top out).words ≡ ws) × ((ran_in r ws top out).answers ≡ out)
back ws top out (Ok t) = (refl, refl, refl)
back ws top out (Err (not_run.Unsound u)) = (refused_back top u, refl, refl)
back ws top out (Err not_run.BadCalls) = (refl, refl, refl)
back ws top out (Err not_run.ShortAnswers) = (refl, refl, refl)

-- one outcome is of one answer, one store and one list of answers
pub ran_in_inj : (top : ℕ) (r r' : Result ℕ NotRun) (v v' a a' : List ℕ) → ran_in r v top a ≡ ran_in r' v' top a'
    → (r ≡ r') × (v ≡ v') × (a ≡ a')
ran_in_inj top r r' v v' a a' e =
    let x = back v top a r in
    let y = back v' top a' r' in (
      sym x.0 ∙ (ap ran_of e ∙ y.0),
      sym x.1 ∙ (ap (λ (o : Outcome). o.words) e ∙ y.1),
      sym x.2 ∙ (ap (λ (o : Outcome). o.answers) e ∙ y.2),
    )
