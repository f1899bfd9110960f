-- The claim of specs/Unique.antt: the answer is got back from what SCOPE says of it. Assumes nothing.
use mathlib.Core.Path.{◌≡◌, refl, sym, ap, ◌∙◌}
use mathlib.Core.Bool.{cond}
use mathlib.Core.List.{List}
use Prim.Native.Nat.{ℕ}
use lib.Dec.{ltb, eqb}
use Rattle.std.specs.Prelude.{Result, Ok, Err}
use Rattle.meaning.specs.Verdicts.{Verdict, valued, Done, on_zero}
use Rattle.store.proofs.Refusals.{unsound_of, unsound_of_back, refusal_by}
use Rattle.store.specs.Answers.{refusal_of}
use Rattle.store.specs.declared.Unsound.{Unsound}
use Rattle.reader.specs.Readers.{fault_of}
use Rattle.reader.specs.declared.judging.Fault.{Fault}
use Rattle.reader.specs.declared.judging.Fault.TheVariants as fault
use Rattle.typing.specs.Answers.{typed_in}
use Rattle.typing.specs.Unique.{OneType}
use Rattle.typing.specs.declared.NotTyped.{NotTyped}
use Rattle.typing.specs.declared.NotTyped.TheVariants as no

-- by the status s: 0, a number of the check's, 13, 16, 20, 21 and 23
abbrev bad_text : Fault → Verdict → Result ℕ NotTyped
bad_text f v = Err (no.BadText (record { fault = f; offset = v.value }))

abbrev answer_by : Verdict → ℕ → ℕ → Result ℕ NotTyped
answer_by v t s =
    on_zero s (Ok t)
    (cond (ltb s 13) (Err (no.Unsound (unsound_of v)))
    (cond (eqb s 13) (bad_text fault.NoCode v)
    (cond (eqb s 16) (Err (no.NoRoom t))
    (cond (eqb s 20) (Err no.NoRegister)
    (cond (eqb s 21) (bad_text fault.TooDeep v)
    (cond (eqb s 24) (bad_text fault.TooMany v) (bad_text fault.NotText v)))))))

abbrev answer_of : Done → Result ℕ NotTyped
answer_of x = answer_by x.verdict x.top x.verdict.status

refusal_back : (v : Verdict) (t : ℕ) (u : Unsound)
    → answer_by v t (refusal_of u).status ≡ Err (no.Unsound (unsound_of v))
refusal_back v t = refusal_by (answer_by v t) (Err (no.Unsound (unsound_of v))) refl refl refl

fault_back : (f : Fault) (at t : ℕ)
    → answer_by (valued (fault_of f) at) t (fault_of f) ≡ Err (no.BadText (record { fault = f; offset = at }))
fault_back fault.NoCode at t = refl
fault_back fault.TooDeep at t = refl
fault_back fault.NotText at t = refl
fault_back fault.TooMany at t = refl

answer_back : (r : Result ℕ NotTyped) (top : ℕ) (vs : List ℕ) → answer_of (typed_in r top vs) ≡ r
answer_back (Ok t) top vs = refl
answer_back (Err (no.Unsound u)) top vs =
    refusal_back (refusal_of u) top u ∙ ap (λ (x : Unsound). Err (no.Unsound x)) (unsound_of_back u)
answer_back (Err no.NoRegister) top vs = refl
answer_back (Err (no.BadText e)) top vs = fault_back e.fault e.offset top
answer_back (Err (no.NoRoom t)) top vs = refl

pub words_back : (r : Result ℕ NotTyped) (top : ℕ) (vs : List ℕ) → (typed_in r top vs).words ≡ vs
words_back (Ok t) top vs = refl
words_back (Err (no.Unsound u)) top vs = refl
words_back (Err no.NoRegister) top vs = refl
words_back (Err (no.BadText e)) top vs = refl
words_back (Err (no.NoRoom t)) top vs = refl

pub one_type : OneType
one_type ws top d bs r r' vs vs' p q =
    let e : typed_in r top vs ≡ typed_in r' top vs' = p ∙ sym q in
    let w : (typed_in r top vs).words ≡ (typed_in r' top vs').words = ap (λ (x : Done). x.words) e in (
      sym (answer_back r top vs) ∙ (ap answer_of e ∙ answer_back r' top vs'),
      sym (words_back r top vs) ∙ (w ∙ words_back r' top vs'),
    )
