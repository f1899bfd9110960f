-- The claim of specs/Unique.antt: the answer is got back from what SCOPE says of it. Assumes nothing.
use mathlib.Core.Path.{◌≡◌, refl, sym, ap, ◌∙◌}
use mathlib.Core.Bool.{cond}
use mathlib.Core.List.{List}
use Prim.Native.Nat.{ℕ}
use Rattle.std.specs.Prelude.{Result, Ok, Err}
use lib.Dec.{ltb, eqb}
use Rattle.meaning.specs.Verdicts.{Verdict, on_zero}
use Rattle.meaning.specs.Text as text
use Rattle.store.proofs.Refusals.{unsound_of, unsound_of_back, refusal_by}
use Rattle.store.specs.Answers.{refusal_of}
use Rattle.store.specs.declared.Unsound.{Unsound}
use Rattle.text.specs.Answers.{printed_in}
use Rattle.text.specs.Unique.{OnePrint}
use Rattle.text.specs.declared.NoText.{NoText}
use Rattle.text.specs.declared.NoText.TheVariants as no_text

-- by the status s: 0, a number of the check's, or 20, 21 and 22
abbrev answer_by : Verdict → ℕ → ℕ → Result ℕ NoText
answer_by v n s =
    on_zero s (Ok n)
    (cond (ltb s 20) (Err (no_text.Unsound (unsound_of v)))
    (cond (eqb s 20) (Err no_text.NoRegister) (cond (eqb s 21) (Err no_text.TooDeep) (Err no_text.ShortSpace))))

abbrev answer_of : text.Printed → Result ℕ NoText
answer_of p = answer_by p.verdict p.size p.verdict.status

refusal_back : (v : Verdict) (u : Unsound)
    → answer_by v 0 (refusal_of u).status ≡ Err (no_text.Unsound (unsound_of v))
refusal_back v = refusal_by (answer_by v 0) (Err (no_text.Unsound (unsound_of v))) refl refl refl

abbrev answer_none : NoText → Result ℕ NoText
answer_none why = Err why

answer_back : (r : Result ℕ NoText) (vs : List ℕ) → answer_of (printed_in r vs) ≡ r
answer_back (Ok n) vs = refl
answer_back (Err (no_text.Unsound u)) vs =
    refusal_back (refusal_of u) u ∙ ap (λ (x : Unsound). answer_none (no_text.Unsound x)) (unsound_of_back u)
answer_back (Err no_text.NoRegister) vs = refl
answer_back (Err no_text.TooDeep) vs = refl
answer_back (Err no_text.ShortSpace) vs = refl

space_back : (r : Result ℕ NoText) (vs : List ℕ) → (printed_in r vs).space ≡ vs
space_back (Ok n) vs = refl
space_back (Err why) vs = refl

pub one_print : OnePrint
one_print ws top i out r r' vs vs' p q =
    let e : printed_in r vs ≡ printed_in r' vs' = p ∙ sym q in
    let w : (printed_in r vs).space ≡ (printed_in r' vs').space = ap (λ (x : text.Printed). x.space) e in (
      sym (answer_back r vs) ∙ (ap answer_of e ∙ answer_back r' vs'),
      sym (space_back r vs) ∙ (w ∙ space_back r' vs'),
    )
