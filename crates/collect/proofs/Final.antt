-- The claim of specs/Unique.antt: the answer is got back from what SCOPE says of it. Assumes nothing.
use mathlib.Core.Path.{◌≡◌, refl, sym, ap, ◌∙◌}
use mathlib.Core.List.{List}
use Prim.Native.Nat.{ℕ}
use Rattle.std.specs.Prelude.{Result, Ok, Err}
use Rattle.meaning.specs.Verdicts.{Done, if_sound}
use Rattle.store.specs.declared.Unsound.{Unsound}
use Rattle.store.proofs.Refusals.{unsound_of, unsound_of_back, if_sound_refusal}
use Rattle.collect.specs.Answers.{collected_in}
use Rattle.collect.specs.Unique.{OneCollect}
use Rattle.collect.specs.declared.Collected.{Collected}

abbrev answer_of : Done → Result Collected Unsound
answer_of d = if_sound d.verdict (Ok (record { live = d.verdict.value; top = d.top })) (Err (unsound_of d.verdict))

answer_back : (r : Result Collected Unsound) (vs : List ℕ) (top : ℕ) → answer_of (collected_in r vs top) ≡ r
answer_back (Ok n) vs top = refl
answer_back (Err u) vs top = if_sound_refusal u _ _ ∙ ap Err (unsound_of_back u)

words_back : (r : Result Collected Unsound) (vs : List ℕ) (top : ℕ) → (collected_in r vs top).words ≡ vs
words_back (Ok n) vs top = refl
words_back (Err u) vs top = refl

pub one_collect : OneCollect
one_collect ws top r r' vs vs' p q =
    let e : collected_in r vs top ≡ collected_in r' vs' top = p ∙ sym q in
    let w : (collected_in r vs top).words ≡ (collected_in r' vs' top).words = ap (λ (d : Done). d.words) e in (
      sym (answer_back r vs top) ∙ ap answer_of e ∙ answer_back r' vs' top,
      sym (words_back r vs top) ∙ w ∙ words_back
          r' vs' top,
    )
