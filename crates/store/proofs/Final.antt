-- The claims of specs/Unique.antt. Each answer is got back from what SCOPE says of it, by a function on the left
-- of its statement.
-- Assumes nothing.
use mathlib.Core.Path.{◌≡◌, refl, sym, ap, ◌∙◌}
use mathlib.Core.List.{List}
use Rattle.std.specs.Prelude.{Result, Ok, Err}
use Prim.Native.Nat.{ℕ, ◌-◌}
use lib.ListN.{take, drop}
use Rattle.meaning.specs.Verdicts.{Verdict, Done, on_zero, if_sound}
use Rattle.meaning.specs.Look.{Span, look}
use Rattle.store.specs.Answers.{verdict_of, made_in}
use Rattle.store.specs.Unique.{VerdictsDiffer, OneCheck, OneFresh, OneSpan, OneLook, LookAtSpan}
use Rattle.store.specs.declared.Unsound.{Unsound}
use Rattle.store.specs.declared.BadLength.{BadLength}
use Rattle.store.specs.declared.Span as span
use Rattle.store.proofs.Refusals.{unsound_of, unsound_of_back, if_sound_refusal}

abbrev checked_of : Verdict → Result (Unit {0}) Unsound
checked_of v = if_sound v (Ok tt) (Err (unsound_of v))

checked_back : (r : Result (Unit {0}) Unsound) → checked_of (verdict_of r) ≡ r
checked_back (Ok s) = refl
checked_back (Err u) = if_sound_refusal u _ _ ∙ ap Err (unsound_of_back u)

pub verdicts_differ : VerdictsDiffer
verdicts_differ r r' e = sym (checked_back r) ∙ ap checked_of e ∙ checked_back r'

pub one_check : OneCheck
one_check ws top r r' p q = verdicts_differ r r' (p ∙ sym q)

abbrev made_of : Done → Result ℕ BadLength
made_of d = on_zero d.verdict.status (Ok d.top) (Err (record {}))

made_back : (r : Result ℕ BadLength) (vs : List ℕ) → made_of (made_in r vs) ≡ r
made_back (Ok t) vs = refl
made_back (Err e) vs = refl

words_back : (r : Result ℕ BadLength) (vs : List ℕ) → (made_in r vs).words ≡ vs
words_back (Ok t) vs = refl
words_back (Err e) vs = refl

pub one_fresh : OneFresh
one_fresh ws r r' vs vs' p q =
    let e : made_in r vs ≡ made_in r' vs' = p ∙ sym q in
    let w : (made_in r vs).words ≡ (made_in r' vs').words = ap (λ (d : Done). d.words) e in
    (sym (made_back r vs) ∙ ap made_of e ∙ made_back r' vs', sym (words_back r vs) ∙ w ∙ words_back r' vs')

abbrev span_from : Span → span.Span
span_from s = record { from = s.from; to = s.to }

pub one_span : OneSpan
one_span ws top i r r' p q = ap span_from (p.0 ∙ sym q.0)

pub one_look : OneLook
one_look ws top i r r' p q =
    let b : r.ref_ptr.0 ≡ r'.ref_ptr.0 = p.1.0 ∙ sym q.1.0 in
    let o : r.ref_ptr.1 ≡ r'.ref_ptr.1 = p.1.1 ∙ sym q.1.1 in
    (p.0 ∙ sym q.0, λ j. (b j, o j))

pub look_at_span : LookAtSpan
unfolding look
look_at_span ws top i r p = ap (λ (s : Span). take (s.to - s.from) (drop s.from ws)) (sym p.0)
