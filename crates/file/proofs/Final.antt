-- The claims of specs/Unique.antt: the answer is got back from what SCOPE says of it. Assumes nothing.
use mathlib.Core.Path.{◌≡◌, refl, sym, ap, ◌∙◌}
use mathlib.Core.Bool.{cond}
use mathlib.Core.List.{List}
use Prim.Native.Nat.{ℕ}
use lib.Dec.{eqb}
use Rattle.std.specs.Prelude.{Result, Ok, Err}
use Rattle.meaning.specs.Verdicts.{Verdict, Done, on_zero}
use Rattle.meaning.specs.File as file
use Rattle.store.proofs.Refusals.{rule_of, rule_of_back, unsound_of, unsound_of_back, refusal_by}
use Rattle.store.specs.Answers.{refusal_of}
use Rattle.store.specs.declared.Unsound.{Unsound}
use Rattle.file.specs.Answers.{loaded_in, saved_in}
use Rattle.file.specs.Unique.{OneLoad, OneSave}
use Rattle.file.specs.declared.NotLoaded.{NotLoaded}
use Rattle.file.specs.declared.NotLoaded.TheVariants as not_loaded
use Rattle.file.specs.declared.NotSaved.{NotSaved}
use Rattle.file.specs.declared.NotSaved.TheVariants as not_saved
use Rattle.file.specs.declared.Saved.{Saved}

-- ---- loading

abbrev not_loaded_by : ℕ → ℕ → ℕ → NotLoaded
not_loaded_by s v q =
    cond (eqb s 3) (not_loaded.Damaged v (rule_of q))
    (cond (eqb s 30) not_loaded.ShortFile
    (cond (eqb s 31) not_loaded.BadEdition
    (cond (eqb s 32) not_loaded.BadDistance
    (cond (eqb s 33) not_loaded.BadCapacity (cond (eqb s 34) not_loaded.NotCollected not_loaded.WrongSlice)))))

abbrev loaded_of : Done → Result ℕ NotLoaded
loaded_of d = on_zero d.verdict.status (Ok d.top) (Err (not_loaded_by d.verdict.status d.verdict.value d.verdict.rule))

loaded_back : (r : Result ℕ NotLoaded) (vs : List ℕ) → loaded_of (loaded_in r vs) ≡ r
loaded_back (Ok t) vs = refl
loaded_back (Err not_loaded.ShortFile) vs = refl
loaded_back (Err not_loaded.BadEdition) vs = refl
loaded_back (Err not_loaded.BadDistance) vs = refl
loaded_back (Err not_loaded.BadCapacity) vs = refl
loaded_back (Err not_loaded.WrongSlice) vs = refl
loaded_back (Err (not_loaded.Damaged c q)) vs = rw (rule_of_back q) refl
loaded_back (Err not_loaded.NotCollected) vs = refl

pub one_load : OneLoad
one_load bs ws r r' vs vs' p q =
    let e : loaded_in r vs ≡ loaded_in r' vs' = p ∙ sym q in (
      sym (loaded_back r vs) ∙ (ap loaded_of e ∙ loaded_back r' vs'),
      ap (λ (d : Done). d.words) e,
    )

-- ---- saving

abbrev saved_by : Verdict → ℕ → ℕ → ℕ → Result Saved NotSaved
saved_by v t m s =
    on_zero s (Ok (record { top = t; length = m }))
    (Err (cond (eqb s 22) (not_saved.ShortSpace t) (not_saved.Unsound (unsound_of v))))

abbrev saved_of : file.Saved → Result Saved NotSaved
saved_of d = saved_by d.verdict d.top d.size d.verdict.status

refused_back : (v : Verdict) (t : ℕ) (u : Unsound)
    → saved_by v t 0 (refusal_of u).status ≡ Err (not_saved.Unsound (unsound_of v))
refused_back v t = refusal_by (saved_by v t 0) (Err (not_saved.Unsound (unsound_of v))) refl refl refl

saved_back : (r : Result Saved NotSaved) (vs : List ℕ) (top : ℕ) (ss : List ℕ) → saved_of (saved_in r vs top ss) ≡ r
saved_back (Ok s) vs top ss = refl
saved_back (Err (not_saved.ShortSpace t)) vs top ss = refl
saved_back (Err (not_saved.Unsound u)) vs top ss =
    refused_back (refusal_of u) top u
    ∙ ap {B = Result Saved NotSaved} (λ (w : Unsound). Err (not_saved.Unsound w)) (unsound_of_back u)

words_back : (r : Result Saved NotSaved) (vs : List ℕ) (top : ℕ) (ss : List ℕ)
    → ((saved_in r vs top ss).words ≡ vs) × ((saved_in r vs top ss).space ≡ ss)
words_back (Ok s) vs top ss = (refl, refl)
words_back (Err e) vs top ss = (refl, refl)

pub one_save : OneSave
one_save ws top out r r' vs vs' ss ss' p q =
    let e : saved_in r vs top ss ≡ saved_in r' vs' top ss' = p ∙ sym q in
    let a = words_back r vs top ss in
    let b = words_back r' vs' top ss' in (
      sym (saved_back r vs top ss) ∙ (ap saved_of e ∙ saved_back r' vs' top ss'),
      sym a.0 ∙ (ap (λ (d : file.Saved). d.words) e ∙ b.0),
      sym a.1 ∙ (ap (λ (d : file.Saved). d.space) e ∙ b.1),
    )
