-- Lists of requests, run one after the other: a call list is run as its requests are, and a list may be cut anywhere.
-- In order:
--   ran, ran_words                     what a list of requests leaves and answers, and the same as a batch has it
--   runs_ran                          a call list is run as its requests are
--   ran_cut                           a list cut anywhere
--   ran_length                        an answer to each request
--   requests_length, in_words_length   four words a call, two an answer
--   verdicts_ran                      answers written as words are read as those answers
-- Assumes nothing.
use mathlib.Core.Path.{◌≡◌, refl, sym, ap, ap₂}
use mathlib.Core.List.{List, [], ◌∷◌, ◌++◌}
use Prim.Native.Nat.{ℕ, suc, ◌*◌, ◌<◌}
use native.Mathlib.Omega.{arith}
use lib.ListN.{length}
use Rattle.meaning.specs.Sound.{Sound}
use Rattle.meaning.specs.Verdicts.{Verdict, valued}
use Rattle.meaning.specs.Call.{step}
use Rattle.meaning.specs.Batch.{Ran, then, runs}
use Rattle.meaning.proofs.batch.Batches.{WholeCalls, none, four}
use Rattle.meaning.proofs.effect.Steps.{step_meets}
use Rattle.promises.specs.Requests.{Request, requested, requests, in_words, verdicts}
use Rattle.promises.specs.Alike.{Served}
use Rattle.promises.proofs.Verdicts.{verdict_parts}

abbrev pub ran : ℕ → List ℕ → ℕ → List Request → Served
ran F ws top [] = record { words = ws; top = top; answers = [] }
ran F ws top (q ∷ qs) =
    let r = requested F ws top q in
    let s = ran F r.words r.top qs in
    record { words = s.words; top = s.top; answers = r.verdict ∷ s.answers }

-- as a batch has it
abbrev pub ran_words : Served → Ran
ran_words s = record { words = s.words; top = s.top; answers = in_words s.answers }

pub runs_ran : (F : ℕ) (ws : List ℕ) (top : ℕ) {cs : List ℕ} → WholeCalls cs
    → runs F ws top cs ≡ ran_words (ran F ws top (requests cs))
runs_ran F ws top none = refl
runs_ran F ws top (four {o} {d} {a} {b} {cs} c) =
    let r = step F ws top o d a b in
    ap (λ (q : Ran). then r q) (runs_ran F r.words r.top c)

-- cut anywhere
pub ran_cut : (F : ℕ) (ws : List ℕ) (top : ℕ) (qs rs : List Request)
    → (let s = ran F ws top qs in
    let t = ran F s.words s.top rs in
    ran F ws top (qs ++ rs) ≡ record { words = t.words; top = t.top; answers = s.answers ++ t.answers })
ran_cut F ws top [] rs = refl
ran_cut F ws top (q ∷ qs) rs =
    let r = requested F ws top q in
    ap (λ (s : Served). record { words = s.words; top = s.top; answers = r.verdict ∷ s.answers })
    (ran_cut F r.words r.top qs rs)

-- an answer to each; four words a call, two an answer
pub ran_length : (F : ℕ) (ws : List ℕ) (top : ℕ) (qs : List Request) → length (ran F ws top qs).answers ≡ length qs
ran_length F ws top [] = refl
ran_length F ws top (q ∷ qs) =
    let r = requested F ws top q in ap suc (ran_length F r.words r.top qs)

pub requests_length : {cs : List ℕ} → WholeCalls cs → length cs ≡ 4 * length (requests cs)
requests_length none = refl
requests_length (four c) = omega (arith, requests_length c)

pub in_words_length : (vs : List Verdict) → length (in_words vs) ≡ 2 * length vs
in_words_length [] = refl
in_words_length (v ∷ vs) = omega (arith, in_words_length vs)

-- what is written is read: no call on a sound store answers with a rule
pub verdicts_ran : (F : ℕ) → 0 < F → (ws : List ℕ) (top : ℕ) → Sound F ws top → {cs : List ℕ} → WholeCalls cs
    → (let s = ran F ws top (requests cs) in verdicts (in_words s.answers) ≡ s.answers)
verdicts_ran F p ws top s none = refl
verdicts_ran F p ws top s (four {o} {d} {a} {b} {cs} c) =
    let m = step_meets F ws top p s o d a b in
    let r = step F ws top o d a b in
    ap₂ {C = List Verdict} (λ x y. x ∷ y)
    (verdict_parts (valued r.verdict.status r.verdict.value) r.verdict refl refl (sym m.rule))
    (verdicts_ran F p r.words r.top m.sound c)
