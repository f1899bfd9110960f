-- A history as a list of batches and texts: a collection is a batch of one COLLECT, which is struck out again. So
-- demand 3 of the definitions is demand 3 of the code. Assumes nothing.
use Rattle.store.specs.declared.Unsound.{Unsound}
use Rattle.std.specs.Prelude.{Result, Ok, Err}
use mathlib.Core.Path.{◌≡◌, refl, sym, ap, ap₂, ◌∙◌}
use mathlib.Core.Bool.{Bool, true, false}
use mathlib.Core.List.{List, [], ◌∷◌, ◌++◌}
use Prim.Native.Nat.{ℕ, ◌+◌, ◌-◌, ◌*◌, ◌/◌}
use native.Mathlib.Omega.{arith}
use lib.ListN.{length, take, replicate}
use lib.Seq.{take_at}
use Rattle.meaning.specs.Limits.{first_heap_cell, calls_limit}
use Rattle.meaning.specs.Sound.{capacity, Allowed}
use Rattle.meaning.specs.Reach.{live}
use Rattle.meaning.specs.Collected.{collected}
use Rattle.meaning.specs.Verdicts.{Verdict, Done, done}
use Rattle.meaning.specs.Check.{length_test, collect_in}
use Rattle.meaning.specs.Fresh.{fresh}
use Rattle.meaning.specs.Operands.{ops, op_at, uses, wrong11, wrong12, wrong13, fault}
use Rattle.meaning.specs.Call.{plan_of, carry_out, perform, step_after, step}
use Rattle.meaning.specs.Batch.{Outcome, runs, ended, AllowedCalls, batch}
use Rattle.meaning.specs.Typed.{type_in}
use Rattle.meaning.proofs.Counting.{refuted}
use Rattle.meaning.proofs.check.Checking.{length_yes, yes_length}
use Rattle.meaning.proofs.batch.Cases.{batch_run, batch_runs}
use Rattle.meaning.proofs.batch.Batches.{runs_length}
use Rattle.collect.specs.Answers.{collected_in, Collects}
use Rattle.collect.specs.declared.Collected.{Collected}
use Rattle.typing.specs.Answers.{typed_in, Types}
use Rattle.typing.specs.declared.NotTyped.{NotTyped}
use Rattle.typing.specs.declared.NotTyped.TheVariants as text-answer
use Rattle.typing.proofs.Final.{words_back}
use Rattle.promises.specs.Requests.{Request, typed, requests, verdicts}
use Rattle.promises.specs.Alike.{Lent, calls, text, requests_of, NoneRefused, Served, served, strike, strike_answers}
use Rattle.promises.proofs.unique.Outcomes.{done_parts}
use Rattle.promises.proofs.Final.{collecting_keeps, alike_is_collected, collections_never_show}
use Rattle.store.specs.Answers.{Makes}
use Rattle.calls.specs.Answers.{Runs}
use Rattle.demands.specs.Runs.{Step, run, type, collect, Happened, asked, answered, words_after, top_after}
use Rattle.demands.specs.Runs.{SameCollected, RunsNeverShow, FreshRunsNeverShow}
use Rattle.demands.proofs.Lists.{strike_front, strike_answers_front, requests_many, verdicts_many}
use Rattle.demands.proofs.Uses.{fresh_meets, refusal_not, collect_meets}

-- ---- a collection is a batch of one COLLECT

abbrev one_call_done : List ℕ
one_call_done = 11 ∷ 0 ∷ 0 ∷ 0 ∷ []

abbrev two_words : List ℕ
two_words = 0 ∷ 0 ∷ []

-- COLLECT, as it is defined: its value is live after it
collect_step : (ws : List ℕ) (top : ℕ)
    → (let v = collected first_heap_cell ws top in
    let t = first_heap_cell + live first_heap_cell ws top in
    step first_heap_cell ws top 11 0 0 0 ≡ done v t (live first_heap_cell v t))
unfolding uses wrong11 wrong12 wrong13 fault ops op_at plan_of carry_out perform step_after step
collect_step ws top = refl

collects_call : (ws : List ℕ) (top n t : ℕ) (v : List ℕ) → Collects ws top (Ok (record { live = n; top = t })) v
    → Runs ws top one_call_done two_words (Ok t) v (0 ∷ n ∷ [])
unfolding ended calls_limit
collects_call ws top n t v h =
    let k = collect_meets ws top (Ok (record { live = n; top = t })) v h in
    let s = k.1.0 in
    let c = k.0.collects s in
    let a : AllowedCalls (length one_call_done) = record { short = omega arith; whole = refl } in
    let b = batch_run first_heap_cell ws top one_call_done two_words s a (omega arith) in
    let m = (collecting_keeps first_heap_cell (omega arith) ws top s).many in
    rw (b, collect_step ws top, m, c.1, c.2, c.3) refl

-- the batches and the texts of a history
abbrev lents : List Step → List Lent
lents [] = []
lents (run cs out t v a ∷ hs) = calls cs out ∷ lents hs
lents (type d bs r t v ∷ hs) = text d bs ∷ lents hs
lents (collect n t v ∷ hs) = calls one_call_done two_words ∷ lents hs

-- ---- as many answers as calls

many : (ws : List ℕ) (top : ℕ) (cs out : List ℕ) (t : ℕ) (v a : List ℕ) → Runs ws top cs out (Ok t) v a
    → length (requests cs) ≡ length (verdicts (take (2 * (length cs / 4)) a))
unfolding ended
many ws top cs out t v a h =
    let z : (batch first_heap_cell ws top cs out).verdict.status ≡ 0 =
    ap (λ (o : Outcome). o.verdict.status) (sym h) in
    let b = batch_runs first_heap_cell ws top cs out z in
    let q = (runs first_heap_cell ws top cs).answers in
    let n : length q ≡ 2 * (length cs / 4) = runs_length first_heap_cell ws top cs in
    let e : a ≡ q ++ replicate (length out - length q) 0 = ap (λ (o : Outcome). o.answers) (h ∙ b.2) in
    let f : take (2 * (length cs / 4)) a ≡ q =
    ap (λ (l : List ℕ). take (2 * (length cs / 4)) l) e
    ∙ take_at q (replicate (length out - length q) 0) (2 * (length cs / 4)) n in
    let w = b.1.whole in
    requests_many (length cs / 4) cs (omega (arith, w))
    ∙ sym (ap (λ (l : List ℕ). length (verdicts l)) f ∙ verdicts_many (length cs / 4) q n)

-- ---- a history told by its batches and texts

record Told (ws : List ℕ) (top : ℕ) (hs : List Step) : Type 0 where
  none : NoneRefused first_heap_cell ws top (lents hs)
  asks : strike (requests_of (lents hs)) ≡ strike (asked hs)
  says : strike_answers (requests_of (lents hs)) (served first_heap_cell ws top (lents hs)).answers
      ≡ strike_answers (asked hs) (answered hs)
  words : (served first_heap_cell ws top (lents hs)).words ≡ words_after ws hs
  last : (served first_heap_cell ws top (lents hs)).top ≡ top_after top hs

-- a batch in front: what is served is what it left and answered, and then the rest
served_next : (ws : List ℕ) (top : ℕ) (cs out : List ℕ) (t : ℕ) (v a : List ℕ) (bs : List Lent)
    → Runs ws top cs out (Ok t) v a
    → (let q = served first_heap_cell v t bs in
    served first_heap_cell ws top (calls cs out ∷ bs) ≡ record {
      words = q.words;
      top = q.top;
      answers = verdicts (take (2 * (length cs / 4)) a) ++ q.answers;
    })
served_next ws top cs out t v a bs h = rw (← h, served) refl

none_next : (ws : List ℕ) (top : ℕ) (cs out : List ℕ) (t : ℕ) (v a : List ℕ) (bs : List Lent)
    → Runs ws top cs out (Ok t) v a → NoneRefused first_heap_cell v t bs
    → NoneRefused first_heap_cell ws top (calls cs out ∷ bs)
none_next ws top cs out t v a bs h n = rw (← h) (refl, n)

-- a text in front, likewise: its numbers are the same whatever the `top`
verdict_same : (r : Result ℕ NotTyped) (top t : ℕ) (v : List ℕ) → (typed_in r top v).verdict ≡ (typed_in r t v).verdict
verdict_same (Ok n) top t v = refl
verdict_same (Err (text-answer.Unsound u)) top t v = refl
verdict_same (Err text-answer.NoRegister) top t v = refl
verdict_same (Err (text-answer.BadText b)) top t v = refl
verdict_same (Err (text-answer.NoRoom n)) top t v = refl

-- what the definition leaves and answers is what stands in the history
typed_next : (ws : List ℕ) (top d : ℕ) (bs : List ℕ) (r : Result ℕ NotTyped) (t : ℕ) (v : List ℕ) → Types ws top d bs r v
    → (typed_in r top v).top ≡ t
    → type_in first_heap_cell ws top d bs ≡ record { verdict = (typed_in r t v).verdict; words = v; top = t }
typed_next ws top d bs r t v h e =
    sym h ∙ done_parts (typed_in r top v) (record { verdict = (typed_in r t v).verdict; words = v; top = t })
    (verdict_same r top t v) (words_back r top v) e

told : (ws : List ℕ) (top : ℕ) (hs : List Step) → Happened ws top hs → Told ws top hs
told ws top [] h = record { none = tt; asks = refl; says = refl; words = refl; last = refl }
told ws top (run cs out t v a ∷ hs) h =
    let k = told v t hs h.1 in
    let e = served_next ws top cs out t v a (lents hs) h.0 in
    record {
      none = none_next ws top cs out t v a (lents hs) h.0 k.none;
      asks = strike_front (requests cs) (requests_of (lents hs)) (asked hs) k.asks;
      says = ap (λ (q : Served). strike_answers (requests cs ++ requests_of (lents hs)) q.answers) e
          ∙ strike_answers_front (requests cs) (verdicts (take (2 * (length cs / 4)) a))
          (many ws top cs out t v a h.0) (requests_of (lents hs)) (served first_heap_cell v t (lents hs)).answers
          (asked hs) (answered hs) k.says;
      words = ap (λ (q : Served). q.words) e ∙ k.words;
      last = ap (λ (q : Served). q.top) e ∙ k.last;
    }
told ws top (type d bs r t v ∷ hs) h =
    let k = told v t hs h.2 in
    let e = typed_next ws top d bs r t v h.0 h.1 in
    let q = served first_heap_cell v t (lents hs) in
    let f : served first_heap_cell ws top (text d bs ∷ lents hs) ≡ record {
      words = q.words;
      top = q.top;
      answers = (typed_in r t v).verdict ∷ q.answers;
    } = rw (e, served) refl in
    record {
      none = rw e (tt, k.none);
      asks = ap (λ (l : List Request). typed d bs ∷ l) k.asks;
      says = ap (λ (x : Served). strike_answers (typed d bs ∷ requests_of (lents hs)) x.answers) f
          ∙ ap (λ (l : List Verdict). (typed_in r t v).verdict ∷ l) k.says;
      words = ap (λ (x : Served). x.words) f ∙ k.words;
      last = ap (λ (x : Served). x.top) f ∙ k.last;
    }
told ws top (collect n t v ∷ hs) h =
    let k = told v t hs h.1 in
    let c = collects_call ws top n t v h.0 in
    let e = served_next ws top one_call_done two_words t v (0 ∷ n ∷ []) (lents hs) c in
    record {
      none = none_next ws top one_call_done two_words t v (0 ∷ n ∷ []) (lents hs) c k.none;
      asks = k.asks;
      says = ap (λ (q : Served). strike_answers (requests one_call_done ++ requests_of (lents hs)) q.answers) e
          ∙ k.says;
      words = ap (λ (q : Served). q.words) e ∙ k.words;
      last = ap (λ (q : Served). q.top) e ∙ k.last;
    }

-- ---- one more collection

same_collected : (ws : List ℕ) (top : ℕ) (ws' : List ℕ) (top' : ℕ)
    → (collect_in first_heap_cell ws top).verdict.status ≡ 0
    → collect_in first_heap_cell ws top ≡ collect_in first_heap_cell ws' top' → SameCollected ws top ws' top'
same_collected ws top ws' top' z e r r' v v' h h' =
    go r r' (ap status h ∙ z) (ap status h' ∙ (ap status (sym e) ∙ z)) (h ∙ (e ∙ sym h'))
  where
    status : Done → ℕ
    status d = d.verdict.status

    go : (r r' : Result Collected Unsound) → (collected_in r v top).verdict.status ≡ 0 → (collected_in r' v' top').verdict.status ≡ 0
        → collected_in r v top ≡ collected_in r' v' top'
        → ((n : ℕ) × (t : ℕ) × (r ≡ Ok (record { live = n; top = t }))) × (r ≡ r') × (v ≡ v')
    go (Ok c) (Ok e) x y q = (
      (c.live, c.top, refl),
      ap (λ (d : Done). Ok (record { live = d.verdict.value; top = d.top })) q,
      ap (λ (d : Done). d.words) q,
    )
    go (Ok c) (Err u) x y q = absurd (refusal_not u y)
    go (Err u) r' x y q = absurd (refusal_not u x)

pub runs_never_show : RunsNeverShow
runs_never_show ws top ws' top' s s' c a hs hs' h h' e =
    let k = told ws top hs h in
    let k' = told ws' top' hs' h' in
    let q = served first_heap_cell ws top (lents hs) in
    let q' = served first_heap_cell ws' top' (lents hs') in
    let u = collections_never_show first_heap_cell (omega arith) ws top ws' top' s s' c a (lents hs) (lents hs')
    k.none k'.none (k.asks ∙ (e ∙ sym k'.asks)) in
    record {
      answers = sym k.says ∙ (u.answers ∙ k'.says);
      alike = rw (k.words, k.last, k'.words, k'.last) at u.alike;
      equal = rw (k.words, k.last, k'.words, k'.last) at
          (same_collected q.words q.top q'.words q'.top u.collects u.equal);
    }

-- ---- from fresh stores

-- a slice that is made a store has an allowed length
made_allowed : (ws : List ℕ) (t : ℕ) (v : List ℕ) → Makes ws (Ok t) v → Allowed first_heap_cell (length ws)
made_allowed ws t v h = go (length_test first_heap_cell (length ws)) refl
  where
    go : (x : Bool) → length_test first_heap_cell (length ws) ≡ x → Allowed first_heap_cell (length ws)
    go true e = length_yes first_heap_cell (length ws) e
    go false e =
        let n = refuted (length_test first_heap_cell (length ws)) (yes_length first_heap_cell (length ws)) e in
        absurd (omega (arith, ((fresh_meets ws (Ok t) v h).refused n).0))

pub fresh_runs_never_show : FreshRunsNeverShow
fresh_runs_never_show ws ws' l top top' v v' h h' =
    let k = fresh_meets ws (Ok top) v h in
    let k' = fresh_meets ws' (Ok top') v' h' in
    let a = made_allowed ws top v h in
    let a' = made_allowed ws' top' v' h' in
    let c : capacity ws ≡ capacity ws' = omega arith in
    let w : v ≡ v' = (k.made a).1 ∙ (ap (λ (n : ℕ). fresh first_heap_cell n) c ∙ sym (k'.made a').1) in
    let t : top ≡ top' = (k.made a).2 ∙ sym (k'.made a').2 in
    let s = (k.sound a).0 in
    let s' = (k'.sound a').0 in
    let e : capacity v ≡ capacity v' = ap (λ (x : List ℕ). capacity x) w in
    runs_never_show v top v' top' s s' e
    ((alike_is_collected first_heap_cell (omega arith) v top v' top' s s' e).1
    (ap₂ (λ (x : List ℕ) (n : ℕ). collect_in first_heap_cell x n) w t))
