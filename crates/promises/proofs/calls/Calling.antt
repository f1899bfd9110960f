-- Demand 2, calls: what `meaning` shows of a call through its plan, in the words of SCOPE 4; and a batch, call by call.
-- Assumes nothing.
use mathlib.Core.Path.{◌≡◌, refl, sym, ap, ◌∙◌, subst}
use mathlib.Core.Bool.{Bool, true, false, cond}
use mathlib.Core.List.{List, [], ◌∷◌}
use Prim.Native.Nat.{ℕ, ◌+◌, ◌-◌, ◌≤◌, ◌<◌}
use native.Mathlib.Nat.{add-zero}
use native.Mathlib.Omega.{arith}
use lib.Dec.{ltb}
use borrow.Author.Tests.{ltb-true, lt-ltb}
use Rattle.meaning.specs.Sound.{capacity, Sound}
use Rattle.meaning.specs.Reach.{live}
use Rattle.meaning.specs.Collected.{collected}
use Rattle.meaning.specs.Verdicts.{Done}
use Rattle.meaning.specs.Operands.{op_at, fault}
use Rattle.meaning.specs.Call.{plan_of, perform, step_after, step}
use Rattle.meaning.specs.Effect.{effect, live_for_room, call_status}
use Rattle.meaning.specs.Batch.{ended}
use Rattle.meaning.proofs.operands.Uses.{right, op_small, index_op_at}
use Rattle.meaning.proofs.call.Plans.{plan_top}
use Rattle.meaning.proofs.effect.Steps.{Steps, step_meets}
use Rattle.meaning.proofs.batch.Batches.{fours_of}
use Rattle.meaning.proofs.batch.Cases.{batch_runs}
use Rattle.promises.specs.Requests.{Request, call, typed, requested, requests}
use Rattle.promises.specs.Cells.{Leaves}
use Rattle.promises.proofs.ownwords.Faults.{faults_in_words}
use Rattle.promises.proofs.alike.Requests.{ran, runs_ran, ran_length, requests_length}
use Rattle.promises.specs.Calls.{Did, acted_on, acted_top, CallsDo, Answered, none, next}
use Rattle.promises.specs.Calls.{BatchesRun}
use Rattle.promises.proofs.calls.Rooms.{as_was, stays}
use Rattle.promises.proofs.typing.Typing.{types_do}
use Rattle.promises.proofs.calls.Acting.{or_else_zero, plan_top_lem, plan_words, asked_words}

-- ---- a call, whatever its words are

-- 16 by room alone
sixteen : (c n : ℕ) (s : ℕ) → s ≡ cond (ltb c n) 16 0 → (s ≡ 16 → c < n) × (c < n → s ≡ 16)
sixteen c n s e = (λ z. go (ltb c n) refl (sym e ∙ z), λ l. e ∙ rw (lt-ltb c n l) refl)
  where
    go : (t : Bool) → ltb c n ≡ t → ◌≡◌ {A = ℕ} (cond t 16 0) 16 → c < n
    go true q r = ltb-true c n q
    go false q r = absurd (omega arith)

module _ (F : ℕ) (p : 0 < F) (ws : List ℕ) (top : ℕ) (s : Sound F ws top) (o d a b : ℕ) where
  abbrev r : Done
  r = step F ws top o d a b

  abbrev n : ℕ
  n = (effect F ws top o d a b).need

  m : Steps F ws top o d a b r
  m = step_meets F ws top p s o d a b

  -- done: its own words are right
  faultless : r.verdict.status ≡ 0 → fault F o d a b ≡ 0
  unfolding call_status
  faultless e = or_else_zero (fault F o d a b) _ (sym m.status ∙ e)

  done_top_lem : r.verdict.status ≡ 0 → r.top ≡ acted_top F ws top o d a b n + n
  done_top_lem e = m.tops ∙ rw e (plan_top_lem F ws top p s d a b (op_at o) (right F o d a b (faultless e)))

  performed : fault F o d a b ≡ 0 → r ≡ perform (op_at o) F ws top d a b
  unfolding step step_after
  performed q = rw q refl

  done_words_lem : r.verdict.status ≡ 0
      → Leaves o d a b n (acted_on F ws top o d a b n) (acted_top F ws top o d a b n) r.words
  done_words_lem e =
      let q = faultless e in
      let z = performed q in
      let i = index_op_at o (op_small F o d a b q) in
      rw z (subst (λ (k : ℕ). Leaves k d a b n (acted_on F ws top o d a b n) (acted_top F ws top o d a b n)
      (perform (op_at o) F ws top d a b).words) i (plan_words F ws top p s d a b (op_at o) (right F o d a b q)
      (ap (λ (x : Done). x.verdict.status) (sym z) ∙ e)))

  asked : r.verdict.status ≡ 0 → 8 ≤ o → r.words ≡ acted_on F ws top o d a b n
  asked e l =
      let q = faultless e in
      let k : o - 8 < 4 = omega (arith, op_small F o d a b q) in
      let z : 8 + (o - 8) ≡ o = omega arith in
      ap (λ (x : Done). x.words) (performed q)
      ∙ subst (λ (y : ℕ). (perform (op_at y) F ws top d a b).words
      ≡ acted_on F ws top y d a b (effect F ws top y d a b).need) z (asked_words F ws top p s d a b (o - 8) k)

  -- without need
  as_it_is : n ≡ 0 → ltb (capacity ws) (top + n) ≡ false
  as_it_is z = rw z (stays F ws top s)

pub calls_do : CallsDo
unfolding call_status
calls_do F p ws top s o d a b =
    let x = m F p ws top s o d a b in
    let r = step F ws top o d a b in
    let t = as_was ws (collected F ws top) r.words (plan_top F (plan_of (op_at o) F ws top d a b) ws top)
    (F + live F ws top) top r.top in
    let g = done_top_lem F p ws top s o d a b in
    let w = done_words_lem F p ws top s o d a b in
    record {
      wrong = fault F o d a b;
      own = faults_in_words F o d a b;
      status = x.status;
      value = x.value;
      rule = x.rule;
      registers = x.registers;
      no_room = λ f u. sixteen (capacity ws) (F + live_for_room F ws top o d a b + (effect F ws top o d a b).need)
          r.verdict.status (x.status ∙ rw (f, u) refl);
      done_top = g;
      done_words = w;
      asked = asked F p ws top s o d a b;
      no_need = λ e h z. (
        g e ∙ rw (h, as_it_is F p ws top s o d a b z, z) (add-zero top),
        rw (h, as_it_is F p ws top s o d a b z, z) at (w e).others,
      );
      full = λ e. (rw e at x.left, x.tops ∙ rw e refl);
      refused = t r.verdict.status x.left x.tops;
      sound = x.sound;
      len = x.len;
    }

-- ---- a batch

did : (F : ℕ) (p : 0 < F) (ws : List ℕ) (top : ℕ) → Sound F ws top → (q : Request)
    → Did F ws top q (requested F ws top q) × Sound F (requested F ws top q).words (requested F ws top q).top
did F p ws top s (call o d a b) = let k = calls_do F p ws top s o d a b in (k, k.sound)
did F p ws top s (typed d bs) = let k = types_do F ws top s d bs in (k, k.sound)

answered : (F : ℕ) (p : 0 < F) (ws : List ℕ) (top : ℕ) (qs : List Request) → Sound F ws top
    → (let r = ran F ws top qs in Answered F ws top qs r.answers r.words r.top)
answered F p ws top [] s = none
answered F p ws top (q ∷ qs) s =
    let r = requested F ws top q in
    let k = did F p ws top s q in
    next r k.0 (answered F p r.words r.top qs k.1)

pub batches_run : BatchesRun
unfolding ended
batches_run F p ws top calls out e =
    let q = batch_runs F ws top calls out e in
    let c = fours_of calls q.1.whole in
    rw (q.2, runs_ran F ws top c)
    (record {
      said = (ran F ws top (requests calls)).answers;
      answered = answered F p ws top (requests calls) q.0;
      many = omega (arith, ran_length F ws top (requests calls), requests_length c);
      answers = refl;
    })
