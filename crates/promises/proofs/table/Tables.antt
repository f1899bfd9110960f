-- Demand 1: the tables of the public functions. In order:
--   check_answers, fresh_answers    the check, and a fresh store
--   collect_answers, look_answers   collecting alone, and the look
--   batch_answers, call_answers     a batch, and one call
-- Assumes nothing.
use mathlib.Core.Path.{◌≡◌, refl, ap, ◌∙◌}
use mathlib.Core.Logic.{inl, inr, ◌≢◌}
use mathlib.Core.Bool.{Bool, true, false, cond}
use mathlib.Core.List.{List, [], ◌∷◌}
use Prim.Native.Nat.{ℕ, zero, suc, ◌+◌, ◌≤◌}
use native.Mathlib.Omega.{arith}
use lib.ListN.{length}
use Rattle.meaning.specs.Limits.{limit}
use Rattle.meaning.specs.Expr.{Expr}
use Rattle.meaning.specs.Sound.{capacity, Sound}
use Rattle.meaning.specs.Meaning.{meaning}
use Rattle.meaning.specs.Reach.{live}
use Rattle.meaning.specs.Collected.{collected}
use Rattle.meaning.specs.Verdicts.{Verdict, only, done, refused, on_zero}
use Rattle.meaning.specs.Check.{length_test, check, collect_in}
use Rattle.meaning.specs.Fresh.{fresh, fresh_in}
use Rattle.meaning.specs.Look.{look}
use Rattle.meaning.specs.Operands.{op_at}
use Rattle.meaning.specs.Call.{step}
use Rattle.meaning.specs.Effect.{Effect, facts, effect, after, answer, call_status}
use Rattle.meaning.specs.Batch.{Outcome, ended, calls_test, batch}
use Rattle.meaning.proofs.Counting.{refuted}
use Rattle.meaning.proofs.look.Looking.{look_none, look_empty, look_size, look_word, look_unsound}
use Rattle.meaning.proofs.check.Checking.{length_yes, yes_length, check_sound, sound_check}
use Rattle.meaning.proofs.batch.Cases.{yes_calls, Cases, unsound, bad_calls, short_answers, run, cases, batch_run}
use Rattle.meaning.proofs.fresh.Fresh.{fresh_sound, fresh_empty}
use Rattle.promises.specs.Calls.{lacking}
use Rattle.promises.specs.Table.{OneOf, CheckAnswers, FreshTable, FreshAnswers, CollectTable, CollectAnswers}
use Rattle.promises.specs.Table.{LookTable, LookAnswers, Batched, bad_space, runs, BatchAnswers}
use Rattle.promises.specs.Table.{CallAnswers}
use Rattle.promises.specs.Table as table
use Rattle.promises.proofs.calls.Calling.{calls_do}
use Rattle.promises.proofs.table.Rules.{judged, judged_number, judged_zero, check_broken}
use Rattle.promises.proofs.table.Numbers.{own_number, unfit_number, first_of_lem}

-- ---- the check

pub check_answers : CheckAnswers
check_answers F ws top =
    let v = check F ws top in
    let j = judged F ws top in
    record {
      number = judged_number F ws top [] v j;
      value = λ n. (judged_zero F ws top v j n).0;
      rule = λ n. (judged_zero F ws top v j n).1;
      broken = check_broken F ws top;
      sound = (check_sound F ws top, λ s. ap (λ (w : Verdict). w.status) (sound_check F ws top s));
      judged = j;
    }

-- ---- a fresh store

pub fresh_answers : FreshAnswers
unfolding fresh_in
fresh_answers F ws = go (length_test F (length ws)) refl
  where
    go : (t : Bool) → length_test F (length ws) ≡ t
        → FreshTable F ws (cond t (done (fresh F (capacity ws)) F 0) (refused ws 0 (only 1)))
    go true e =
        let q = length_yes F (length ws) e in
        let l : F ≤ capacity ws = omega (arith, q.large) in
        let m : capacity ws ≤ limit = omega (arith, q.small) in
        record {
          number = inl refl;
          value = refl;
          rule = refl;
          made = λ h. (refl, refl, refl);
          sound = λ h. (fresh_sound F (capacity ws) l m, fresh_empty F (capacity ws) l m);
          refused = λ n. absurd (n q);
        }
    go false e =
        let n = refuted (length_test F (length ws)) (yes_length F (length ws)) e in
        record {
          number = inr (inl refl);
          value = refl;
          rule = refl;
          made = λ h. absurd (n h);
          sound = λ h. absurd (n h);
          refused = λ h. (refl, refl, refl);
        }

-- ---- collecting alone

pub collect_answers : CollectAnswers
unfolding collect_in
collect_answers F ws top = go (check F ws top).status refl
  where
    go : (n : ℕ) → (check F ws top).status ≡ n
        → CollectTable F ws top
        (on_zero n (done (collected F ws top) (F + live F ws top) (live F ws top)) (refused ws top (check F ws top)))
    go zero e =
        record {
          number = inl refl;
          rule = λ _. refl;
          collects = λ s. (refl, refl, refl, refl);
          refused = λ n. absurd (n (check_sound F ws top e));
        }
    go (suc n) e = record {
      number = judged_number F ws top [] (check F ws top) (judged F ws top);
      rule = λ h. (judged_zero F ws top (check F ws top) (judged F ws top) h).1;
      collects = λ s. absurd
          (let z : (check F ws top).status ≡ 0 = ap (λ (v : Verdict). v.status) (sound_check F ws top s) in omega
          arith);
      refused = λ h. (judged F ws top, λ z. omega arith, refl, refl);
    }

-- ---- the look

pub look_answers : LookAnswers
look_answers F p ws top i = go (check F ws top).status refl
  where
    go : (n : ℕ) → (check F ws top).status ≡ n → LookTable F ws top i (look F ws top i)
    go zero e =
        let s = check_sound F ws top e in
        record {
          unsound = λ n. absurd (n s);
          none = λ m. look_none F ws top s i m;
          no_contents = λ z. look_empty F ws top s i z;
          cells = λ x y q m z. (
            rw z at (look_size F ws top p s i m),
            λ j h. rw z at (look_word F ws top p s i m j (rw (look_size F ws top p s i m) at h)),
          );
        }
    go (suc n) e =
        let z = look_unsound F ws top i n e in
        record {
          unsound = λ _. z;
          none = λ _. z;
          no_contents = λ _. z;
          cells = λ x y s m w. absurd (let q = ap (λ (v : Verdict). v.status) (sound_check F ws top s) in omega arith);
        }

-- ---- a batch

module _ (F : ℕ) (ws : List ℕ) (top : ℕ) (calls out : List ℕ) where
  batched : (r : Outcome) → Cases F ws top calls out r → Batched F ws top calls out r
  unfolding ended
  batched r (unsound n) = table.unsound (check F ws top) (judged F ws top) n
  batched r (bad_calls s e) = table.bad_calls s (refuted (calls_test (length calls)) (yes_calls (length calls)) e)
  batched r (short_answers s a h) = bad_space s a (λ k. omega arith)
  batched r (run s a h) = runs _ s a h refl

  batched_number : (r : Outcome) → Batched F ws top calls out r
      → OneOf r.verdict.status (0 ∷ 1 ∷ 2 ∷ 3 ∷ 4 ∷ 5 ∷ [])
  batched_number r (table.unsound v j n) = judged_number F ws top (4 ∷ 5 ∷ []) v j
  batched_number r (table.bad_calls s n) = inr (inr (inr (inr (inl refl))))
  batched_number r (bad_space s c n) = inr (inr (inr (inr (inr (inl refl)))))
  batched_number r (runs q s c l e) = inl (ap (λ (v : Verdict). v.status) e)

  -- value and rule, but for 3
  batched_zero : (r : Outcome) → Batched F ws top calls out r → r.verdict.status ≢ 3
      → (r.verdict.value ≡ 0) × (r.verdict.rule ≡ 0)
  batched_zero r (table.unsound v j n) h = judged_zero F ws top v j h
  batched_zero r (table.bad_calls s n) h = (refl, refl)
  batched_zero r (bad_space s c n) h = (refl, refl)
  batched_zero r (runs q s c l e) h = (ap (λ (v : Verdict). v.value) e, ap (λ (v : Verdict). v.rule) e)

  batched_kept : (r : Outcome) → Batched F ws top calls out r → r.verdict.status ≢ 0
      → (r.words ≡ ws) × (r.top ≡ top) × (r.answers ≡ out)
  batched_kept r (table.unsound v j n) h = (refl, refl, refl)
  batched_kept r (table.bad_calls s n) h = (refl, refl, refl)
  batched_kept r (bad_space s c n) h = (refl, refl, refl)
  batched_kept r (runs q s c l e) h = absurd (h (ap (λ (v : Verdict). v.status) e))

no_calls_lem : (F : ℕ) (ws : List ℕ) (top : ℕ) (out : List ℕ) → Sound F ws top
    → ((batch F ws top [] out).verdict.status ≡ 0) × ((batch F ws top [] out).words ≡ ws)
    × ((batch F ws top [] out).top ≡ top)
unfolding ended
no_calls_lem F ws top out s =
    rw (batch_run F ws top [] out s (record { short = omega arith; whole = refl }) (omega arith)) (refl, refl, refl)

pub batch_answers : BatchAnswers
batch_answers F ws top calls out =
    let r = batch F ws top calls out in
    let b = batched F ws top calls out r (cases F ws top calls out) in
    record {
      number = batched_number F ws top calls out r b;
      value = λ n. (batched_zero F ws top calls out r b n).0;
      rule = λ n. (batched_zero F ws top calls out r b n).1;
      kept = batched_kept F ws top calls out r b;
      batched = b;
      no_calls = λ s e. rw e (no_calls_lem F ws top out s);
    }

-- ---- one call

ten_to_fifteen : (n : ℕ) → OneOf n (10 ∷ 11 ∷ 12 ∷ 13 ∷ 14 ∷ 15 ∷ []) → (10 ≤ n) × (n ≤ 15)
ten_to_fifteen n (inl e) = (omega arith, omega arith)
ten_to_fifteen n (inr (inl e)) = (omega arith, omega arith)
ten_to_fifteen n (inr (inr (inl e))) = (omega arith, omega arith)
ten_to_fifteen n (inr (inr (inr (inl e)))) = (omega arith, omega arith)
ten_to_fifteen n (inr (inr (inr (inr (inl e))))) = (omega arith, omega arith)
ten_to_fifteen n (inr (inr (inr (inr (inr (inl e)))))) = (omega arith, omega arith)
ten_to_fifteen n (inr (inr (inr (inr (inr (inr e)))))) = absurd e

refused_value : (s : ℕ) (x : Effect) → s ≢ 0 → answer s x ≡ 0
refused_value zero x n = absurd (n refl)
refused_value (suc s) x n = refl

refused_registers : (s : ℕ) (x : Effect) (e : ℕ → Expr) (i : ℕ) → s ≢ 0 → after s x e i ≡ e i
refused_registers zero x e i n = absurd (n refl)
refused_registers (suc s) x e i n = refl

pub call_answers : CallAnswers
unfolding call_status
call_answers F p ws top s o d a b =
    let c = calls_do F p ws top s o d a b in
    let r = step F ws top o d a b in
    let x = effect F ws top o d a b in
    record {
      number = rw c.status
          (first_of_lem c.wrong x.unfit (lacking F ws top o d a b x.need) (own_number c.own)
          (unfit_number (op_at o) (meaning ws) (facts F ws top) d a b));
      value = λ n. c.value ∙ refused_value r.verdict.status x n;
      rule = c.rule;
      kept = λ k. let z = ten_to_fifteen r.verdict.status k in c.refused (λ e. omega (arith, z.0))
          (λ e. omega (arith, z.1));
      expressions = λ n i h. c.registers i h ∙ refused_registers r.verdict.status x (meaning ws) i n;
      sound = c.sound;
      len = c.len;
    }
