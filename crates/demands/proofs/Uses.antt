-- One use of a public function: its contract is an equation with a definition, and the claims of `promises` are about
-- the definition, so they hold of what the function returned and left. In order:
--   check_meets, fresh_meets   the check and a fresh store
--   look_meets, span_meets     the look: the words returned, and those between the word numbers of a span
--   sound_or_not               a store is sound or not
--   refusal_not                the refusal of an unsound store has another status than 0
--   collect_meets              collecting
--   run_meets                  a batch
--   print_meets, prints_never_show   a print, and two prints of stores that are alike
-- Assumes nothing.
use Rattle.std.specs.Prelude.{Result, Ok, Err}
use mathlib.Core.Path.{◌≡◌, refl, sym, ap, ◌∙◌, subst}
use mathlib.Core.Logic.{◌⊎◌, inl, inr, ◌≢◌}
use mathlib.Core.List.{List}
use Prim.Native.Nat.{ℕ, zero, suc, ◌+◌, ◌*◌, ◌<◌}
use native.Mathlib.Omega.{arith}
use lib.ListN.{length}
use Rattle.meaning.specs.Limits.{first_heap_cell}
use Rattle.meaning.specs.Sound.{Sound}
use Rattle.meaning.specs.Verdicts.{Verdict, only, Done}
use Rattle.meaning.specs.Check.{check}
use Rattle.meaning.specs.Look.{span_of, look_span}
use Rattle.meaning.specs.Batch.{Outcome, ended, batch}
use Rattle.meaning.proofs.look.Looking.{span_register}
use Rattle.meaning.proofs.batch.Batches.{runs_sound}
use Rattle.meaning.proofs.batch.Cases.{batch_runs}
use Rattle.store.specs.Answers.{refusal_of}
use Rattle.store.specs.declared.Unsound.{Unsound}
use Rattle.store.specs.declared.Unsound.TheVariants as unsound
use Rattle.store.proofs.Final.{look_at_span}
use Rattle.collect.specs.Answers.{collected_in}
use Rattle.collect.specs.declared.Collected.{Collected}
use Rattle.calls.specs.Answers.{ran_in, Runs}
use Rattle.calls.specs.declared.NotRun.{NotRun}
use Rattle.calls.specs.declared.NotRun.TheVariants as ran
use Rattle.meaning.specs.Text as text
use Rattle.text.specs.Answers.{printed_in}
use Rattle.text.specs.declared.NoText.{NoText}
use Rattle.text.specs.declared.NoText.TheVariants as printed
use Rattle.text.proofs.Final.{one_print}
use Rattle.promises.specs.Table.{Not, CheckTable, FreshTable, LookTable, CollectTable, BatchTable}
use Rattle.promises.specs.Collecting.{CollectedFrom}
use Rattle.promises.specs.Calls.{BatchRun}
use Rattle.promises.specs.Printing.{PrintedAs, unsound, no_register, written, PrintTable}
use Rattle.promises.proofs.Final.{check_answers, fresh_answers, look_answers, collect_answers, batch_answers}
use Rattle.promises.proofs.Final.{collecting_keeps, batches_run, print_answers, alike_printed}
use Rattle.demands.specs.Run.{CheckMeets, FreshMeets, LookMeets, SpanMeets, Collecting, CollectMeets}
use Rattle.demands.specs.Run.{Running, RunMeets, Printing, PrintMeets, PrintsNeverShow}

-- ---- the check, a fresh store, the look

pub check_meets : CheckMeets
check_meets ws top r h =
    subst (λ (v : Verdict). CheckTable first_heap_cell ws top v) (sym h) (check_answers first_heap_cell ws top)

pub fresh_meets : FreshMeets
fresh_meets ws r v h = subst (λ (d : Done). FreshTable first_heap_cell ws d) (sym h) (fresh_answers first_heap_cell ws)

pub look_meets : LookMeets
unfolding span_of
look_meets ws top i r h = (
  subst (λ (p : List ℕ). LookTable first_heap_cell ws.now top i p) (sym h.0)
      (look_answers first_heap_cell (omega arith) ws.now top i),
  λ l e s k at-ends.
      let from : (look_span first_heap_cell ws.now top i).from ≡ 2 * l =
      rw (span_register first_heap_cell ws.now top s i k, at-ends) refl in
      (h.1.0, omega (arith, h.1.1, from)),
)

pub span_meets : SpanMeets
span_meets ws top i r h =
    subst (λ (p : List ℕ). LookTable first_heap_cell ws top i p) (look_at_span ws top i r h)
    (look_answers first_heap_cell (omega arith) ws top i)

-- ---- collecting

-- a store is sound or not, as the check says
pub sound_or_not : (ws : List ℕ) (top : ℕ) → Sound first_heap_cell ws top ⊎ Not (Sound first_heap_cell ws top)
sound_or_not ws top = go (check first_heap_cell ws top).status refl
  where
    go : (n : ℕ) → (check first_heap_cell ws top).status ≡ n
        → Sound first_heap_cell ws top ⊎ Not (Sound first_heap_cell ws top)
    go zero e = inl ((check_answers first_heap_cell ws top).sound.0 e)
    go (suc n) e = inr (λ s. let z = (check_answers first_heap_cell ws top).sound.1 s in omega (arith, z, e))

pub refusal_not : (u : Unsound) → (refusal_of u).status ≢ 0
refusal_not unsound.BadLength z = omega (arith, z)
refusal_not unsound.BadTop z = omega (arith, z)
refusal_not (unsound.Damaged c q) z = omega (arith, z)

collecting : (ws : List ℕ) (top : ℕ) (r : Result Collected Unsound) (v : List ℕ)
    → CollectTable first_heap_cell ws top (collected_in r v top) → Collecting ws top r v
collecting ws top (Ok c) v k = go (sound_or_not ws top)
  where
    go : Sound first_heap_cell ws top ⊎ Not (Sound first_heap_cell ws top)
        → Collecting ws top (Ok c) v
    go (inl s) =
        let e = k.collects s in (
          s,
          e.1,
          e.3 ∙ ap (λ (m : ℕ). first_heap_cell + m) (sym e.1),
          subst (λ (w : List ℕ). CollectedFrom first_heap_cell ws top w) (sym e.2)
              (collecting_keeps first_heap_cell (omega arith) ws top s),
        )
    go (inr s) = absurd ((k.refused s).1 refl)
collecting ws top (Err u) v k = go (sound_or_not ws top)
  where
    go : Sound first_heap_cell ws top ⊎ Not (Sound first_heap_cell ws top) → v ≡ ws
    go (inl s) = absurd (refusal_not u (k.collects s).0)
    go (inr s) = (k.refused s).2

pub collect_meets : CollectMeets
collect_meets ws top r v h =
    let k : CollectTable first_heap_cell ws top (collected_in r v top) =
    subst (λ (d : Done). CollectTable first_heap_cell ws top d) (sym h) (collect_answers first_heap_cell ws top) in
    (k, collecting ws top r v k)

-- ---- a batch

ended_sound : (ws : List ℕ) (top : ℕ) (calls out : List ℕ) (t : ℕ) (v a : List ℕ)
    → Runs ws top calls out (Ok t) v a → (batch first_heap_cell ws top calls out).verdict.status ≡ 0
    → Sound first_heap_cell v t
unfolding ended
ended_sound ws top calls out t v a h z =
    let b = batch_runs first_heap_cell ws top calls out z in
    subst (λ (o : Outcome). Sound first_heap_cell o.words o.top) (sym (h ∙ b.2))
    (runs_sound first_heap_cell (omega arith) ws top calls b.0)

running : (ws : List ℕ) (top : ℕ) (calls out : List ℕ) (r : Result ℕ NotRun) (v a : List ℕ)
    → Runs ws top calls out r v a
    → BatchTable first_heap_cell ws top calls out (ran_in r v top a) → Running ws top calls out r v a
running ws top calls out (Ok t) v a h k =
    let z : (batch first_heap_cell ws top calls out).verdict.status ≡ 0 =
    ap (λ (o : Outcome). o.verdict.status) (sym h) in (
      (batch_runs first_heap_cell ws top calls out z).0,
      ended_sound ws top calls out t v a h z,
      subst (λ (o : Outcome). BatchRun first_heap_cell ws top calls out o) (sym h)
          (batches_run first_heap_cell (omega arith) ws top calls out z),
    )
running ws top calls out (Err (ran.Unsound u)) v a h k = let e = k.kept (refusal_not u) in (e.0, e.2)
running ws top calls out (Err ran.BadCalls) v a h k = let e = k.kept (λ z. omega (arith, z)) in (e.0, e.2)
running ws top calls out (Err ran.ShortAnswers) v a h k = let e = k.kept (λ z. omega (arith, z)) in (e.0, e.2)

pub run_meets : RunMeets
run_meets ws top calls out r v a h =
    let k : BatchTable first_heap_cell ws top calls out (ran_in r v top a) =
    subst (λ (o : Outcome). BatchTable first_heap_cell ws top calls out o) (sym h)
    (batch_answers first_heap_cell ws top calls out) in
    (k, running ws top calls out r v a h k)

-- ---- a print

-- a print that is done is one of a register of a sound store
print_sound : (ws : List ℕ) (top i n : ℕ) (v : Verdict) → v.status ≡ 0 → PrintedAs first_heap_cell ws top i n v
    → Sound first_heap_cell ws top × (i < first_heap_cell)
print_sound ws top i n v e (unsound _ j z) = absurd (z e)
print_sound ws top i n v e (no_register s h) = absurd (omega (arith, e))
print_sound ws top i n v e (written s k h m) = (k, h)

printing : (ws : List ℕ) (top i n : ℕ) (r : Result ℕ NoText) (a : List ℕ)
    → PrintTable first_heap_cell ws top i n (printed_in r a) → Printing ws top i n r a
printing ws top i n (Ok m) a k =
    let s = print_sound ws top i n (only 0) refl k.prints in
    let w = k.whole refl in (s.0, s.1, w.0, rw w.0 w.1)
printing ws top i n (Err (printed.Unsound u)) a k = (k.refused (refusal_not u)).1
printing ws top i n (Err printed.NoRegister) a k = (k.refused (λ z. omega (arith, z))).1
printing ws top i n (Err printed.TooDeep) a k = (k.refused (λ z. omega (arith, z))).1
printing ws top i n (Err printed.ShortSpace) a k = (k.refused (λ z. omega (arith, z))).1

pub print_meets : PrintMeets
print_meets ws top i out r a h =
    let k : PrintTable first_heap_cell ws top i (length out) (printed_in r a) =
    subst (λ (p : text.Printed). PrintTable first_heap_cell ws top i (length out) p) (sym h)
    (print_answers first_heap_cell ws top i (length out)) in
    (k, printing ws top i (length out) r a k)

pub prints_never_show : PrintsNeverShow
prints_never_show ws top ws' top' i out out' r r' a a' s s' c e l p q =
    one_print ws top i out r r' a a' p
    (q ∙ (sym (alike_printed first_heap_cell (omega arith) ws top ws' top' i (length out') s s' c e)
    ∙ ap (text.print_in first_heap_cell ws top i) (sym l)))
