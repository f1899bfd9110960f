-- One use of `typing::type_in`, and a text back and forth: printed and typed in, typed in and printed. In order:
--   refusal_small, fault_away          the numbers of refusals
--   type_kept, type_full               a refusal keeps the words;  one for room leaves the collected store
--   type_sets, type_meets              a text that is done;  a typed text, by its answer
--   type_zero, print_zero              an answer of status 0
--   print_then_type, type_then_print   back and forth
-- Assumes nothing.
use Rattle.std.specs.Prelude.{Result, Ok, Err}
use mathlib.Core.Path.{◌≡◌, refl, sym, ap, ◌∙◌, subst}
use mathlib.Core.Logic.{◌⊎◌, inl, inr, ◌≢◌}
use mathlib.Core.List.{List, [], ◌∷◌, ◌++◌}
use Prim.Native.Nat.{ℕ, ◌-◌}
use native.Mathlib.Omega.{arith}
use lib.ListN.{length, take, replicate}
use borrow.Author.Tests.{ne_eqb}
use Rattle.meaning.specs.Limits.{first_heap_cell}
use Rattle.meaning.specs.Expr.{Expr}
use Rattle.meaning.specs.Sound.{Sound}
use Rattle.meaning.specs.Meaning.{meaning}
use Rattle.meaning.specs.Verdicts.{only, Done, done}
use Rattle.meaning.specs.Effect.{becomes}
use Rattle.meaning.specs.Lay.{all_terms}
use Rattle.meaning.specs.Text as text
use Rattle.meaning.specs.Typed.{type_in}
use Rattle.meaning.proofs.typed.Cases.{type_cases}
use Rattle.store.specs.Answers.{refusal_of}
use Rattle.store.specs.declared.Unsound.{Unsound}
use Rattle.store.specs.declared.Unsound.TheVariants as unsound
use Rattle.reader.specs.Readers.{fault_of}
use Rattle.reader.specs.declared.judging.Fault.{Fault}
use Rattle.reader.specs.declared.judging.Fault.TheVariants as fault
use Rattle.text.specs.Answers.{printed_in}
use Rattle.text.specs.declared.NoText.{NoText}
use Rattle.text.specs.declared.NoText.TheVariants as printed
use Rattle.typing.specs.Answers.{typed_in, Types}
use Rattle.typing.specs.declared.NotTyped.{NotTyped}
use Rattle.typing.specs.declared.NotTyped.TheVariants as typed
use Rattle.promises.specs.Table.{Not, OneOf}
use Rattle.promises.specs.Collecting.{CollectedFrom}
use Rattle.promises.specs.Typing.{said, typed_from, TypeTable}
use Rattle.promises.specs.Holding.{OwnAlone}
use Rattle.promises.proofs.table.Rules.{judged_number}
use Rattle.promises.proofs.typing.Again.{type_done, said_done}
use Rattle.promises.proofs.Final.{collecting_keeps, writes_back, type_answers, new_cells_only, printed_typed}
use Rattle.promises.proofs.Final.{typed_printed}
use Rattle.demands.specs.Texts.{TypedDone, Typing, TypeMeets, PrintThenType, TypeThenPrint}
use Rattle.demands.proofs.Uses.{sound_or_not, refusal_not}

-- ---- refused

refusal_small : (u : Unsound) → (refusal_of u).status ≢ 16
refusal_small unsound.BadLength z = omega (arith, z)
refusal_small unsound.BadTop z = omega (arith, z)
refusal_small (unsound.Damaged c q) z = omega (arith, z)

fault_away : (f : Fault) → (fault_of f ≢ 0) × (fault_of f ≢ 16)
fault_away fault.NoCode = (λ z. omega (arith, z), λ z. omega (arith, z))
fault_away fault.TooDeep = (λ z. omega (arith, z), λ z. omega (arith, z))
fault_away fault.TooMany = (λ z. omega (arith, z), λ z. omega (arith, z))
fault_away fault.NotText = (λ z. omega (arith, z), λ z. omega (arith, z))

module _ (ws : List ℕ) (top d : ℕ) (bs : List ℕ) where
  abbrev Table : Done → Type 0
  Table r = TypeTable first_heap_cell ws top d bs r

  type_kept : (r : Done) → Table r → r.verdict.status ≢ 0 → r.verdict.status ≢ 16 → r.words ≡ ws
  type_kept r k n m = go (sound_or_not ws top)
    where
      go : Sound first_heap_cell ws top ⊎ Not (Sound first_heap_cell ws top) → r.words ≡ ws
      go (inl s) = ((k.types s).refused n m).0
      go (inr x) = (k.unsound x).2

  -- 16 is not the check's
  not_judged : OneOf 16 (0 ∷ 1 ∷ 2 ∷ 3 ∷ []) → ⊥
  not_judged (inl e) = omega (arith, e)
  not_judged (inr (inl e)) = omega (arith, e)
  not_judged (inr (inr (inl e))) = omega (arith, e)
  not_judged (inr (inr (inr (inl e)))) = omega (arith, e)
  not_judged (inr (inr (inr (inr e)))) = e

  type_full : (t : ℕ) (v : List ℕ) → Table (typed_in (Err (typed.NoRoom t)) top v) → Typing ws top d bs (Err (typed.NoRoom t)) v
  type_full t v k = go (sound_or_not ws top)
    where
      go : Sound first_heap_cell ws top ⊎ Not (Sound first_heap_cell ws top) → Typing ws top d bs (Err (typed.NoRoom t)) v
      go (inl s) =
          let f = (k.types s).full refl in (
            s,
            f.1,
            subst (λ (w : List ℕ). CollectedFrom first_heap_cell ws top w) (sym f.0)
                (collecting_keeps first_heap_cell (omega arith) ws top s),
          )
      go (inr x) = absurd (not_judged (judged_number first_heap_cell ws top [] (only 16) (k.unsound x).0))

  -- ---- done

  type_sets : (t : ℕ) (v : List ℕ) → Types ws top d bs (Ok t) v → Table (done v t 0)
      → TypedDone ws top d bs t v
  unfolding becomes
  type_sets t v h k =
      let z : (type_in first_heap_cell ws top d bs).verdict.status ≡ 0 =
      ap (λ (r : Done). r.verdict.status) (sym h) in
      let c = type_done first_heap_cell ws top d bs (type_in first_heap_cell ws top d bs)
      (type_cases first_heap_cell ws top d bs) z in
      let x = k.types c.0 in
      record {
        sound = (c.0, x.sound);
        register = c.1;
        whole = (c.2, (writes_back bs c.2).2);
        denotes = said_done first_heap_cell ws top d bs (done v t 0) c.1 x refl;
        others = λ i l n. x.registers i l ∙ rw (ne_eqb i d n) refl;
        alone = subst (λ (r : Done). OwnAlone d (typed_from first_heap_cell ws top d bs) (all_terms (said bs)) r.words)
            (sym h) (new_cells_only first_heap_cell ws top d bs z);
        new_top = x.done_top refl;
      }

  typing : (r : Result ℕ NotTyped) (v : List ℕ) → Types ws top d bs r v → Table (typed_in r top v) → Typing ws top d bs r v
  typing (Ok t) v h k = type_sets t v h k
  typing (Err (typed.Unsound u)) v h k = type_kept (typed_in (Err (typed.Unsound u)) top v) k (refusal_not u) (refusal_small u)
  typing (Err typed.NoRegister) v h k =
      type_kept (typed_in (Err typed.NoRegister) top v) k (λ z. omega (arith, z)) (λ z. omega (arith, z))
  typing (Err (typed.BadText b)) v h k =
      type_kept (typed_in (Err (typed.BadText b)) top v) k (fault_away b.fault).0 (fault_away b.fault).1
  typing (Err (typed.NoRoom t)) v h k = type_full t v k

pub type_meets : TypeMeets
type_meets ws top d bs r v h =
    let k : TypeTable first_heap_cell ws top d bs (typed_in r top v) =
    subst (λ (x : Done). TypeTable first_heap_cell ws top d bs x) (sym h) (type_answers first_heap_cell ws top d bs) in
    (k, typing ws top d bs r v h k)

-- ---- back and forth

-- status 0 is the answer of what is done, and of nothing else
type_zero : (r : Result ℕ NotTyped) (top : ℕ) (v : List ℕ) (d : ℕ) (e : Expr)
    → ((typed_in r top v).verdict.status ≡ 0) × (meaning (typed_in r top v).words d ≡ e)
    → ((n : ℕ) × (r ≡ Ok n)) × (meaning v d ≡ e)
type_zero (Ok t) top v d e h = ((t, refl), h.1)
type_zero (Err (typed.Unsound u)) top v d e h = absurd (refusal_not u h.0)
type_zero (Err typed.NoRegister) top v d e h = absurd (omega (arith, h.0))
type_zero (Err (typed.BadText b)) top v d e h = absurd ((fault_away b.fault).0 h.0)
type_zero (Err (typed.NoRoom t)) top v d e h = absurd (omega (arith, h.0))

pub print_then_type : PrintThenType
print_then_type ws top i out m a p u t d s l room r v h =
    let z : (text.print_in first_heap_cell ws top i (length out)).verdict.status ≡ 0 =
    ap (λ (x : text.Printed). x.verdict.status) (sym p) in
    let k = printed_typed first_heap_cell ws top i (length out) z u t s d l room in
    type_zero r t v d (meaning ws i)
    (subst (λ (x : Done). (x.verdict.status ≡ 0) × (meaning x.words d ≡ meaning ws i)) (sym h)
    (subst (λ (x : text.Printed).
    ((type_in first_heap_cell u t d (take x.size x.space)).verdict.status ≡ 0)
    × (meaning (type_in first_heap_cell u t d (take x.size x.space)).words d ≡ meaning ws i)) (sym p) k))

print_zero : (r : Result ℕ NoText) (a : List ℕ) (n : ℕ) (s : List ℕ)
    → ((printed_in r a).verdict.status ≡ 0) × ((printed_in r a).size ≡ n) × ((printed_in r a).space ≡ s)
    → (r ≡ Ok n) × (a ≡ s)
print_zero (Ok m) a n s h = (ap (λ (k : ℕ). Ok k) h.1, h.2)
print_zero (Err (printed.Unsound u)) a n s h = absurd (refusal_not u h.0)
print_zero (Err printed.NoRegister) a n s h = absurd (omega (arith, h.0))
print_zero (Err printed.TooDeep) a n s h = absurd (omega (arith, h.0))
print_zero (Err printed.ShortSpace) a n s h = absurd (omega (arith, h.0))

pub type_then_print : TypeThenPrint
type_then_print ws top d bs t v h out l r a p =
    let z : (type_in first_heap_cell ws top d bs).verdict.status ≡ 0 =
    ap (λ (x : Done). x.verdict.status) (sym h) in
    let s : List ℕ = bs ++ replicate (length out - length bs) 0 in
    let Same : text.Printed → Type 0 =
    (λ x. (x.verdict.status ≡ 0) × (x.size ≡ length bs) × (x.space ≡ s)) in
    let k = typed_printed first_heap_cell ws top d bs z (length out) l in
    print_zero r a (length bs) s
    (subst Same (sym p)
    (subst (λ (x : Done). Same (text.print_in first_heap_cell x.words x.top d (length out))) (sym h) k))
