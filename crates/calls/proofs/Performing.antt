-- One call, whose own words have been judged. In order:
--   d_register, a_register, b_register   a word is a register where its operation uses it as one;  registers  all three
--   refused_by, performed                what the call does, by what is wrong with its words
-- Assumes nothing.
use mathlib.Core.Path.{◌≡◌, refl, sym, ◌∙◌}
use mathlib.Core.List.{List}
use Prim.Native.Nat.{ℕ, ◌<◌}
use native.Mathlib.Omega.{arith}
use Rattle.meaning.specs.Limits.{first_heap_cell}
use Rattle.meaning.specs.Verdicts.{refused, only}
use Rattle.meaning.specs.Operands.{Op, CLEAR, COPY, SYMBOL, WRAP, JOIN, HEAD, REST, OPEN, LENGTH, FIRST, LIVE}
use Rattle.meaning.specs.Operands.{COLLECT, ops, op_at, index, use_d, use_a, use_b, fault}
use Rattle.meaning.specs.Call.{perform, step}
use Rattle.meaning.proofs.call.Performing as performing
use Rattle.calls.specs.Operations.{op_of}
use Rattle.calls.specs.Refusals.{status_of}
use Rattle.calls.specs.declared.operands.Call.{Call}
use Rattle.calls.specs.declared.operations.Operation.{Operation}
use Rattle.calls.specs.declared.answer.Refusal.{Refusal}
use Rattle.calls.specs.declared.answer.Refusal.TheVariants as refusal

-- the operation with its own number
op_at_index : (p : Op) → op_at (index p) ≡ p
unfolding op_at ops
op_at_index CLEAR = refl
op_at_index COPY = refl
op_at_index SYMBOL = refl
op_at_index WRAP = refl
op_at_index JOIN = refl
op_at_index HEAD = refl
op_at_index REST = refl
op_at_index OPEN = refl
op_at_index LENGTH = refl
op_at_index FIRST = refl
op_at_index LIVE = refl
op_at_index COLLECT = refl

-- its words are registers where the table of uses says so
module _ (p : Operation) (d a b : ℕ) (w : fault first_heap_cell (index (op_of p)) d a b ≡ 0) where
  pub d_register : use_d (op_of p) ≡ 1 → d < first_heap_cell
  d_register u = performing.d_register (index (op_of p)) d a b w refl (rw op_at_index u)

  pub a_register : use_a (op_of p) ≡ 1 → a < first_heap_cell
  a_register u = performing.a_register (index (op_of p)) d a b w refl (rw op_at_index u)

  pub b_register : use_b (op_of p) ≡ 1 → b < first_heap_cell
  b_register u = performing.b_register (index (op_of p)) d a b w refl (rw op_at_index u)

pub ruleset registers = (d_register, a_register, b_register)

-- ---- one call, by what is wrong with its words

is_refusal : (why : Refusal) → status_of why ≡ 0 → ⊥
is_refusal refusal.BadOperation e = omega arith
is_refusal refusal.BadRegister e = omega arith
is_refusal refusal.StrayWord e = omega arith
is_refusal refusal.BadCode e = omega arith
is_refusal refusal.Empty e = omega arith
is_refusal refusal.WrongKind e = omega arith
is_refusal refusal.NoRoom e = omega arith

module _ (ws : List ℕ) (top : ℕ) (c : Call) where
  pub refused_by : (why : Refusal) → fault first_heap_cell c.operation c.d c.a c.b ≡ status_of why
      → step first_heap_cell ws top c.operation c.d c.a c.b ≡ refused ws top (only (status_of why))
  refused_by why e = performing.step_refused ws top c.operation c.d c.a c.b (sym e) (is_refusal why)

  pub performed : (p : Op) → c.operation ≡ index p → fault first_heap_cell c.operation c.d c.a c.b ≡ 0
      → step first_heap_cell ws top c.operation c.d c.a c.b ≡ perform p first_heap_cell ws top c.d c.a c.b
  performed p e w =
      performing.step_performed ws top c.operation c.d c.a c.b (sym w) refl ∙ rw (e, op_at_index p) refl
