-- The operations of a call, and how it uses its words, as the definitions have them. Assumes nothing.
use Rattle.std.specs.Prelude.{◌≡◌, Bool, ◌||◌, List, ℕ, ◌<◌, Result, MatchResult, get_or}
use Rattle.std.specs.Fn.{Shared, FnReturns}
use Rattle.meaning.specs.Limits.{first_heap_cell}
use Rattle.meaning.specs.Operands.{Op, CLEAR, COPY, SYMBOL, WRAP, JOIN, HEAD, REST, OPEN, LENGTH, FIRST, LIVE}
use Rattle.meaning.specs.Operands.{COLLECT, index, use_d, use_a, use_b, fault}
use Rattle.calls.specs.Refusals.{status_of}
use Rattle.calls.specs.declared.answer.Refusal.{Refusal}
use Rattle.calls.specs.declared.answer.Refusal.TheVariants.{BadOperation}
use Rattle.calls.specs.declared.operations.Operation.{Operation}
use Rattle.calls.specs.declared.operations.Operation.TheVariants as operation
use Rattle.calls.specs.declared.operands.Call.{Call}
use Rattle.calls.specs.declared.operands.Use.{Use}
use Rattle.calls.specs.declared.operands.Use.TheVariants as use_

abbrev pub op_of : Operation → Op
op_of operation.Clear = CLEAR
op_of operation.Copy = COPY
op_of operation.Symbol = SYMBOL
op_of operation.Wrap = WRAP
op_of operation.Join = JOIN
op_of operation.Head = HEAD
op_of operation.Rest = REST
op_of operation.Open = OPEN
op_of operation.Length = LENGTH
op_of operation.First = FIRST
op_of operation.Live = LIVE
op_of operation.Collect = COLLECT

-- the operation with this number, or the refusal of a number that none has
abbrev pub Numbered : ℕ → Result Operation Refusal → Type 0
Numbered o r = MatchResult r (λ p. o ≡ index (op_of p)) (λ why. (why ≡ BadOperation) × (11 < o))

-- the numbers of the table of uses
abbrev pub use_of : Use → ℕ
use_of use_.Unused = 0
use_of use_.Register = 1
use_of use_.Code = 2

-- how an operation uses d, a and b
pub record Row (p : Op) (uses : List Use) : Type 0 where
  pub d : use_of (get_or uses 0 use_.Unused) ≡ use_d p
  pub a : use_of (get_or uses 1 use_.Unused) ≡ use_a p
  pub b : use_of (get_or uses 2 use_.Unused) ≡ use_b p

-- whether the test f, with the clauses g, finds one of a call's three words wrong: r says so for every definition
-- that the test computes
abbrev pub AnyWord : {F : Type 0} → Shared F (Use × (ℕ × Unit {0})) Bool → F → List Use → List ℕ → Bool → Type 0
AnyWord g f uses words r =
    (wrong : Use → ℕ → Bool) → ((u : Use) (w : ℕ) (b : Bool) → FnReturns g f (u, (w, tt)) b → b ≡ wrong u w)
    → r ≡ (wrong (get_or uses 0 use_.Unused) (get_or words 0 0) || wrong (get_or uses 1 use_.Unused) (get_or words 1 0)
    || wrong (get_or uses 2 use_.Unused) (get_or words 2 0))

-- the operation of a call whose own words are right, or what is wrong with them
abbrev pub Judged : Call → Result Operation Refusal → Type 0
Judged c r =
    let wrong = fault first_heap_cell c.operation c.d c.a c.b in
    MatchResult r (λ p. (c.operation ≡ index (op_of p)) × (wrong ≡ 0)) (λ why. wrong ≡ status_of why)
