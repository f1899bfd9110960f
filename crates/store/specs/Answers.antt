-- SCOPE's number and values for each case of an answer (5.1 to 5.5).
-- Assumes nothing.
use Rattle.std.specs.Prelude.{◌≡◌, Option, None, Some, Result, Ok, Err, List, ℕ, ◌+◌, ◌*◌, ◌≤◌, length}
use Rattle.std.specs.Borrow.{Bor}
use Rattle.meaning.specs.Limits.{first_heap_cell}
use Rattle.meaning.specs.Verdicts.{Verdict, only, damaged_at, Done, done, refused}
use Rattle.meaning.specs.Check.{check}
use Rattle.meaning.specs.Fresh.{fresh_in}
use Rattle.meaning.specs.Look.{Span, look_span, look}
use Rattle.store.specs.declared.Rule.{Rule}
use Rattle.store.specs.declared.Rule.TheVariants.{StrayBit, NotBracket, BadEmpty, BadSymbol, BadEnds, BeyondTop}
use Rattle.store.specs.declared.Unsound.{Unsound}
use Rattle.store.specs.declared.Unsound.TheVariants as unsound
use Rattle.store.specs.declared.BadLength.{BadLength}
use Rattle.store.specs.declared.Span as span

-- the rules of a cell by number (SCOPE 1.6)
abbrev pub rule_number : Rule → ℕ
rule_number StrayBit = 1
rule_number NotBracket = 2
rule_number BadEmpty = 3
rule_number BadSymbol = 4
rule_number BadEnds = 5
rule_number BeyondTop = 6

-- the number of the rule that a cell breaks, or 0 for a cell that breaks none
abbrev pub broken_number : Option Rule → ℕ
broken_number None = 0
broken_number (Some q) = rule_number q

-- an unsound store: 1 for the length; 2 for `top`; 3 with the first damaged cell and the rule that it breaks
abbrev pub refusal_of : Unsound → Verdict
refusal_of unsound.BadLength = only 1
refusal_of unsound.BadTop = only 2
refusal_of (unsound.Damaged c q) = damaged_at c (rule_number q)

-- the check: 0, or why the store is unsound
abbrev pub verdict_of : Result (Unit {0}) Unsound → Verdict
verdict_of (Ok s) = only 0
verdict_of (Err u) = refusal_of u

-- a fresh store: 0 with its `top`, or 1 with `top` 0; and the words that are left
abbrev pub made_in : Result ℕ BadLength → List ℕ → Done
made_in (Ok t) ws = done ws t 0
made_in (Err e) ws = refused ws 0 (only 1)

-- the look's place
abbrev pub span_in : span.Span → Span
span_in e = record { from = e.from; to = e.to }

-- the extent is that of register i's cells, and a part of the store
abbrev pub Placed : ℕ → List ℕ → ℕ → ℕ → span.Span → Type 0
Placed F ws top i e = (span_in e ≡ look_span F ws top i) × (e.from ≤ e.to) × (e.to ≤ length ws)

-- r refers to the place s of what ws refers to: `ref_ptr` is a block of memory and a byte of it; a word has four bytes
abbrev pub PartAt : Bor (List ℕ) → Span → Bor (List ℕ) → Type 0
PartAt ws s r = (r.ref_ptr.0 ≡ ws.ref_ptr.0) × (r.ref_ptr.1 ≡ ws.ref_ptr.1 + 4 * s.from)

-- ---- what the public functions promise: the contracts cite these, and so does every claim about them

-- `check`, of its answer
abbrev pub Checks : List ℕ → ℕ → Result (Unit {0}) Unsound → Type 0
Checks ws top r = verdict_of r ≡ check first_heap_cell ws top

-- `fresh`, of its answer and the words vs that it leaves
abbrev pub Makes : List ℕ → Result ℕ BadLength → List ℕ → Type 0
Makes ws r vs = made_in r vs ≡ fresh_in first_heap_cell ws

-- `look`, of the part r: its words, and where it lies
abbrev pub Looks : Bor (List ℕ) → ℕ → ℕ → Bor (List ℕ) → Type 0
Looks ws top i r =
    (r.now ≡ look first_heap_cell ws.now top i) × PartAt ws (look_span first_heap_cell ws.now top i) r
