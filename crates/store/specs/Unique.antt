-- The claims that a statement of this crate leaves no second outcome (SCOPE 8.5), and that `look`
-- shows the words of the place that `span` names. Proved in proofs/Final.antt.
-- Assumes nothing.
use Rattle.std.specs.Prelude.{◌≡◌, Result, List, ℕ, ◌-◌, take, drop}
use Rattle.std.specs.Borrow.{Bor}
use Rattle.meaning.specs.Limits.{first_heap_cell}
use Rattle.meaning.specs.Look.{look}
use Rattle.store.specs.Answers.{verdict_of, Placed, Checks, Makes, Looks}
use Rattle.store.specs.declared.Unsound.{Unsound}
use Rattle.store.specs.declared.BadLength.{BadLength}
use Rattle.store.specs.declared.Span as span

-- no two answers have the same numbers
abbrev pub VerdictsDiffer : Type 0
VerdictsDiffer = (r r' : Result (Unit {0}) Unsound) → verdict_of r ≡ verdict_of r' → r ≡ r'

abbrev pub OneCheck : Type 0
OneCheck =
    (ws : List ℕ) (top : ℕ) (r r' : Result (Unit {0}) Unsound) → Checks ws top r → Checks ws top r' → r ≡ r'

-- the answer and every word of the slice
abbrev pub OneFresh : Type 0
OneFresh =
    (ws : List ℕ) (r r' : Result ℕ BadLength) (vs vs' : List ℕ)
    → Makes ws r vs → Makes ws r' vs' → (r ≡ r') × (vs ≡ vs')

abbrev pub OneSpan : Type 0
OneSpan =
    (ws : List ℕ) (top i : ℕ) (r r' : span.Span) → Placed first_heap_cell ws top i r
    → Placed first_heap_cell ws top i r'
    → r ≡ r'

-- the words and the place of the part that is handed back; that is all of a reference to a slice
abbrev pub OneLook : Type 0
OneLook =
    (ws : Bor (List ℕ)) (top i : ℕ) (r r' : Bor (List ℕ)) → Looks ws top i r → Looks ws top i r'
    → (r.now ≡ r'.now) × (r.ref_ptr ≡ r'.ref_ptr)

abbrev pub LookAtSpan : Type 0
LookAtSpan =
    (ws : List ℕ) (top i : ℕ) (r : span.Span) → Placed first_heap_cell ws top i r
    → look first_heap_cell ws top i ≡ take (r.to - r.from) (drop r.from ws)
