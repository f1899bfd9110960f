-- Demands 1 and 2 of one use of a public function (SCOPE 8.1, 8.2): whatever is lent, what the function returned and
-- left is as its table says, a refusal leaves everything as it was lent, and what is done means what it says. Nothing
-- is known of the use but what the contract promises. Answers are read through the definitions that give their numbers:
-- `verdict_of`, `made_in`, `collected_in`, `ran_in`, `printed_in`. Not here: a text typed in (Texts). Assumes nothing.
use Rattle.std.specs.Prelude.{◌≡◌, Result, Ok, Err, List, ◌++◌, ℕ, ◌+◌, ◌-◌, ◌*◌, ◌<◌, length, take, drop, replicate}
use Rattle.meaning.specs.Limits.{first_heap_cell}
use Rattle.meaning.specs.Sound.{ends, at, capacity, Sound}
use Rattle.meaning.specs.Meaning.{meaning}
use Rattle.meaning.specs.Reach.{live}
use Rattle.meaning.specs.Verdicts.{only}
use Rattle.meaning.specs.Text.{text}
use Rattle.store.specs.Answers.{verdict_of, made_in, Placed, Checks, Makes, Looks}
use Rattle.store.specs.declared.Unsound.{Unsound}
use Rattle.store.specs.declared.BadLength.{BadLength}
use Rattle.store.specs.declared.Span.{Span}
use Rattle.collect.specs.Answers.{collected_in, Collects}
use Rattle.collect.specs.declared.Collected.{Collected}
use Rattle.calls.specs.Answers.{ran_in, Runs}
use Rattle.calls.specs.declared.NotRun.{NotRun}
use Rattle.text.specs.Answers.{printed_in, Prints}
use Rattle.text.specs.declared.NoText.{NoText}
use Rattle.promises.specs.Table.{CheckTable, FreshTable, LookTable, CollectTable, BatchTable}
use Rattle.promises.specs.Collecting.{CollectedFrom}
use Rattle.promises.specs.Calls.{BatchRun}
use Rattle.promises.specs.Alike.{Alike}
use Rattle.promises.specs.Printing.{PrintTable}
use Rattle.demands.specs.Promised.{Slice}

-- ---- the check, a fresh store

abbrev pub CheckMeets : Type 0
CheckMeets =
    (ws : List ℕ) (top : ℕ) (r : Result (Unit {0}) Unsound) → Checks ws top r
    → CheckTable first_heap_cell ws top (verdict_of r)

abbrev pub FreshMeets : Type 0
FreshMeets =
    (ws : List ℕ) (r : Result ℕ BadLength) (v : List ℕ) → Makes ws r v
    → FreshTable first_heap_cell ws (made_in r v)

-- ---- the look: the words, and that the part lies in what was lent, eight bytes a cell, at the register's left end

abbrev pub LookMeets : Type 0
LookMeets =
    (ws : Slice) (top i : ℕ) (r : Slice) → Looks ws top i r
    → LookTable first_heap_cell ws.now top i r.now
    × ((l e : ℕ) → Sound first_heap_cell ws.now top → i < first_heap_cell → at ws.now i ≡ ends l e
    → (r.ref_ptr.0 ≡ ws.ref_ptr.0) × (r.ref_ptr.1 ≡ ws.ref_ptr.1 + 8 * l))

-- the words between the two word numbers of a span are those of a look
abbrev pub SpanMeets : Type 0
SpanMeets =
    (ws : List ℕ) (top i : ℕ) (r : Span) → Placed first_heap_cell ws top i r
    → LookTable first_heap_cell ws top i (take (r.to - r.from) (drop r.from ws))

-- ---- collecting: done, with live and the new `top`, it leaves the collected store; refused, it leaves all as lent

abbrev pub Collecting : List ℕ → ℕ → Result Collected Unsound → List ℕ → Type 0
Collecting ws top (Ok c) v =
    Sound first_heap_cell ws top × (c.live ≡ live first_heap_cell ws top) × (c.top ≡ first_heap_cell + c.live)
    × CollectedFrom first_heap_cell ws top v
Collecting ws top (Err u) v = v ≡ ws

abbrev pub CollectMeets : Type 0
CollectMeets =
    (ws : List ℕ) (top : ℕ) (r : Result Collected Unsound) (v : List ℕ) → Collects ws top r v
    → CollectTable first_heap_cell ws top (collected_in r v top) × Collecting ws top r v

-- ---- a batch: ended, it has done call by call what each call says, and the store is sound again; refused, it leaves
-- store and answers as lent

abbrev pub Running : List ℕ → ℕ → List ℕ → List ℕ → Result ℕ NotRun → List ℕ → List ℕ → Type 0
Running ws top calls out (Ok t) v a =
    Sound first_heap_cell ws top × Sound first_heap_cell v t
    × BatchRun first_heap_cell ws top calls out (record { verdict = only 0; words = v; top = t; answers = a })
Running ws top calls out (Err e) v a = (v ≡ ws) × (a ≡ out)

abbrev pub RunMeets : Type 0
RunMeets =
    (ws : List ℕ) (top : ℕ) (calls out : List ℕ) (r : Result ℕ NotRun) (v a : List ℕ) → Runs ws top calls out r v a
    → BatchTable first_heap_cell ws top calls out (ran_in r v top a) × Running ws top calls out r v a

-- ---- a print: done, with a length, it leaves the text of what register i denotes and zeros after it; refused, it
-- leaves n zeros, as many as the text space has bytes

abbrev pub Printing : List ℕ → ℕ → ℕ → ℕ → Result ℕ NoText → List ℕ → Type 0
Printing ws top i n (Ok m) a =
    Sound first_heap_cell ws top × (i < first_heap_cell) × (m ≡ length (text (meaning ws i)))
    × (a ≡ text (meaning ws i) ++ replicate (n - m) 0)
Printing ws top i n (Err e) a = a ≡ replicate n 0

abbrev pub PrintMeets : Type 0
PrintMeets =
    (ws : List ℕ) (top i : ℕ) (out : List ℕ) (r : Result ℕ NoText) (a : List ℕ) → Prints ws top i out r a
    → PrintTable first_heap_cell ws top i (length out) (printed_in r a) × Printing ws top i (length out) r a

-- demand 3 of prints: two sound stores that are alike, and text spaces that are equally long
abbrev pub PrintsNeverShow : Type 0
PrintsNeverShow =
    (ws : List ℕ) (top : ℕ) (ws' : List ℕ) (top' i : ℕ) (out out' : List ℕ) (r r' : Result ℕ NoText) (a a' : List ℕ)
    → Sound first_heap_cell ws top → Sound first_heap_cell ws' top' → capacity ws ≡ capacity ws'
    → Alike first_heap_cell ws top ws' top' → length out ≡ length out'
    → Prints ws top i out r a → Prints ws' top' i out' r' a' → (r ≡ r') × (a ≡ a')
