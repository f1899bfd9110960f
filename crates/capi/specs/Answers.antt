-- What crosses to C, as the definitions have it: a reply's numbers with the slices as they are left.
-- Assumes nothing.
use Rattle.std.specs.Prelude.{◌≡◌, List, ℕ, length}
use Rattle.meaning.specs.Limits.{first_heap_cell, edition}
use Rattle.meaning.specs.Verdicts.{Verdict, Done}
use Rattle.meaning.specs.Check.{check, collect_in}
use Rattle.meaning.specs.Fresh.{fresh_in}
use Rattle.meaning.specs.Batch.{Outcome, batch}
use Rattle.meaning.specs.Text as text
use Rattle.meaning.specs.Typed.{type_in}
use Rattle.meaning.specs.File as file
use Rattle.store.specs.Answers.{Placed}
use Rattle.store.specs.declared.Span as span
use Rattle.capi.specs.declared.Entry.{Entry}
use Rattle.capi.specs.declared.Filed.{Filed}
use Rattle.capi.specs.declared.numbers.Numbers.{Numbers}
use Rattle.capi.specs.declared.Reply.{Reply}
use Rattle.capi.specs.declared.Text.{Text}

-- the numbers of an answer
abbrev pub numbers_are : Numbers → Verdict
numbers_are n = record { status = n.status; value = n.value; rule = n.rule }

-- a verdict and `top`
abbrev pub reply : Verdict → ℕ → Reply
reply v t = record { status = v.status; rule = v.rule; value = v.value; top = t }

-- a reply's numbers
abbrev pub verdict_is : Reply → Verdict
verdict_is r = record { status = r.status; value = r.value; rule = r.rule }

-- with the words of the store
abbrev pub done_is : Reply → List ℕ → Done
done_is r ws = record { verdict = verdict_is r; words = ws; top = r.top }

-- with the words of the store and of the answer space
abbrev pub outcome_is : Reply → List ℕ → List ℕ → Outcome
outcome_is r ws out = record { verdict = verdict_is r; words = ws; top = r.top; answers = out }

-- what printing gives, with the bytes of the text space
abbrev pub printed_is : Text → List ℕ → text.Printed
printed_is r out =
    record {
      verdict = record { status = r.status; value = r.value; rule = r.rule };
      size = r.length;
      space = out;
    }

-- what typing gives, with the words of the store
abbrev pub typed_is : Entry → List ℕ → Done
typed_is r ws =
    record { verdict = record { status = r.status; value = r.value; rule = r.rule }; words = ws; top = r.top }

-- what saving gives, with the words of the store and the bytes of the space
abbrev pub saved_is : Filed → List ℕ → List ℕ → file.Saved
saved_is r ws out =
    record {
      verdict = record { status = r.status; value = r.value; rule = r.rule };
      words = ws;
      top = r.top;
      size = r.length;
      space = out;
    }

-- ---- what the exported functions promise: the contracts cite these, and so does every claim about them

-- `zelmotar_check` gives `top` back as it came
abbrev pub Checks : List ℕ → ℕ → Reply → Type 0
Checks ws top r = (verdict_is r ≡ check first_heap_cell ws top) × (r.top ≡ top)

-- the others: of the reply, and the words vs and answers os that they leave
abbrev pub Makes : List ℕ → Reply → List ℕ → Type 0
Makes ws r vs = done_is r vs ≡ fresh_in first_heap_cell ws

abbrev pub Collects : List ℕ → ℕ → Reply → List ℕ → Type 0
Collects ws top r vs = done_is r vs ≡ collect_in first_heap_cell ws top

abbrev pub Runs : List ℕ → ℕ → List ℕ → List ℕ → Reply → List ℕ → List ℕ → Type 0
Runs ws top calls out r vs os = outcome_is r vs os ≡ batch first_heap_cell ws top calls out

-- `zelmotar_look` names a place that lies in the words, from ≤ to ≤ their number
abbrev pub Places : List ℕ → ℕ → ℕ → span.Span → Type 0
Places ws top i r = Placed first_heap_cell ws top i r

-- `zelmotar_print` leaves the bytes vs of the text space `out`
abbrev pub Prints : List ℕ → ℕ → ℕ → List ℕ → Text → List ℕ → Type 0
Prints ws top i out r vs = printed_is r vs ≡ text.print_in first_heap_cell ws top i (length out)

-- `zelmotar_type` leaves the words vs
abbrev pub Types : List ℕ → ℕ → ℕ → List ℕ → Entry → List ℕ → Type 0
Types ws top d bs r vs = typed_is r vs ≡ type_in first_heap_cell ws top d bs

-- `zelmotar_save` leaves the words vs and the bytes ss of the space `out`
abbrev pub Saves : List ℕ → ℕ → List ℕ → Filed → List ℕ → List ℕ → Type 0
Saves ws top out r vs ss = saved_is r vs ss ≡ file.save_in edition first_heap_cell ws top (length out)

-- `zelmotar_load`, of the file bs, leaves the words vs
abbrev pub Loads : List ℕ → List ℕ → Reply → List ℕ → Type 0
Loads bs ws r vs = done_is r vs ≡ file.load_in bs ws
