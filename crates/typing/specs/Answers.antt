-- SCOPE's number and values for each case of typing's answer (5.8). Assumes nothing.
use Rattle.std.specs.Prelude.{◌≡◌, List, ℕ, Result, Ok, Err}
use Rattle.meaning.specs.Limits.{first_heap_cell}
use Rattle.meaning.specs.Verdicts.{Verdict, Done, done, refused, only}
use Rattle.meaning.specs.Typed.{type_in}
use Rattle.store.specs.Answers.{refusal_of}
use Rattle.reader.specs.Readers.{refused_at}
use Rattle.typing.specs.declared.NotTyped.{NotTyped}
use Rattle.typing.specs.declared.NotTyped.TheVariants as no

-- the check's refusal, 20 for a register that is none, the text's refusal at its offset, or 16
abbrev pub not_typed_of : NotTyped → Verdict
not_typed_of (no.Unsound u) = refusal_of u
not_typed_of no.NoRegister = only 20
not_typed_of (no.BadText e) = refused_at e
not_typed_of (no.NoRoom t) = only 16

-- `top` after it: with 16 that of the collected store, else as it came
abbrev pub top_after : NotTyped → ℕ → ℕ
top_after (no.Unsound u) top = top
top_after no.NoRegister top = top
top_after (no.BadText e) top = top
top_after (no.NoRoom t) top = t

-- 0 with the new `top`, or why no text is typed in; and the words that are left
abbrev pub typed_in : Result ℕ NotTyped → ℕ → List ℕ → Done
typed_in (Ok t) top ws = done ws t 0
typed_in (Err e) top ws = refused ws (top_after e top) (not_typed_of e)

-- what `type_in` promises, of its answer and the words vs that it leaves
abbrev pub Types : List ℕ → ℕ → ℕ → List ℕ → Result ℕ NotTyped → List ℕ → Type 0
Types ws top d bs r vs = typed_in r top vs ≡ type_in first_heap_cell ws top d bs
