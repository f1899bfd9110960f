-- SCOPE's number and values for each case of printing's answer (5.7). Assumes nothing.
use Rattle.std.specs.Prelude.{◌≡◌, List, ℕ, Result, Ok, Err, length}
use Rattle.meaning.specs.Limits.{first_heap_cell}
use Rattle.meaning.specs.Verdicts.{Verdict, only}
use Rattle.meaning.specs.Text as text
use Rattle.store.specs.Answers.{refusal_of}
use Rattle.text.specs.declared.NoText.{NoText}
use Rattle.text.specs.declared.NoText.TheVariants as no_text

-- the check's refusal; 20 for a register that is none, 21 for a bracket that is one too many, 22 for a byte that does
-- not fit
abbrev pub no_text_of : NoText → Verdict
no_text_of (no_text.Unsound u) = refusal_of u
no_text_of no_text.NoRegister = only 20
no_text_of no_text.TooDeep = only 21
no_text_of no_text.ShortSpace = only 22

-- 0 with the length of the text, or why there is none, with length 0. And the text space that is left
abbrev pub printed_in : Result ℕ NoText → List ℕ → text.Printed
printed_in (Ok n) out = record { verdict = only 0; size = n; space = out }
printed_in (Err why) out = record { verdict = no_text_of why; size = 0; space = out }

-- what `print` promises, of its answer and the text space vs that it leaves, where `out` was lent
abbrev pub Prints : List ℕ → ℕ → ℕ → List ℕ → Result ℕ NoText → List ℕ → Type 0
Prints ws top i out r vs = printed_in r vs ≡ text.print_in first_heap_cell ws top i (length out)
