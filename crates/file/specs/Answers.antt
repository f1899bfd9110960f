-- SCOPE's number and values for each case of an answer (5.9, 5.10). Assumes nothing.
use Rattle.std.specs.Prelude.{◌≡◌, List, ℕ, length, Result, Ok, Err}
use Rattle.meaning.specs.Limits.{first_heap_cell, edition}
use Rattle.meaning.specs.Verdicts.{Verdict, only, damaged_at, Done}
use Rattle.meaning.specs.File as file
use Rattle.store.specs.Answers.{rule_number, refusal_of}
use Rattle.file.specs.declared.NotLoaded.{NotLoaded}
use Rattle.file.specs.declared.NotLoaded.TheVariants as not_loaded
use Rattle.file.specs.declared.NotSaved.{NotSaved}
use Rattle.file.specs.declared.NotSaved.TheVariants as not_saved
use Rattle.file.specs.declared.Saved.{Saved}

-- a file that is refused: 30 where it is too short, 31 for its edition, 32 for its distance, 33 for its capacity, 35
-- for a slice of another length; 3 with the first damaged cell and the rule that it breaks; 34 for a store that is not
-- collected
abbrev pub not_loaded_of : NotLoaded → Verdict
not_loaded_of not_loaded.ShortFile = only 30
not_loaded_of not_loaded.BadEdition = only 31
not_loaded_of not_loaded.BadDistance = only 32
not_loaded_of not_loaded.BadCapacity = only 33
not_loaded_of not_loaded.WrongSlice = only 35
not_loaded_of (not_loaded.Damaged c q) = damaged_at c (rule_number q)
not_loaded_of not_loaded.NotCollected = only 34

-- loading: 0, or why the file is refused
abbrev pub verdict_of : Result ℕ NotLoaded → Verdict
verdict_of (Ok t) = only 0
verdict_of (Err e) = not_loaded_of e

-- `top` of the store, or 0
abbrev pub top_of : Result ℕ NotLoaded → ℕ
top_of (Ok t) = t
top_of (Err e) = 0

-- and the words that are left
abbrev pub loaded_in : Result ℕ NotLoaded → List ℕ → Done
loaded_in r ws = record { verdict = verdict_of r; words = ws; top = top_of r }

-- a store that is not saved: the check's refusal with `top` as it came, or 22 with the new `top`
abbrev pub not_saved_of : NotSaved → Verdict
not_saved_of (not_saved.Unsound u) = refusal_of u
not_saved_of (not_saved.ShortSpace t) = only 22

abbrev pub top_after : NotSaved → ℕ → ℕ
top_after (not_saved.Unsound u) top = top
top_after (not_saved.ShortSpace t) top = t

-- saving: 0 with the new `top` and the length of the file, or that. And the words and the space that are left
abbrev pub saved_in : Result Saved NotSaved → List ℕ → ℕ → List ℕ → file.Saved
saved_in (Ok s) ws top space =
    record { verdict = only 0; words = ws; top = s.top; size = s.length; space = space }
saved_in (Err e) ws top space =
    record { verdict = not_saved_of e; words = ws; top = top_after e top; size = 0; space = space }

-- ---- what the public functions promise: the contracts cite these, and so does every claim about them

-- `load`, of a file bs and a slice ws: its answer and the words vs that it leaves
abbrev pub Loads : List ℕ → List ℕ → Result ℕ NotLoaded → List ℕ → Type 0
Loads bs ws r vs = loaded_in r vs ≡ file.load_in bs ws

-- `save`, of its answer, the words vs and the space ss that it leaves, where `out` was lent
abbrev pub Saves : List ℕ → ℕ → List ℕ → Result Saved NotSaved → List ℕ → List ℕ → Type 0
Saves ws top out r vs ss = saved_in r vs top ss ≡ file.save_in edition first_heap_cell ws top (length out)
