-- A store saved, before the space after its file is cleared. Assumes nothing.
use Rattle.std.specs.Prelude.{List, ℕ, length, take, Result, Ok, Err}
use Rattle.octets.specs.Space.{filled}
use Rattle.file.specs.Answers.{Saves}
use Rattle.file.specs.declared.NotSaved.{NotSaved}
use Rattle.file.specs.declared.Saved.{Saved}

-- the length of the file, or 0
abbrev pub length_of : Result Saved NotSaved → ℕ
length_of (Ok s) = s.length
length_of (Err e) = 0

-- the answer and the words vs are those of saving, and so is the space ss, once it is cleared after the file
abbrev pub Writes : List ℕ → ℕ → List ℕ → Result Saved NotSaved → List ℕ → List ℕ → Type 0
Writes ws top out r vs ss = Saves ws top out r vs (filled (length out) (take (length_of r) ss))
