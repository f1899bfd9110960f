-- What `serve` promises: its contract cites this, and so does every claim about it. Assumes nothing.
use Rattle.std.specs.Prelude.{◌≡◌, List, ◌++◌, ℕ, length, drop}
use Rattle.meaning.specs.Limits.{first_heap_cell}
use Rattle.meaning.specs.Program.{program}

-- what `serve` ensures: the number of bytes r, and all bytes of `out`, lent as `out` and left as `out'`
abbrev pub Serves : List ℕ → List ℕ → ℕ → List ℕ → Type 0
Serves input out r out' =
    (r ≡ length (program first_heap_cell input)) × (out' ≡ program first_heap_cell input ++ drop r out)
