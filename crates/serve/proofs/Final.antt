-- The claim of specs/Unique.antt, and that the bytes to write are a part of the space lent. Assumes nothing.
use mathlib.Core.Path.{ap}
use mathlib.Core.List.{List}
use Prim.Native.Nat.{ℕ, ◌≤◌}
use native.Mathlib.Omega.{arith}
use lib.ListN.{length, drop, length-append}
use Rattle.meaning.specs.Limits.{first_heap_cell}
use Rattle.meaning.specs.Program.{program}
use Rattle.serve.specs.Serves.{Serves}
use Rattle.serve.specs.Unique.{OneServe}

pub one_serve : OneServe
one_serve input out r r' out' out'' p q = (cc, cc)

pub serves_fits : (input out : List ℕ) (r : ℕ) (out' : List ℕ) → Serves input out r out' → r ≤ length out'
serves_fits input out r out' p =
    omega (arith, p.0, ap length p.1, length-append (program first_heap_cell input) (drop r out))
