-- What is wrong with a call's own words, as the code judges them: by its operation, whose row of the table of uses has
-- been read. Assumes nothing.
use mathlib.Core.Path.{◌≡◌, refl}
use mathlib.Core.Bool.{Bool, false, cond, ◌||◌}
use mathlib.Core.List.{List}
use Prim.Native.Nat.{ℕ, ◌<◌}
use lib.Dec.{ltb}
use lib.ListN.{get_or}
use borrow.Author.Tests.{lt-ltb}
use Rattle.meaning.specs.Limits.{first_heap_cell}
use Rattle.meaning.specs.Operands.{Op, CLEAR, COPY, SYMBOL, WRAP, JOIN, HEAD, REST, OPEN, LENGTH, FIRST, LIVE}
use Rattle.meaning.specs.Operands.{COLLECT, index, wrong11, wrong12, wrong13, fault}
use Rattle.calls.specs.Operations.{use_of, Row}
use Rattle.calls.specs.declared.operands.Call.{Call}
use Rattle.calls.specs.declared.operands.Use.{Use}
use Rattle.calls.specs.declared.operands.Use.TheVariants.{Unused}

is_operation : (p : Op) → ltb 11 (index p) ≡ false
is_operation CLEAR = refl
is_operation COPY = refl
is_operation SYMBOL = refl
is_operation WRAP = refl
is_operation JOIN = refl
is_operation HEAD = refl
is_operation REST = refl
is_operation OPEN = refl
is_operation LENGTH = refl
is_operation FIRST = refl
is_operation LIVE = refl
is_operation COLLECT = refl

module _ (c : Call) where
  pub no_operation : 11 < c.operation → fault first_heap_cell c.operation c.d c.a c.b ≡ 10
  unfolding fault
  no_operation h = rw (lt-ltb 11 c.operation h) refl

  -- a test over the three words, by the row that was read
  abbrev pub three_of : List Use → (ℕ → ℕ → Bool) → Bool
  three_of uses wrong =
      wrong (use_of (get_or uses 0 Unused)) c.d || wrong (use_of (get_or uses 1 Unused)) c.a
      || wrong (use_of (get_or uses 2 Unused)) c.b

  pub judged : {p : Op} {uses : List Use} → c.operation ≡ index p → Row p uses → {r s t : Bool}
      → r ≡ three_of uses (wrong11 first_heap_cell) → s ≡ three_of uses wrong12 → t ≡ three_of uses wrong13
      → fault first_heap_cell c.operation c.d c.a c.b ≡ cond r 11 (cond s 12 (cond t 13 0))
  unfolding fault
  judged {p} e u f g h = rw (e, is_operation p, f, g, h, u.d, u.a, u.b) refl
