-- `serve::capacity_of` meets its contract: the tests are made in the order of the definition. Assumes nothing.
use Rattle.std.proofs.Common.{arith}
use Rattle.meaning.specs.Limits.{first_heap_cell, program_cells, program_bytes}
use Rattle.meaning.proofs.program.Tests.{too_short, too_small, too_large, too_long, broken, right}
use Rattle.serve.proofs.capacity_of.Goals as goal

pub returns-then-input-lt4 : goal.returns-then-input-lt4
returns-then-input-lt4 c = too_short first_heap_cell c.args.input.now (omega arith)

pub returns-then-cells-lt-FIRST_HEAP_CELL : goal.returns-then-cells-lt-FIRST_HEAP_CELL
returns-then-cells-lt-FIRST_HEAP_CELL c =
    too_small first_heap_cell c.args.input.now (omega arith) c.word-cells.result c.word-cells.ensures (omega arith)

pub returns-then-cells-gt-PROGRAM_CELLS : goal.returns-then-cells-gt-PROGRAM_CELLS
unfolding program_cells program_bytes
returns-then-cells-gt-PROGRAM_CELLS c =
    too_large first_heap_cell c.args.input.now (omega arith) c.word-cells.result c.word-cells.ensures (omega arith)
    (omega arith)

pub returns-then-input-gt-PROGRAM_BYTES : goal.returns-then-input-gt-PROGRAM_BYTES
unfolding program_cells program_bytes
returns-then-input-gt-PROGRAM_BYTES c =
    too_long first_heap_cell c.args.input.now (omega arith) c.word-cells.result c.word-cells.ensures (omega arith)
    (omega arith) (omega arith)

pub returns-then-input-ne0 : goal.returns-then-input-ne0
unfolding program_cells program_bytes
returns-then-input-ne0 c =
    broken first_heap_cell c.args.input.now (omega arith) c.word-cells.result c.word-cells.ensures (omega arith)
    (omega arith) (omega arith) (omega (arith, c.if-input-ne0.true))

pub returns : goal.returns
unfolding program_cells program_bytes
returns c = (
  right first_heap_cell c.args.input.now (omega arith) c.word-cells.result c.word-cells.ensures (omega arith)
      (omega arith) (omega arith) (omega (arith, c.if-input-ne0.false)),
  c.word-cells.ensures,
)
