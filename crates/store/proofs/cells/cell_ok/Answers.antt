-- `store::cells::cell_ok` meets its contract. Assumes nothing.
use native.Mathlib.Omega.{arith}
use Rattle.store.proofs.Rules.{register_right, heap_right, free_right}
use Rattle.store.proofs.cells.cell_ok.Goals as goal

pub returns-then-c-first : goal.returns-then-c-first
returns-then-c-first c = register_right _ _ _ _ _ c.requires.1 _ (omega arith) c.if-c-first.true c.bracket_ok.ensures

pub returns-then-c-top : goal.returns-then-c-top
returns-then-c-top c = heap_right _ _ _ _ _ c.requires.1 _ c.if-c-top.true c.if-c-first.false c.term_ok.ensures

pub returns : goal.returns
returns c = free_right _ _ _ _ _ c.requires.1 c.if-c-top.false
