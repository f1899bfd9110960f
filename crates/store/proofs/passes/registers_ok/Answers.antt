-- `store::passes::registers_ok` meets its contract. Assumes nothing.
use native.Mathlib.Omega.{arith}
use borrow.Author.Rules.{rules}
use Rattle.meaning.specs.Limits.{first_heap_cell}
use Rattle.store.proofs.Damage.{register_keeps}
use Rattle.store.proofs.passes.registers_ok.Goals as goal

pub returns : goal.returns
returns c e x l h =
    register_keeps first_heap_cell c.args.ws.now c.args.top x (omega arith) h
    (search (rules, c.all_pass.ensures e x l h))
