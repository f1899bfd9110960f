-- `store::passes::heap_ok` meets its contract. Assumes nothing.
use borrow.Author.Rules.{rules}
use Rattle.meaning.specs.Limits.{first_heap_cell}
use Rattle.store.proofs.Damage.{heap_keeps}
use Rattle.store.proofs.passes.heap_ok.Goals as goal

pub returns : goal.returns
returns c e x l h =
    heap_keeps first_heap_cell c.args.ws.now c.args.top x l h (search (rules, c.all_pass.ensures e x l h))
