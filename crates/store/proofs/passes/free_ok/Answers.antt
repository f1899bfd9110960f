-- `store::passes::free_ok` meets its contract. Assumes nothing.
use mathlib.Core.Path.{sym, ◌∙◌}
use native.Mathlib.Omega.{arith}
use borrow.Author.Tests.{eqb-true}
use Rattle.meaning.specs.Limits.{first_heap_cell}
use Rattle.store.proofs.Damage.{gathered_none, free_keep}
use Rattle.store.proofs.passes.free_ok.Goals as goal

pub returns : goal.returns
returns c e =
    let zeros = gathered_none _ c.args.ws.now (sym c.gathered.ensures ∙ eqb-true _ 0 e) in
    free_keep first_heap_cell c.args.ws.now c.args.top (omega arith) zeros
