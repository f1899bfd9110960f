-- `store::cells::term_ok` meets its contract. Assumes nothing.
use Rattle.store.proofs.Rules.{term_test}
use Rattle.store.proofs.cells.term_ok.Goals as goal

pub returns : goal.returns
returns c =
    let a = c.args in
    rw c.is_code.ensures (term_test a.first a.c a.a a.b _ c.bracket_ok.ensures)
