-- `store::cells::bracket_ok` meets its contract. Assumes nothing.
use Rattle.store.proofs.Rules.{bracket_test}
use Rattle.store.proofs.cells.bracket_ok.Goals as goal

pub returns : goal.returns
returns c =
    let a = c.args in
    bracket_test a.first a.bound a.a a.b c.ranges.b.fits c.requires
