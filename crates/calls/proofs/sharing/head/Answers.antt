-- `calls::sharing::head` meets its contract. Assumes nothing.
use Rattle.std.proofs.lemmas.Result.{err_from_is_err_and}
use mathlib.Core.Path.{sym}
use native.Mathlib.Omega.{arith}
use Rattle.meaning.specs.Actions.{head}
use Rattle.store.proofs.Registers.{run_below}
use Rattle.calls.proofs.Firsts.{refused_empty, on_full}
use Rattle.calls.proofs.sharing.head.Goals as goal

pub returns-in_err-terms : goal.returns-in_err-terms
unfolding head
returns-in_err-terms c =
    let p = err_from_is_err_and c.from_residual.result c.from_residual.ensures.1 in
    refused_empty c.args.a.cell c.requires c.args.a.below p c.in_err-terms.ensures _

pub put_ends-requires-clause-l_le_r : goal.put_ends-requires-clause-l_le_r
put_ends-requires-clause-l_le_r c =
    let b = run_below c.args.a.cell c.requires.1 c.args.a.below in
    (omega arith, omega (arith, b, c.in_ok-terms.ensures.0))

pub returns : goal.returns
unfolding head
returns c t =
    rw (c.put_ends.ensures, c.cell.ensures)
    (sym (on_full c.args.a.cell c.requires c.args.a.below c.in_ok-terms.terms c.in_ok-terms.ensures t _))
