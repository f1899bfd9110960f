-- `calls::sharing::rest` meets its contract. Assumes nothing.
use Rattle.std.proofs.lemmas.Result.{err_from_is_err_and}
use mathlib.Core.Path.{sym}
use native.Mathlib.Omega.{arith}
use Rattle.meaning.specs.Actions.{rest}
use Rattle.store.proofs.Registers.{run_below}
use Rattle.calls.proofs.Firsts.{refused_empty, rest_one, rest_more}
use Rattle.calls.proofs.sharing.rest.Goals as goal

pub returns-in_err-terms : goal.returns-in_err-terms
unfolding rest
returns-in_err-terms c =
    let p = err_from_is_err_and c.from_residual.result c.from_residual.ensures.1 in
    refused_empty c.args.a.cell c.requires c.args.a.below p c.in_err-terms.ensures _

pub returns-then-terms-eq1 : goal.returns-then-terms-eq1
returns-then-terms-eq1 c t =
    rw (c.put_empty.ensures, c.cell.ensures)
    (sym (rest_one c.args.a.cell c.requires c.args.a.below c.in_ok-terms.terms c.in_ok-terms.ensures t c.args.d.cell
    c.if-terms-eq1.true))

pub overflow_add-terms : goal.overflow_add-terms
overflow_add-terms c = omega (arith, run_below c.args.a.cell c.requires.1 c.args.a.below, c.in_ok-terms.ensures.1)

pub overflow_add-terms-2 : goal.overflow_add-terms-2
overflow_add-terms-2 c = omega (arith, run_below c.args.a.cell c.requires.1 c.args.a.below, c.in_ok-terms.ensures.1)

pub put_ends-requires-clause-l_le_r : goal.put_ends-requires-clause-l_le_r
put_ends-requires-clause-l_le_r c =
    let b = run_below c.args.a.cell c.requires.1 c.args.a.below in
    let k = c.in_ok-terms.ensures in
    (omega (arith, k.0, c.if-terms-eq1.false), omega (arith, b, k.1))

pub returns : goal.returns
returns c t =
    rw (c.put_ends.ensures, c.cell-2.ensures)
    (sym (rest_more c.args.a.cell c.requires c.args.a.below c.in_ok-terms.terms c.in_ok-terms.ensures t c.args.d.cell
    c.if-terms-eq1.false))
