-- `calls::step::step` meets its contract. Assumes nothing.
use Rattle.std.proofs.lemmas.Result.{err_from_is_err_and}
use mathlib.Core.Path.{sym, ◌∙◌}
use Rattle.calls.proofs.Performing.{refused_by, performed}
use Rattle.calls.proofs.step.step.Goals as goal

pub returns-in_err-operation : goal.returns-in_err-operation
returns-in_err-operation c =
    let p = err_from_is_err_and c.from_residual.result c.from_residual.ensures.1 in
    rw (p.1, p.2) (sym (refused_by c.args.ws.now c.args.top.now c.args.call _ c.in_err-operation.ensures))

pub returns : goal.returns
returns c =
    let k = c.in_ok-operation.ensures in
    c.perform.ensures ∙ sym (performed c.args.ws.now c.args.top.now c.args.call _ k.0 k.1)
