-- `serve::writing::field` meets its contract. Assumes nothing.
use Rattle.std.proofs.Common.{[], ◌∷◌, refl, ◌∙◌}
use Rattle.octets.specs.Decimal.{decimal}
use Rattle.octets.proofs.Spaces.{passed, write_then, write_cut}
use Rattle.serve.proofs.writing.field.Goals as goal

pub returns-in_err-last : goal.returns-in_err-last
returns-in_err-last c =
    let args = c.args in
    passed _ _ c.from_residual.ensures.1
    ∙ write_cut (decimal args.n) (args.end ∷ []) _ _ _ refl c.in_err-last.ensures refl

pub returns : goal.returns
returns c =
    let args = c.args in
    write_then (decimal args.n) (args.end ∷ []) _ _ _ c.in_ok-last.ensures c.put.ensures
