-- `serve::writing::line` meets its contract: two fields are a line. Assumes nothing.
use Rattle.std.proofs.Common.{[], ◌∷◌, ◌++◌, refl, ◌∙◌}
use Rattle.octets.specs.Decimal.{decimal}
use Rattle.octets.proofs.Spaces.{passed, write_then, write_cut}
use Rattle.serve.proofs.Spacing.{line_fields}
use Rattle.serve.proofs.writing.line.Goals as goal

pub returns-in_err-value : goal.returns-in_err-value
returns-in_err-value c =
    let args = c.args in
    passed _ _ c.from_residual.ensures.1
    ∙ rw (← line_fields args.s args.v)
    (write_cut (decimal args.s ++ (32 ∷ [])) (decimal args.v ++ (10 ∷ [])) _ _ _ refl c.in_err-value.ensures refl)

pub returns : goal.returns
returns c =
    let args = c.args in
    rw (← line_fields args.s args.v)
    (write_then (decimal args.s ++ (32 ∷ [])) (decimal args.v ++ (10 ∷ [])) _ _ _ c.in_ok-value.ensures
    c.field-2.ensures)
