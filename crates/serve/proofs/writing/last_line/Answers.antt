-- `serve::writing::last_line` meets its contract. Assumes nothing.
use Rattle.std.proofs.Common.{[], ◌∷◌, ◌++◌, refl, ◌∙◌}
use Rattle.octets.specs.Decimal.{decimal}
use Rattle.octets.proofs.Spaces.{passed, write_then, write_cut}
use Rattle.meaning.specs.Program.{written}
use Rattle.serve.proofs.writing.last_line.Goals as goal

pub returns-in_err-name : goal.returns-in_err-name
unfolding written
returns-in_err-name c =
    passed _ _ c.from_residual.ensures.1
    ∙ write_cut (116 ∷ 111 ∷ 112 ∷ 32 ∷ []) (decimal c.args.top ++ (10 ∷ [])) _ _ _ refl c.in_err-name.ensures refl

pub returns : goal.returns
unfolding written
returns c =
    write_then (116 ∷ 111 ∷ 112 ∷ 32 ∷ []) (decimal c.args.top ++ (10 ∷ [])) _ _ _ c.in_ok-name.ensures c.field.ensures
