-- `calls::sharing::open_first` meets its contract. Assumes nothing.
use Rattle.std.proofs.lemmas.Result.{err_from_is_err_and}
use mathlib.Core.Path.{sym}
use native.Mathlib.Omega.{arith}
use Rattle.meaning.specs.Actions.{open_first}
use Rattle.calls.proofs.Firsts.{refused_empty, readable, open_symbol_lem, open_bracket_lem}
use Rattle.calls.proofs.sharing.open_first.Goals as goal

pub returns-in_err-terms : goal.returns-in_err-terms
unfolding open_first
returns-in_err-terms c =
    let p = err_from_is_err_and c.from_residual.result c.from_residual.ensures.1 in
    refused_empty c.args.a.cell c.requires c.args.a.below p c.in_err-terms.ensures _

pub term_at-requires : goal.term_at-requires
term_at-requires c =
    let r = readable c.args.a.cell c.requires c.args.a.below c.in_ok-terms.terms c.in_ok-terms.ensures in
    record { c_in_bounds = r.0; termed = r.1 }

pub copy_cell-requires : goal.copy_cell-requires
copy_cell-requires c =
    let r = readable c.args.a.cell c.requires c.args.a.below c.in_ok-terms.terms c.in_ok-terms.ensures in
    (omega arith, r.0)

pub returns-in-Symbol : goal.returns-in-Symbol
returns-in-Symbol c t =
    sym (open_symbol_lem c.args.a.cell c.requires c.args.a.below c.in_ok-terms.terms c.in_ok-terms.ensures
    c.term_at.ensures t c.args.d.cell c.in-Symbol.is)

pub returns-in-Bracket : goal.returns-in-Bracket
returns-in-Bracket c t =
    rw (c.copy_cell.ensures, c.cell.ensures)
    (sym (open_bracket_lem c.args.a.cell c.requires c.args.a.below c.in_ok-terms.terms c.in_ok-terms.ensures
    c.term_at.ensures t c.args.d.cell c.in-Bracket.is))
