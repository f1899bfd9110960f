-- `calls::asking::first` meets its contract. Assumes nothing.
use Rattle.std.proofs.lemmas.Result.{err_from_is_err_and}
use mathlib.Core.Path.{sym}
use Rattle.meaning.specs.Actions.{code_first}
use Rattle.calls.proofs.Firsts.{refused_empty, readable, code_symbol, code_bracket}
use Rattle.calls.proofs.asking.first.Goals as goal

pub returns-in_err-terms : goal.returns-in_err-terms
unfolding code_first
returns-in_err-terms c =
    let p = err_from_is_err_and c.from_residual.result c.from_residual.ensures.1 in
    refused_empty c.args.a.cell c.requires c.args.a.below p c.in_err-terms.ensures _

pub term_at-requires : goal.term_at-requires
term_at-requires c =
    let r = readable c.args.a.cell c.requires c.args.a.below c.in_ok-terms.terms c.in_ok-terms.ensures in
    record { c_in_bounds = r.0; termed = r.1 }

pub returns-in-Symbol : goal.returns-in-Symbol
returns-in-Symbol c t =
    sym (code_symbol c.args.a.cell c.requires c.args.a.below c.in_ok-terms.terms c.in_ok-terms.ensures
    c.term_at.ensures t c.in-Symbol.is)

pub returns-in-Bracket : goal.returns-in-Bracket
returns-in-Bracket c t =
    sym (code_bracket c.args.a.cell c.requires c.args.a.below c.in_ok-terms.terms c.in_ok-terms.ensures
    c.term_at.ensures t c.in-Bracket.is)
