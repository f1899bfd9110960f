-- `serve::running::report_fresh` meets its contract. Assumes nothing.
use native.Mathlib.Omega.{arith}
use borrow.Author.Rules.{rules}
use Rattle.serve.proofs.Spacing.{report_fits}
use Rattle.serve.proofs.running.report_fresh.Goals as goal

pub report-requires : goal.report-requires
report-requires c =
    let ran = c.run_fresh-top in
    report_fits ran.new.answers ran.result _ (search rules)
    (omega arith) (omega arith)
