-- `serve::writing::report` meets its contract. Assumes nothing.
use Rattle.meaning.specs.Program.{lines_of}
use Rattle.serve.specs.Lines.{top_line}
use Rattle.serve.proofs.Spacing.{first_ok, both_front}
use Rattle.serve.proofs.writing.report.Goals as goal

pub unwrap-last-requires : goal.unwrap-last-requires
unwrap-last-requires c =
    let answers = c.args.answers.now in
    first_ok (lines_of answers) (top_line c.args.top) c.args.out.now c.requires _ _ c.lines.ensures

pub returns : goal.returns
returns c =
    let answers = c.args.answers.now in
    rw c.unwrap_or.ensures
    (both_front (lines_of answers) (top_line c.args.top) c.args.out.now c.requires _ _ c.lines.ensures _ c.unwrap-last.ensures _ _
    c.last_line.ensures)
