use Rattle.std.proofs.Common.{◌≡◌, ◌-◌, min, sym, ◌∙◌, arith}
use Rattle.file.specs.declared.held.TheConstants.{WINDOW}
use Rattle.file.specs.Images.{top_in, cell_in}
use Rattle.file.proofs.Windowed.{turn, stop, finish}
use Rattle.file.proofs.held.all_held.Goals as goal

pub returns-then-not-window_held : goal.returns-then-not-window_held
returns-then-not-window_held c =
    let i = c.args.image.now in
    let top = top_in i in
    let n = min WINDOW (top - c.loop-start.start) in
    sym (stop (cell_in i) top top c.loop-start.start n (omega arith)
    (sym c.window_held.ensures ∙ c.if-not-window_held.true))
    ∙ c.loop-start.invariant

pub loop-start-preserved : goal.loop-start-preserved
loop-start-preserved c =
    let i = c.args.image.now in
    let top = top_in i in
    let e : min WINDOW (top - c.loop-start.start) ≡ WINDOW = omega arith in
    turn (cell_in i) top top c.loop-start.start WINDOW (omega arith)
    (rw e at (sym c.window_held.ensures ∙ c.if-not-window_held.false))
    ∙ c.loop-start.invariant

pub returns : goal.returns
returns c =
    let i = c.args.image.now in
    let top = top_in i in
    sym (finish (cell_in i) top top c.loop-start.start (omega arith))
    ∙ c.loop-start.invariant

pub returns-else-not-window_held : goal.returns-else-not-window_held
returns-else-not-window_held c =
    let i = c.args.image.now in
    let top = top_in i in
    let e : min WINDOW (top - c.loop-start.start) ≡ top - c.loop-start.start = omega arith in
    rw e at (sym c.if-not-window_held.false ∙ c.window_held.ensures)
    ∙ c.loop-start.invariant
