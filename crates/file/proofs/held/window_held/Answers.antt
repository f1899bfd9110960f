use Rattle.std.proofs.Common.{◌≡◌, ◌∙◌, refl, arith}
use Rattle.file.specs.declared.held.TheConstants.{WINDOW}
use Rattle.file.specs.Images.{words_in, top_in, cell_in}
use Rattle.file.proofs.Noting.{noted_begin, noted_turn, window_held}
use Rattle.file.proofs.held.window_held.Goals as goal

pub loop-c-init : goal.loop-c-init
loop-c-init c =
    let i = c.args.image.now in
    (refl, refl, noted_begin (cell_in i) c.args.start WINDOW)

pub loop-c-preserved : goal.loop-c-preserved
loop-c-preserved c =
    let i = c.args.image.now in
    let h = c.loop-c.invariant in
    let t = noted_turn (words_in i) c.loop-c.c c.args.start _ _ _ _ c.cell-a.ensures.first
    c.cell-a.ensures.second (rw h.0 at c.note.ensures.far) h.2 in
    (c.note.ensures.start ∙ h.0, t.0 ∙ h.1, t.1)

pub returns : goal.returns
returns c =
    let i = c.args.image.now in
    let far = c.loop-c.window.far in
    let h = c.loop-c.invariant in
    let e : c.loop-c.c ≡ top_in i = omega arith in
    rw (h.0, c.top-top.ensures) at c.all_held.ensures
    ∙ window_held (cell_in i) (top_in i) c.args.start far _ (omega arith) (rw e at h.2)
