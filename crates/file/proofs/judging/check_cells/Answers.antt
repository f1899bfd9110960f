use Rattle.std.proofs.Common.{◌≡◌, ◌<◌, sym, ◌∙◌, arith}
use Rattle.meaning.proofs.sound.Cells.{limit_fits}
use Rattle.meaning.proofs.check.Scanning.{ruled, unbroken, turn, stop}
use Rattle.store.proofs.Refusals.{rule_some}
use Rattle.file.proofs.Judges.{found_damaged}
use Rattle.file.specs.Images.{words_in, top_in}
use Rattle.file.specs.Judged.{rule_in}
use Rattle.file.proofs.judging.check_cells.Goals as goal
use Rattle.file.proofs.judging.check_cells.Goals.{then-not-cell_ok+in_default, else-not-cell_ok}

pub cell_ok-requires : goal.cell_ok-requires
cell_ok-requires c =
    let w = c.args.image.now.whole in
    (omega (arith, c.top-top.ensures), omega (arith, c.top-top.ensures, w.few, limit_fits))

pub loop-c-preserved : goal.loop-c-preserved
loop-c-preserved c =
    let i = c.args.image.now in
    let read = c.cell-a.ensures in
    let e : rule_in i.first i.cells (words_in i) c.loop-c.c ≡ 0 =
    elim c.if-not-cell_ok.branch [
      | then-not-cell_ok+in_default w ↦ ruled i.first (top_in i) c.loop-c.c read.first read.second
          (rw (w.in_default.is, c.top-top.ensures) at w.broken_rule.ensures)
      | else-not-cell_ok w ↦ unbroken i.first (top_in i) c.loop-c.c read.first read.second
          (rw c.top-top.ensures at c.cell_ok.ensures) w.if-not-cell_ok.false
    ] in
    turn i.first _ (top_in i) (top_in i) c.loop-c.c (omega arith) e ∙ c.loop-c.invariant

pub returns-in-Some : goal.returns-in-Some
returns-in-Some c =
    let i = c.args.image.now in
    let read = c.cell-a.ensures in
    let e = ruled i.first (top_in i) c.loop-c.c read.first read.second (rw c.top-top.ensures at c.in-Some.ensures) in
    let h : c.loop-c.c < top_in i = omega arith in
    found_damaged i.first i.cells _ c.loop-c.c _
    (sym c.loop-c.invariant
    ∙ stop i.first _ (top_in i) (top_in i) c.loop-c.c h (λ z. rule_some c.in-Some.rule (sym e ∙ z))) e h
