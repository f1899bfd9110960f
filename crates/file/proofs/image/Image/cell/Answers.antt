-- `file::image::Image::cell` meets its contract. Assumes nothing.
use Rattle.std.proofs.Common.{◌∙◌, sym}
use Rattle.file.proofs.Parts.{cell_low, cell_high}
use Rattle.file.proofs.image.Image.cell.Goals as goal
use Rattle.file.proofs.image.Image.cell.Goals.{then-c-self, else-c-self}

pub returns : goal.returns
returns c =
    let i = c.args.self.now in
    elim c.if-c-self.branch [
      | then-c-self w ↦
          let e = cell_low i.first i.cells i.body.now i.whole c.args.c w.if-c-self.true in
          record {
            first = rw w.place-is at c.word.ensures ∙ sym e.0;
            second = rw w.place-is at c.word-2.ensures ∙ sym e.1;
          }
      | else-c-self w ↦
          let e = cell_high i.first i.cells i.body.now i.whole c.args.c w.if-c-self.false c.requires in
          record {
            first = rw w.place-is at c.word.ensures ∙ sym e.0;
            second = rw w.place-is at c.word-2.ensures ∙ sym e.1;
          }
    ]
