-- `file::image::Image::fill` meets its contract. Assumes nothing.
use Rattle.file.proofs.Parts.{filled_parts}
use Rattle.file.proofs.image.Image.fill.Goals as goal

pub returns : goal.returns
returns c =
    let i = c.args.self.now in
    let low = c.split_at_mut-low in
    let parts = c.split_at.ensures in
    filled_parts i.first i.cells i.body.now c.args.ws.now i.whole c.requires _ _ _ _ low.ensures.front_len
    low.ensures.back_len (rw parts.back at c.fill_words.ensures) (rw parts.front at c.fill_words-2.ensures)
