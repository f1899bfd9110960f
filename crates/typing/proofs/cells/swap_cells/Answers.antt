-- `typing::cells::swap_cells` meets its contract. Assumes nothing.
use Rattle.typing.proofs.Twos.{swapped_words}
use Rattle.typing.proofs.cells.swap_cells.Goals as goal

pub returns : goal.returns
returns c =
    let s = c.swap.ensures in
    let t = c.swap-2.ensures in swapped_words _ _ _ _ _ s.by_index t.by_index s.len t.len
