-- What an image of the code stands for; apart from Body, on which its type rests. Assumes nothing.
use Rattle.std.specs.Prelude.{List, ℕ, ◌+◌}
use Rattle.meaning.specs.Sound.{Cell, at}
use Rattle.file.specs.Body.{store_in}
use Rattle.file.specs.declared.image.Image.{Image}

-- the words of its occupied cells, and how many these are
abbrev pub words_in : Image → List ℕ
words_in i = store_in i.first i.cells i.body.now

abbrev pub top_in : Image → ℕ
top_in i = i.first + i.cells

-- and what each of them is
abbrev pub cell_in : Image → ℕ → Cell
cell_in i = at (words_in i)
