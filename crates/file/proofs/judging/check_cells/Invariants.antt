-- `file::judging::check_cells` meets its contract: no cell below c is damaged. Assumes nothing.
use Rattle.std.proofs.Common.{◌≡◌, ◌-◌}
use Rattle.meaning.specs.Check.{damaged}
use Rattle.file.specs.Images.{words_in, top_in}
use Rattle.file.proofs.judging.check_cells.Given as goal

abbrev pub invariant-loop-c : goal.invariant-loop-c
invariant-loop-c l =
    let i = l.image in
    damaged i.first (words_in i) (top_in i) l.c (top_in i - l.c) ≡ damaged i.first (words_in i) (top_in i) 0 (top_in i)
