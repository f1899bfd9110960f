-- `file::writing::put_file` meets its contract: the parts of a file, one after the other. Assumes nothing.
use Rattle.std.proofs.Common.{refl, ◌∙◌}
use Rattle.octets.proofs.Spaces.{passed}
use Rattle.meaning.specs.Limits.{first_heap_cell, edition}
use Rattle.file.proofs.Saves.{heap_cut, regs_cut, write_file}
use Rattle.file.proofs.writing.put_file.Goals as goal

pub returns-in_err-place : goal.returns-in_err-place
returns-in_err-place c =
    passed _ _ c.from_residual.ensures.1
    ∙ heap_cut edition first_heap_cell _ c.args.top c.requires _ _ refl c.in_err-place.ensures

pub returns-in_err-place-2 : goal.returns-in_err-place-2
returns-in_err-place-2 c =
    passed _ _ c.from_residual-in_err-place-2.ensures.1
    ∙ regs_cut edition first_heap_cell _ c.args.top c.requires _ _ c.in_ok-place.ensures _ refl
    c.in_err-place-2.ensures

pub returns : goal.returns
returns c =
    write_file edition first_heap_cell _ c.args.top c.requires _ _ c.in_ok-place.ensures _ _
    c.in_ok-place-2.ensures c.put_words-3.ensures
