-- `file::collect_and_write` meets its contract. Assumes nothing.
use Rattle.std.proofs.Common.{rules, ◌≡◌, sym, Ok}
use Rattle.std.proofs.lemmas.Result.{err_from_is_err_and}
use Rattle.file.specs.declared.NotSaved.TheVariants.{ShortSpace}
use Rattle.file.proofs.Saves.{write_unsound, left_sound, write_short_space, write_saved}
use Rattle.file.proofs.collect_and_write.Goals as goal

pub returns-in_err-low : goal.returns-in_err-low
returns-in_err-low c =
    let p = err_from_is_err_and c.from_residual.result c.from_residual.ensures.1 in
    rw (p.1, p.2) (write_unsound _ _ _ _ _ c.in_err-low.ensures)

pub put_file-requires : goal.put_file-requires
put_file-requires c = left_sound _ _ c.args.space.now _ _ _ c.in_ok-low.ensures

pub returns-in_err-length : goal.returns-in_err-length
returns-in_err-length c =
    let exit = c.from_residual-in_err-length in
    let p = err_from_is_err_and exit.result exit.ensures.1 in
    let e : c.in_err-length.field-0.0 ≡ ShortSpace c.in_ok-low.field-0.top = search rules in
    rw (p.1, p.2, e)
    (write_short_space _ _ _ _ _ _ c.in_ok-low.ensures _ c.put_file.result c.put_file.ensures
    (sym c.in_err-length.ensures.variant))

pub returns : goal.returns
returns c =
    let e : c.put_file.result ≡ Ok c.in_ok-length.length = search rules in
    write_saved _ _ _ _ _ _ c.in_ok-low.ensures _ c.put_file.result c.put_file.ensures _ e
