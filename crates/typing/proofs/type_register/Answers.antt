-- `typing::type_register` meets its contract: the text decides, then the room. Assumes nothing.
use mathlib.Core.Path.{refl, sym, ◌∙◌}
use Rattle.std.proofs.lemmas.Result.{err_from_is_err_and}
use Rattle.meaning.specs.Lay.{new_cells}
use Rattle.build.proofs.Rooms.{room_roomy, room_does, room_refuses}
use Rattle.typing.specs.Laying.{expr_of}
use Rattle.typing.proofs.Whole.{whole_text, type_whole, type_bad}
use Rattle.typing.proofs.type_register.Goals as goal

-- the text is refused
pub returns-in_err-n : goal.returns-in_err-n
returns-in_err-n c =
    let p = err_from_is_err_and c.from_residual.result c.from_residual.ensures.1 in
    let f = c.in_err-n.ensures in
    rw (p.1, p.2) (type_bad c.args.text.now c.args.ws.now c.args.top c.args.d.cell _ f.0 f.1)

-- there is no room
pub returns-in_err-low : goal.returns-in_err-low
returns-in_err-low c =
    let a = c.args in
    let r = c.from_residual-in_err-low in
    let p = err_from_is_err_and r.result r.ensures.1 in
    let f = c.in_ok-n.ensures in
    rw (p.1, p.2)
    (sym (room_refuses c.in_err-low.ensures refl (new_cells a.d.cell (expr_of a.text.now)))
    ∙ type_whole a.text.now a.ws.now a.top a.d.cell _ f.0 f.1)

-- the text is laid
pub lay_text-requires : goal.lay_text-requires
lay_text-requires c =
    let f = c.in_ok-n.ensures in
    (room_roomy c.in_ok-low.ensures refl, whole_text c.args.text.now _ f.0 f.1)

pub returns : goal.returns
returns c =
    let a = c.args in
    let f = c.in_ok-n.ensures in
    c.lay_text.ensures
    ∙ (sym (room_does c.in_ok-low.ensures refl (new_cells a.d.cell (expr_of a.text.now)))
    ∙ type_whole a.text.now a.ws.now a.top a.d.cell _ f.0 f.1)
