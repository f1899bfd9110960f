-- `typing::type_in` meets its contract: the check decides, then the register, then the text. Assumes nothing.
use mathlib.Core.Path.{sym, ◌∙◌}
use Rattle.std.proofs.lemmas.Result.{err_from_is_err_and}
use Rattle.meaning.specs.Limits.{first_heap_cell}
use Rattle.meaning.specs.Verdicts.{Verdict, refused}
use Rattle.meaning.specs.Typed.{type_in}
use Rattle.meaning.proofs.typed.Cases.{type_register, type_none}
use Rattle.store.proofs.Sounds.{found_sound, found_refused}
use Rattle.typing.proofs.Whole.{register_none, register_some}
use Rattle.typing.proofs.type_in.Goals as goal

-- an unsound store
pub returns-in_err-check : goal.returns-in_err-check
unfolding type_in
returns-in_err-check c =
    let a = c.args in
    let p = err_from_is_err_and c.from_residual.result c.from_residual.ensures.1 in
    rw (p.1, p.2)
    (found_refused first_heap_cell _ _ _ _ (λ (v : Verdict). refused a.ws.now a.top v) c.in_err-check.ensures)

-- a register that is none
pub returns-in_err-d : goal.returns-in_err-d
returns-in_err-d c =
    let r = c.from_residual-in_err-d in
    let s = found_sound first_heap_cell _ _ c.in_ok-check.ensures in
    let p = err_from_is_err_and r.result r.ensures.1 in
    let n = register_none c.new.result _ _ _ c.new.ensures c.in_err-d.ensures.value in
    rw (p.1, p.2, n.1) (sym (type_none first_heap_cell _ _ _ _ s n.0))

pub type_register-requires : goal.type_register-requires
type_register-requires c = found_sound first_heap_cell _ _ c.in_ok-check.ensures

pub returns : goal.returns
returns c =
    let s = found_sound first_heap_cell _ _ c.in_ok-check.ensures in
    let d = c.in_ok-d.d in
    let e = register_some c.new.result _ d c.new.ensures c.in_ok-d.ensures.ok_part in
    rw (← e) (c.type_register.ensures ∙ sym (type_register first_heap_cell _ _ _ _ s d.below))
