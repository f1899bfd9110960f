-- `text::write_register` meets its contract: the check decides, then the register, then its text. Assumes nothing.
use Rattle.std.proofs.Common.{sym, length, Ok, Err, arith, ◌<◌, ◌∙◌}
use Rattle.std.proofs.lemmas.Result.{err_from_is_err_and}
use Rattle.meaning.specs.Limits.{first_heap_cell, depth_limit}
use Rattle.meaning.specs.Verdicts.{Verdict}
use Rattle.meaning.specs.Text.{unprinted, print_in}
use Rattle.meaning.proofs.text.Printing.{print_none}
use Rattle.store.proofs.Registers.{readable}
use Rattle.store.proofs.Sounds.{found_sound, found_refused}
use Rattle.text.proofs.Steps.{register_within, register_none, register_some}
use Rattle.text.proofs.Fitting.{register_prints}
use Rattle.text.proofs.write_register.Goals as goal

-- an unsound store
pub returns-in_err-check : goal.returns-in_err-check
unfolding print_in
returns-in_err-check c =
    let n = length c.args.out.now in
    let p = err_from_is_err_and c.from_residual.result c.from_residual.ensures.1 in
    rw (p.1, p.2)
    (found_refused first_heap_cell _ _ _ _ (λ (v : Verdict). unprinted v n) c.in_err-check.ensures)

-- a register that is none
pub returns-in_err-register : goal.returns-in_err-register
returns-in_err-register c =
    let r = c.from_residual-in_err-register in
    let s = found_sound first_heap_cell _ _ c.in_ok-check.ensures in
    let p = err_from_is_err_and r.result r.ensures.1 in
    let n = register_none c.new.result _ _ c.new.ensures c.in_err-register.ensures.value in
    rw (p.1, p.2, n.1) (sym (print_none first_heap_cell _ _ _ _ s n.0))

-- a register
pub run_at-held-requires : goal.run_at-held-requires
run_at-held-requires c =
    let s = found_sound first_heap_cell _ _ c.in_ok-check.ensures in
    let h : c.cell.result < first_heap_cell = omega arith in
    let r = readable s h in
    record { c_in_bounds = r.0; bracketed = r.1 }

pub write_run-text-requires : goal.write_run-text-requires
write_run-text-requires c =
    let s = found_sound first_heap_cell _ _ c.in_ok-check.ensures in
    let h : c.cell.result < first_heap_cell = omega arith in
    (s, register_within _ _ s _ h c.run_at-held.result c.run_at-held.ensures)

pub returns-in_err-text : goal.returns-in_err-text
unfolding depth_limit
returns-in_err-text c =
    let r = c.from_residual-in_err-text in
    let s = found_sound first_heap_cell _ _ c.in_ok-check.ensures in
    let h : c.cell.result < first_heap_cell = omega arith in
    let n = c.cell.ensures ∙ register_some c.new.result _ _ c.new.ensures c.in_ok-register.ensures.ok_part in
    let p = err_from_is_err_and r.result r.ensures.1 in
    rw (p.1, p.2, ← n)
    (register_prints _ _ _ c.run_at-held.result _ _ (Err c.in_err-text.field-0.0) s h c.run_at-held.ensures
    c.in_err-text.ensures)

pub returns : goal.returns
unfolding depth_limit
returns c =
    let s = found_sound first_heap_cell _ _ c.in_ok-check.ensures in
    let h : c.cell.result < first_heap_cell = omega arith in
    let n = c.cell.ensures ∙ register_some c.new.result _ _ c.new.ensures c.in_ok-register.ensures.ok_part in
    rw (← n)
    (register_prints _ _ _ c.run_at-held.result _ _ (Ok c.in_ok-text.field-0) s h c.run_at-held.ensures
    c.in_ok-text.ensures)
