-- `serve::running::serve_words` meets its contract. Assumes nothing.
use mathlib.Core.Path.{subst}
use Prim.Native.Nat.{ℕ, ◌*◌, ◌/◌}
use native.Mathlib.Omega.{arith}
use lib.ListN.{length}
use Rattle.meaning.specs.Limits.{first_heap_cell, program_cells, program_bytes}
use Rattle.meaning.specs.Program.{output}
use Rattle.serve.specs.Front.{Front}
use Rattle.serve.specs.Needs.{program_answers}
use Rattle.serve.proofs.Batched.{cells_fit, calls_fit, lent_parts, part_length, part_capacity}
use Rattle.serve.proofs.running.serve_words.Goals as goal

pub overflow_mul-buffer : goal.overflow_mul-buffer
unfolding program_cells
overflow_mul-buffer c = omega (arith, cells_fit c.args.cells c.requires.high)

pub slice_bounds-buffer-end : goal.slice_bounds-buffer-end
unfolding program_cells program_bytes
slice_bounds-buffer-end c = cells_fit c.args.cells c.requires.high

pub slice_bounds-report_fresh-end : goal.slice_bounds-report_fresh-end
unfolding program_cells program_bytes
slice_bounds-report_fresh-end c =
    let args = c.args in
    let pre = c.requires in
    part_length (2 * args.cells) (2 * program_cells) (cells_fit args.cells pre.high)

pub slice_bounds-answers-end : goal.slice_bounds-answers-end
unfolding program_cells program_bytes
slice_bounds-answers-end c =
    let args = c.args in
    let pre = c.requires in
    calls_fit (length args.calls.now) pre.list.short

pub slice_bounds-report_fresh-end-2 : goal.slice_bounds-report_fresh-end-2
unfolding program_cells program_bytes
slice_bounds-report_fresh-end-2 c =
    let args = c.args in
    let pre = c.requires in
    part_length (length args.calls.now / 4 * 2) program_answers
    (calls_fit (length args.calls.now) pre.list.short)

pub report_fresh-requires : goal.report_fresh-requires
unfolding program_cells program_bytes
report_fresh-requires c =
    let r = let args = c.args in
    let pre = c.requires in
    lent_parts args.cells args.calls.now _ pre in
    record { batch_fits = r.0; answers_in_bounds = r.1 }

pub returns : goal.returns
unfolding program_cells program_bytes
returns c =
    let args = c.args in
    let pre = c.requires in
    let reported = c.report_fresh in
    subst
    (λ (n : ℕ). Front args.out.now (output first_heap_cell n args.calls.now) reported.new.out
    reported.result)
    (part_capacity args.cells (2 * program_cells) (cells_fit args.cells pre.high))
    reported.ensures
