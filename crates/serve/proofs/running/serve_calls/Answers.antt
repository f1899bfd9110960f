-- `serve::running::serve_calls` meets its contract. Assumes nothing.
use mathlib.Core.Path.{sym, subst}
use mathlib.Core.List.{List}
use Prim.Native.Nat.{ℕ, ◌/◌}
use native.Mathlib.Omega.{arith}
use lib.ListN.{length}
use Rattle.meaning.specs.Limits.{first_heap_cell, program_bytes}
use Rattle.meaning.specs.Program.{output}
use Rattle.serve.specs.Front.{Front}
use Rattle.serve.specs.Needs.{CallsFit}
use Rattle.serve.proofs.Inputs.{calls_end, calls_part, calls_lent}
use Rattle.serve.proofs.running.serve_calls.Goals as goal

-- the words of the longest input
abbrev program_words : ℕ
program_words = program_bytes / 4

pub slice_bounds-serve_words-end : goal.slice_bounds-serve_words-end
unfolding program_bytes
slice_bounds-serve_words-end c =
    let args = c.args in
    let pre = c.requires in
    calls_end args.input.now _ program_words (omega (arith, pre.most)) c.fill_words.ensures

pub serve_words-requires : goal.serve_words-requires
unfolding program_bytes
serve_words-requires c =
    let args = c.args in
    let pre = c.requires in
    let words = c.fill_words in
    subst
    (λ (l : List ℕ). CallsFit args.cells l (length args.out.now))
    (sym (calls_part args.input.now _ program_words (omega (arith, pre.most)) words.ensures pre.some))
    (calls_lent args.cells args.input.now _ pre)

pub returns : goal.returns
unfolding program_bytes
returns c =
    let args = c.args in
    let pre = c.requires in
    let words = c.fill_words in
    let served = c.serve_words in
    subst
    (λ (l : List ℕ). Front args.out.now (output first_heap_cell args.cells l) served.new.out
    served.result)
    (calls_part args.input.now _ program_words (omega (arith, pre.most)) words.ensures pre.some)
    served.ensures
