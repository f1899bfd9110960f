-- `calls::operands::judge` meets its contract. Assumes nothing.
use Rattle.std.proofs.Common.{rules}
use Rattle.std.proofs.lemmas.Result.{err_from_is_err_and}
use mathlib.Core.Path.{refl}
use Rattle.meaning.specs.Limits.{first_heap_cell}
use Rattle.meaning.specs.Operands.{wrong11, wrong12, wrong13}
use Rattle.calls.specs.Operations.{use_of}
use Rattle.calls.proofs.Judging.{no_operation, judged}
use Rattle.calls.proofs.operands.judge.Goals as goal

pub returns-in_err-operation : goal.returns-in_err-operation
returns-in_err-operation c =
    let w = c.in_err-operation.ensures in
    let p = err_from_is_err_and c.from_residual.result c.from_residual.ensures.1 in
    rw (p.1, p.2, w.0) (no_operation c.args.call w.1)

pub returns-then-any_word : goal.returns-then-any_word
returns-then-any_word c =
    let r = c.if-any_word.ensures (λ u w. wrong11 first_heap_cell (use_of u) w) (λ u w b h. search rules) in
    judged c.args.call c.in_ok-operation.ensures c.uses_of-uses.ensures r refl refl

pub returns-then-any_word-2 : goal.returns-then-any_word-2
returns-then-any_word-2 c =
    let r = c.if-any_word.ensures (λ u w. wrong11 first_heap_cell (use_of u) w) (λ u w b h. search rules) in
    let s = c.if-any_word-2.ensures (λ u w. wrong12 (use_of u) w) (λ u w b h. search rules) in
    judged c.args.call c.in_ok-operation.ensures c.uses_of-uses.ensures r s refl

pub returns-then-any_word-3 : goal.returns-then-any_word-3
returns-then-any_word-3 c =
    let r = c.if-any_word.ensures (λ u w. wrong11 first_heap_cell (use_of u) w) (λ u w b h. search rules) in
    let s = c.if-any_word-2.ensures (λ u w. wrong12 (use_of u) w) (λ u w b h. search rules) in
    let t = c.if-any_word-3.ensures (λ u w. wrong13 (use_of u) w) (λ u w b h. search rules) in
    judged c.args.call c.in_ok-operation.ensures c.uses_of-uses.ensures r s t

pub returns : goal.returns
returns c =
    let r = c.if-any_word.ensures (λ u w. wrong11 first_heap_cell (use_of u) w) (λ u w b h. search rules) in
    let s = c.if-any_word-2.ensures (λ u w. wrong12 (use_of u) w) (λ u w b h. search rules) in
    let t = c.if-any_word-3.ensures (λ u w. wrong13 (use_of u) w) (λ u w b h. search rules) in
    let o = c.in_ok-operation.ensures in
    (o, judged c.args.call o c.uses_of-uses.ensures r s t)
