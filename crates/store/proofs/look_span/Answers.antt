-- `store::look_span` meets its contract. Assumes nothing.
use mathlib.Core.Path.{sym, ap, ◌∙◌}
use Prim.Native.Nat.{◌+◌, ◌*◌, ◌≤◌, ◌<◌}
use native.Mathlib.Omega.{arith}
use lib.ListN.{length}
use Rattle.meaning.specs.Limits.{first_heap_cell}
use Rattle.meaning.specs.Sound.{Sound}
use Rattle.meaning.specs.Look.{look_span}
use Rattle.store.proofs.Sounds.{first_heap_cell_pos, found_sound, register_bracketed, register_inside}
use Rattle.store.proofs.Looked.{span_unsound, span_none, span_run, run_inside}
use borrow.Author.Rules.{rules}
use Rattle.store.proofs.look_span.Goals as goal
use Rattle.store.proofs.look_span.Goals.{After-cell, After-run_at-held}

sound : (c : After-cell) → Sound first_heap_cell c.args.ws.now c.args.top
sound c = found_sound first_heap_cell _ _ c.in-Ok-Some.ensures

below : (c : After-cell) → c.cell.result < first_heap_cell
below c = omega (arith, c.in-Ok-Some.register.below)

-- the register's run, of a sound store, lies in its words
inside : (c : After-run_at-held) → Sound first_heap_cell c.args.ws.now c.args.top
    → c.cell.result < first_heap_cell
    → 2 * c.run_at-held.result.start + 2 * c.run_at-held.result.size ≤ length c.args.ws.now
inside c s h =
    run_inside first_heap_cell _ _ _ first_heap_cell_pos s h c.run_at-held.ensures.0 c.run_at-held.ensures.1

pub returns-in_default : goal.returns-in_default
returns-in_default c =
    let s = found_sound first_heap_cell _ _ c.in_default.ensures in
    (sym (span_none first_heap_cell _ _ _ s c.in_default.ensures'), search rules, search rules)

pub returns-in_default-2 : goal.returns-in_default-2
returns-in_default-2 c =
    (sym (span_unsound first_heap_cell _ _ _ c.in_default.field-0-0 c.in_default.ensures), search rules, search rules)

pub run_at-held-requires : goal.run_at-held-requires
run_at-held-requires c =
    let s = sound c in
    record {
      c_in_bounds = register_inside _ _ s _ (below c);
      bracketed = register_bracketed _ _ s _ (below c);
    }

pub overflow_mul-from : goal.overflow_mul-from
overflow_mul-from c =
    let at = goal.at.overflow_mul-from c in
    omega (arith, inside at.After-run_at-held (sound at.After-cell) (below at.After-cell))

pub overflow_mul-to : goal.overflow_mul-to
overflow_mul-to c =
    let at = goal.at.overflow_mul-to c in
    omega (arith, inside at.After-run_at-held (sound at.After-cell) (below at.After-cell))

pub overflow_add-to : goal.overflow_add-to
overflow_add-to c =
    let at = goal.at.overflow_add-to c in
    omega (arith, inside at.After-run_at-held (sound at.After-cell) (below at.After-cell))

pub returns : goal.returns
returns c =
    let at = goal.at.returns c in
    let s = sound at.After-cell in
    let b = below at.After-cell in
    let i = inside at.After-run_at-held s b in
    let r = c.run_at-held.ensures in
    let e = span_run first_heap_cell _ _ _ s b r.0 r.1 in
    let same = ap (look_span first_heap_cell c.args.ws.now c.args.top) (c.cell.ensures ∙ c.in-Ok-Some.ensures') in
    (e ∙ same, omega (arith, i), omega (arith, i))
