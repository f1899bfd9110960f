-- `calls::building::join` meets its contract. Assumes nothing.
use Rattle.std.proofs.lemmas.Result.{err_from_is_err_and}
use mathlib.Core.Path.{refl, sym, ◌∙◌}
use native.Mathlib.Omega.{arith}
use Rattle.meaning.specs.Limits.{first_heap_cell}
use Rattle.meaning.specs.Actions.{share, new_run}
use Rattle.meaning.specs.Call.{sought}
use Rattle.meaning.proofs.call.Joining.{join_first_empty, join_second_empty, join_neither_empty}
use Rattle.meaning.proofs.call.Sought.{sought_meaning}
use Rattle.store.proofs.Sounds.{first_heap_cell_pos}
use Rattle.store.proofs.Registers.{run_below}
use Rattle.build.proofs.Rooms.{room_size}
use Rattle.calls.proofs.building.join.Goals as goal

pub returns-then-p-eq0 : goal.returns-then-p-eq0
unfolding share
returns-then-p-eq0 c =
    rw c.share.ensures
    (sym (join_first_empty first_heap_cell (sought c.args.kept c.args.d.cell c.args.ws.now) c.args.ws.now
    c.args.top.now c.args.d.cell c.args.a.cell c.args.b.cell _ _ (sym c.run_of-p.ensures.1 ∙ c.if-p-eq0.true)))

pub returns-then-q-eq0 : goal.returns-then-q-eq0
unfolding share
returns-then-q-eq0 c =
    let p = c.run_of-p.ensures.1 in
    let q = c.run_of-q.ensures.1 in
    rw c.share-then-q-eq0.ensures
    (sym (join_second_empty first_heap_cell (sought c.args.kept c.args.d.cell c.args.ws.now) c.args.ws.now
    c.args.top.now c.args.d.cell c.args.a.cell c.args.b.cell
    _ _ (λ e. c.if-p-eq0.false (p ∙ e)) (sym q ∙ c.if-q-eq0.true)))

pub overflow_add-p : goal.overflow_add-p
overflow_add-p c =
    let x = run_below c.args.a.cell c.requires.sound c.args.a.below in
    omega (arith, x, run_below c.args.b.cell c.requires.sound c.args.b.below)

pub returns-in_err-find_room : goal.returns-in_err-find_room
returns-in_err-find_room c =
    let p = err_from_is_err_and c.from_residual.result c.from_residual.ensures.1 in
    let k = c.in_err-find_room.ensures in
    rw (p.1, p.2, k.0)
    (sym (k.1.does (new_run c.args.d.cell c.args.a.cell c.args.b.cell))
    ∙ sym (join_neither_empty first_heap_cell (sought c.args.kept c.args.d.cell c.args.ws.now) c.args.ws.now
    c.args.top.now c.args.d.cell c.args.a.cell c.args.b.cell
    c.run_of-p.ensures.1 c.run_of-q.ensures.1 c.if-p-eq0.false c.if-q-eq0.false))

pub lay_run-requires : goal.lay_run-requires
lay_run-requires c =
    let s = c.requires.sound in
    let m = c.in_ok-find_room.ensures in
    let stays =
    sought_meaning first_heap_cell c.args.ws.now c.args.top.now first_heap_cell_pos s c.args.kept
    c.args.d.cell (λ k. c.args.d.below) in
    let za = room_size m refl s c.args.a.cell c.args.a.below
    (stays c.args.a.cell c.args.a.below c.requires.survives.0) in
    let zb = room_size m refl s c.args.b.cell c.args.b.below
    (stays c.args.b.cell c.args.b.below c.requires.survives.1) in
    let p = c.run_of-p.ensures.1 in
    record {
      roomy = (m.ready.0, omega (arith, m.ready.1, p, c.run_of-q.ensures.1));
      full = omega (arith, p, c.if-p-eq0.false);
    }

pub returns : goal.returns
returns c =
    c.lay_run.ensures
    ∙ sym (c.in_ok-find_room.ensures.does (new_run c.args.d.cell c.args.a.cell c.args.b.cell))
    ∙ sym (join_neither_empty first_heap_cell (sought c.args.kept c.args.d.cell c.args.ws.now) c.args.ws.now
    c.args.top.now c.args.d.cell c.args.a.cell c.args.b.cell
    c.run_of-p.ensures.1 c.run_of-q.ensures.1 c.if-p-eq0.false c.if-q-eq0.false)
