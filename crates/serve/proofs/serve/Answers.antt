-- `serve::serve` meets its contract. Assumes nothing.
use Rattle.std.proofs.Common.{◌≢◌, ◌<◌, sym, lit<, arith}
use Rattle.meaning.specs.Limits.{first_heap_cell, program_bytes}
use Rattle.meaning.proofs.program.Tests.{fits, program_refused, program_output}
use Rattle.serve.specs.declared.Fault.{Fault}
use Rattle.serve.specs.declared.Fault.TheVariants.{Capacity, Length}
use Rattle.serve.specs.Faults.{fault_number}
use Rattle.serve.proofs.Spacing.{refusal_short}
use Rattle.serve.proofs.serve.Goals as goal

-- a number of one digit, and not 0
fault_short : (fault : Fault) → fault_number fault < 10
fault_short Capacity = lit< tt
fault_short Length = lit< tt

fault_some : (fault : Fault) → fault_number fault ≢ 0
fault_some Capacity e = omega arith
fault_some Length e = omega arith

pub serve_calls-requires : goal.serve_calls-requires
unfolding program_bytes
serve_calls-requires c =
    let h = c.in-Ok.ensures in
    let right = fits first_heap_cell c.args.input.now h.0 in
    record {
      low = omega (arith, h.1, right.low);
      high = omega (arith, h.1, right.high);
      some = right.some;
      most = right.most;
      whole = right.whole;
      fits = omega (arith, c.told-out);
    }

pub returns-in-Ok : goal.returns-in-Ok
returns-in-Ok c =
    let h = c.in-Ok.ensures in
    rw (program_output first_heap_cell c.args.input.now h.0, ← h.1) c.serve_calls.ensures

pub refuse-requires : goal.refuse-requires
refuse-requires c =
    omega (arith, refusal_short c.from.result (rw c.from.ensures (fault_short c.in-Err.fault)), c.told-out)

pub returns-in-Err : goal.returns-in-Err
returns-in-Err c =
    let h = c.in-Err.ensures in
    let n = fault_some c.in-Err.fault in
    rw (program_refused first_heap_cell c.args.input.now _ (sym h) n, ← c.from.ensures) c.refuse.ensures
