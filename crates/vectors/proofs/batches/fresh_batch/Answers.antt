-- `vectors::batches::fresh_batch` meets its contract, however long its array is. Assumes nothing.
use native.Mathlib.Omega.{arith}
use Rattle.vectors.proofs.Parts.{part_length}
use Rattle.vectors.proofs.batches.fresh_batch.Goals as goal

pub slice_bounds-ws-end : goal.slice_bounds-ws-end
slice_bounds-ws-end c = part_length _ _ (omega arith)
