-- `pieces::read` meets its contract. Assumes nothing.
use mathlib.Core.Path.{subst}
use Rattle.std.specs.Prelude.{Err}
use Rattle.std.proofs.lemmas.Result.{err_from_is_err_and}
use Rattle.meaning.specs.Limits.{depth_limit}
use Rattle.meaning.specs.Reader.{Reader}
use Rattle.reader.specs.Readers.{Finds}
use Rattle.pieces.proofs.Bytes.{starts, read_as, refused_as}
use Rattle.pieces.proofs.read.Goals as goal

pub feed_bytes-requires : goal.feed_bytes-requires
unfolding depth_limit
feed_bytes-requires c = starts c.start.result c.start.ensures

-- a byte is refused
pub returns-in_err-feed_bytes : goal.returns-in_err-feed_bytes
unfolding depth_limit
returns-in_err-feed_bytes c =
    let p = err_from_is_err_and c.from_residual.result c.from_residual.ensures.1 in
    let e = c.in_err-feed_bytes.field-0.0 in
    rw (p.1, p.2)
    (subst (λ (r : Reader). Finds r (Err (record { fault = e.fault; offset = e.state.place.offset })))
    (read_as c.start.result c.args.text.now _ c.start.ensures c.in_err-feed_bytes.ensures)
    (refused_as e c.feed_bytes.new.counts))

pub returns : goal.returns
unfolding depth_limit
returns c =
    subst (λ (r : Reader). Finds r c.finish.result)
    (read_as c.start.result c.args.text.now _ c.start.ensures c.in_ok-feed_bytes.ensures) c.finish.ensures
