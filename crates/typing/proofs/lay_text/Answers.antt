-- `typing::lay_text` meets its contract. Assumes nothing.
use native.Mathlib.Omega.{arith}
use Rattle.meaning.specs.Limits.{depth_limit}
use Rattle.typing.proofs.Whole.{can_lay, text_long, text_small, text_laid}
use Rattle.typing.proofs.lay_text.Goals as goal

pub lay-laid-requires : goal.lay-laid-requires
unfolding depth_limit
lay-laid-requires c = can_lay c.requires.0 c.requires.1

pub put_last-requires : goal.put_last-requires
unfolding depth_limit
put_last-requires c =
    let k = c.lay-laid.ensures in
    let l = text_long c.requires.0 c.requires.1 k in
    record {
      c_in_bounds = omega (arith, l, c.requires.0.0.allowed.large);
      n_le_end = text_small c.requires.0 c.requires.1 k;
    }

pub returns : goal.returns
unfolding depth_limit
returns c =
    let e = text_laid c.requires.0 c.requires.1 c.lay-laid.ensures c.cell.result c.put_last.ensures in
    rw c.cell.ensures at e
