-- `file::judging::first_of` meets its contract. Assumes nothing.
use Rattle.std.proofs.Common.{sym, arith}
use Rattle.meaning.specs.File.{first_of}
use Rattle.file.proofs.Editions.{first_is}
use Rattle.file.proofs.judging.first_of.Goals as goal

pub returns-in_err-first : goal.returns-in_err-first
unfolding first_of
returns-in_err-first c = rw c.from_residual.ensures (sym (c.in_err-first.ensures.lookup.4 (omega arith) 0))

pub returns : goal.returns
returns c = rw c.then_some.ensures (first_is c.args.edition _ (c.in_ok-first.ensures.lookup.3.1 0))
