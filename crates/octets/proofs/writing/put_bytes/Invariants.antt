-- `octets::writing::put_bytes` meets its contract: the bytes from the index on are left to write. Assumes nothing.
use Rattle.std.proofs.Common.{◌≡◌, drop}
use Rattle.octets.specs.Space.{up_to, write}
use Rattle.octets.proofs.writing.put_bytes.Given as goal

abbrev pub invariant-loop-b : goal.invariant-loop-b
invariant-loop-b l = write (drop l.b-index l.s) (up_to l.out l.next) ≡ write l.s (up_to l.initial.out l.initial.next)
