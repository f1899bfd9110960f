-- `octets::writing::put_each` meets its contract: the words from the index on are left to write. Assumes nothing.
use Rattle.std.proofs.Common.{◌≡◌, drop}
use Rattle.octets.specs.Little.{bytes_of}
use Rattle.octets.specs.Space.{up_to, write}
use Rattle.octets.proofs.writing.put_each.Given as goal

abbrev pub invariant-loop-w : goal.invariant-loop-w
invariant-loop-w l =
    write (bytes_of (drop l.w-index l.ws)) (up_to l.out l.next)
    ≡ write (bytes_of l.ws) (up_to l.initial.out l.initial.next)
