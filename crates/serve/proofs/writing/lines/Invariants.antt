-- `serve::writing::lines` meets its contract: the lines of the pairs from the index on are left to write.
-- Assumes nothing.
use Rattle.std.proofs.Common.{◌≡◌, ◌*◌, drop}
use Rattle.octets.specs.Space.{up_to, write}
use Rattle.meaning.specs.Program.{lines_of}
use Rattle.serve.proofs.writing.lines.Given as goal

abbrev pub invariant-loop-status : goal.invariant-loop-status
invariant-loop-status l =
    write (lines_of (drop (2 * l.status-index) l.answers)) (up_to l.out l.next)
    ≡ write (lines_of l.answers) (up_to l.initial.out l.initial.next)
