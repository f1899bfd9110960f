-- `octets::writing::set_words` meets its contract: the words from i on are left to set. Assumes nothing.
use Rattle.std.proofs.Common.{◌≡◌, ◌+◌, ◌*◌, drop}
use Rattle.std.proofs.lemmas.List.Edits.{sets}
use Rattle.octets.specs.Little.{bytes_of}
use Rattle.octets.proofs.writing.set_words.Given as goal

abbrev pub invariant-loop-i : goal.invariant-loop-i
invariant-loop-i l =
    sets l.out (l.place + 4 * l.i) (bytes_of (drop l.i l.ws)) ≡ sets l.initial.out l.place (bytes_of l.ws)
