-- `octets::reading::fill_words` meets its contract: the words below i are filled in. Assumes nothing.
use Rattle.octets.specs.Little.{words_of}
use Rattle.octets.proofs.Filling.{Filling}
use Rattle.octets.proofs.reading.fill_words.Given as goal

abbrev pub invariant-loop-i : goal.invariant-loop-i
invariant-loop-i l = Filling l.initial.ws (words_of l.bytes) l.ws l.i
