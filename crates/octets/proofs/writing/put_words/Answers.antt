-- `octets::writing::put_words` meets its contract: the words are set at once, or written one by one. Assumes nothing.
use Rattle.std.proofs.Common.{refl}
use Rattle.octets.proofs.Spaces.{words_set}
use Rattle.octets.proofs.writing.put_words.Goals as goal

pub returns-then-all_fit : goal.returns-then-all_fit
returns-then-all_fit c =
    words_set c.args.ws.now c.args.out.now _ c.args.place (c.if-all_fit.ensures.0 refl) c.set_words.ensures
