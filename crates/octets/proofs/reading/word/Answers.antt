-- `octets::reading::word` meets its contract: a word is that of its chunk. Assumes nothing.
use Rattle.std.proofs.Common.{◌≡◌, rules}
use Rattle.std.specs.Prelude.{MatchOption}
use Rattle.octets.proofs.Endian.{worth, word_of}
use Rattle.octets.proofs.reading.word.Goals as goal

pub returns : goal.returns
returns c =
    let made : MatchOption c.get.result (c.map_or.result ≡ 0) (λ x. c.map_or.result ≡ worth x.now) = search rules in
    word_of c.args.bytes.now c.args.i c.map_or.result _ c.get.result c.as_chunks.ensures.front made
    c.get.ensures.lookup.3 c.as_chunks.ensures.front_len
