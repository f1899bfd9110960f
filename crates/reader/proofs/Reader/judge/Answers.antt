-- `reader::Reader::judge` meets its contract. Assumes nothing.
use Rattle.reader.proofs.Suiting.{judged}
use Rattle.reader.proofs.Reader.judge.Goals as goal

pub returns : goal.returns
returns c = judged c.args.self c.args.b _ c.judge.ensures
