-- `typing::scanning::number` meets its contract. Assumes nothing.
use Rattle.typing.proofs.Bytes.{Numbering}
use Rattle.typing.proofs.scanning.number.Given as goal

abbrev pub invariant-loop-i : goal.invariant-loop-i
invariant-loop-i l = Numbering l.text l.code l.i
