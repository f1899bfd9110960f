-- `octets::writing::put_decimal` meets its contract: the digits found so far stand from `first` on. Assumes nothing.
use Rattle.std.proofs.Common.{◌≡◌}
use Rattle.octets.proofs.Turned.{Turned}
use Rattle.octets.proofs.writing.put_decimal.Given as goal

abbrev pub invariant-loop-first : goal.invariant-loop-first
invariant-loop-first l = record { same : l.out ≡ l.initial.out; turned : Turned l.n l.digits l.first l.rest }
