-- `calls::operands::uses_of` meets its contract: row by row the table of the code is the table of the definitions.
-- Assumes nothing.
use mathlib.Core.Path.{refl}
use mathlib.Core.List.{[]}
use lib.ListN.{get_or}
use denote.Enum.Declared.{tag_of}
use Rattle.meaning.specs.Operands.{uses}
use Rattle.calls.specs.Operations.{op_of, Row}
use Rattle.calls.specs.contracts.operations.Operation.{the_type}
use Rattle.calls.specs.declared.operations.Operation.{Operation}
use Rattle.calls.specs.declared.operations.Operation.TheVariants as operation
use Rattle.calls.specs.declared.operands.TheConstants.{USES}
use Rattle.calls.proofs.operands.uses_of.Goals as goal

row : (p : Operation) → Row (op_of p) (get_or USES (tag_of the_type p) [])
unfolding uses
row operation.Clear = record { d = refl; a = refl; b = refl }
row operation.Copy = record { d = refl; a = refl; b = refl }
row operation.Symbol = record { d = refl; a = refl; b = refl }
row operation.Wrap = record { d = refl; a = refl; b = refl }
row operation.Join = record { d = refl; a = refl; b = refl }
row operation.Head = record { d = refl; a = refl; b = refl }
row operation.Rest = record { d = refl; a = refl; b = refl }
row operation.Open = record { d = refl; a = refl; b = refl }
row operation.Length = record { d = refl; a = refl; b = refl }
row operation.First = record { d = refl; a = refl; b = refl }
row operation.Live = record { d = refl; a = refl; b = refl }
row operation.Collect = record { d = refl; a = refl; b = refl }

pub returns : goal.returns
returns c = row c.args.operation
