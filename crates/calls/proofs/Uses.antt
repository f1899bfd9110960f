-- How a word is used, by its number. Assumes nothing.
use mathlib.Core.Path.{◌≡◌, refl}
use lib.Dec.{eqb}
use denote.Enum.Bare.{sameb}
use Rattle.calls.specs.Operations.{use_of}
use Rattle.calls.specs.contracts.operands.Use.{the_type}
use Rattle.calls.specs.declared.operands.Use.{Use}
use Rattle.calls.specs.declared.operands.Use.TheVariants.{Unused, Register, Code}

-- two uses are one where their numbers are
pub same_use : (u v : Use) → sameb the_type u v ≡ eqb (use_of u) (use_of v)
same_use Unused Unused = refl
same_use Unused Register = refl
same_use Unused Code = refl
same_use Register Unused = refl
same_use Register Register = refl
same_use Register Code = refl
same_use Code Unused = refl
same_use Code Register = refl
same_use Code Code = refl
