-- The status of each refusal of a call (SCOPE 4.5). Assumes nothing.
use Rattle.std.specs.Prelude.{ℕ}
use Rattle.calls.specs.declared.answer.Refusal.{Refusal}
use Rattle.calls.specs.declared.answer.Refusal.TheVariants.{BadOperation, BadRegister, StrayWord, BadCode, Empty}
use Rattle.calls.specs.declared.answer.Refusal.TheVariants.{WrongKind, NoRoom}

abbrev pub status_of : Refusal → ℕ
status_of BadOperation = 10
status_of BadRegister = 11
status_of StrayWord = 12
status_of BadCode = 13
status_of Empty = 14
status_of WrongKind = 15
status_of NoRoom = 16
