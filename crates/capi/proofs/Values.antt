-- The value of an answer fits a word, from the numbers that it is made of. Assumes nothing.
use mathlib.Core.Path.{◌≡◌, ap}
use Prim.Native.Nat.{◌≤◌}
use Rattle.meaning.specs.Limits.{limit}
use Rattle.meaning.specs.Verdicts.{Verdict}
use Rattle.capi.specs.Answers.{numbers_are}
use Rattle.capi.specs.declared.numbers.Numbers.{Numbers}

pub value_fits : (n : Numbers) (v : Verdict) → numbers_are n ≡ v → v.value ≤ limit → n.value ≤ limit
value_fits n v e h = rw (ap (λ (x : Verdict). x.value) e) h
