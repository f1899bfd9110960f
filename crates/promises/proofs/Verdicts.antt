-- A verdict by its three numbers. Assumes nothing.
use mathlib.Core.Path.{◌≡◌}
use Rattle.meaning.specs.Verdicts.{Verdict}

pub verdict_parts : (v w : Verdict) → v.status ≡ w.status → v.value ≡ w.value → v.rule ≡ w.rule → v ≡ w
verdict_parts v w e f g = λ j. record { status = e j; value = f j; rule = g j }
