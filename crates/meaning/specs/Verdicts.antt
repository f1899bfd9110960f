-- Verdicts: the numbers that come back, alone and with the store as it is left (SCOPE 4.6, 5.1).
-- Assumes nothing.
use Rattle.std.specs.Prelude.{List, ℕ, zero, suc}

-- the numbers that come back; the rule is that of a damaged cell, and 0 where there is none
pub record Verdict : Type 0 where
  pub status : ℕ
  pub value : ℕ
  pub rule : ℕ

-- a status with a value, or with value 0
abbrev pub valued : ℕ → ℕ → Verdict
valued s v = record { status = s; value = v; rule = 0 }

abbrev pub only : ℕ → Verdict
only s = valued s 0

-- 3 with the damaged cell and the rule that it breaks
abbrev pub damaged_at : ℕ → ℕ → Verdict
damaged_at c q = record { status = 3; value = c; rule = q }

-- a verdict with the store and `top` as they are left
pub record Done : Type 0 where
  pub verdict : Verdict
  pub words : List ℕ
  pub top : ℕ

-- done, with a value
abbrev pub done : List ℕ → ℕ → ℕ → Done
done ws top v = record { verdict = valued 0 v; words = ws; top = top }

-- refused, with the store and `top` that stay
abbrev pub refused : List ℕ → ℕ → Verdict → Done
refused ws top v = record { verdict = v; words = ws; top = top }

-- x where a verdict's status is 0, else y
abbrev pub on_zero {ℓ} : {A : Type ℓ} → ℕ → A → A → A
on_zero zero x y = x
on_zero (suc s) x y = y

abbrev pub if_sound {ℓ} : {A : Type ℓ} → Verdict → A → A → A
if_sound v x y = on_zero v.status x y
