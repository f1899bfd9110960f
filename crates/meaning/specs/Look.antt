-- The look: the part of the lent store that holds a register's cells (SCOPE 5.5). Assumes nothing.
use Rattle.std.specs.Prelude.{cond, List, ℕ, ◌+◌, ◌-◌, ◌*◌, ltb, take, drop}
use Rattle.meaning.specs.Sound.{Cell, empty, at, size, start}
use Rattle.meaning.specs.Verdicts.{if_sound}
use Rattle.meaning.specs.Check.{check}

-- a part of a list, as two word numbers: from the one up to but not including the other
pub record Span : Type 0 where
  pub from : ℕ
  pub to : ℕ

unfoldable pub span_of : Cell → Span
span_of b = record { from = 2 * start b; to = 2 * start b + 2 * size b }

-- empty for an empty register, a register that is none, or an unsound store
unfoldable pub look_span : ℕ → List ℕ → ℕ → ℕ → Span
look_span F ws top i = if_sound (check F ws top) (cond (ltb i F) (span_of (at ws i)) (span_of empty)) (span_of empty)

unfoldable pub look : ℕ → List ℕ → ℕ → ℕ → List ℕ
look F ws top i = let s = look_span F ws top i in take (s.to - s.from) (drop s.from ws)
