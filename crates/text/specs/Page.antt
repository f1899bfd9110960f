-- A text space that is written from left to right up to the first trouble: what the writers do, byte by byte. In order:
--   Page, reached             the space, and whether it stopped before a bracket that is one too many
--   plain, written            a byte;  bytes that are no brackets
--   halted, stopped           the end before such a bracket, and unless a byte before it did not fit
--   next, writes              a byte of a text, by whether it opens a bracket;  a text
--   between                   the space before a term
--   ended                     what comes of a text that is written as far as it goes
--   page                      the page that the writers leave, by their answer
--   stopped_by, as_printed    that answer as printing's
--   zeroed                    the bytes that are left
--   Within                    which cells an expression may have
-- Assumes nothing.
use Rattle.std.specs.Prelude.{Bool, true, false, cond, List, [], ◌∷◌, ℕ, zero, suc, ◌+◌, ◌≤◌, ◌<◌, length, take}
use Rattle.std.specs.Prelude.{Result, Ok, Err}
use Rattle.octets.specs.Space.{Space, up_to, put_byte, write, filled}
use Rattle.meaning.specs.Limits.{first_heap_cell}
use Rattle.meaning.specs.Verdicts.{only}
use Rattle.meaning.specs.Text.{left_after, too_deep, Printed, unprinted}
use Rattle.text.specs.declared.NoText.{NoText}
use Rattle.text.specs.declared.NoText.TheVariants as no_text
use Rattle.text.specs.declared.writers.Stop.{Stop}
use Rattle.text.specs.declared.writers.Stop.TheVariants.{ShortSpace, TooDeep}

-- where the text stands, and whether it stopped before a bracket that is one too many
pub record Page : Type 0 where
  pub space : Space
  pub deep : Bool

-- written up to a place, with every byte so far
abbrev pub reached : List ℕ → ℕ → Page
reached out place = record { space = up_to out place; deep = false }

-- the next byte, where it fits
abbrev pub plain : ℕ → Page → Page
plain b g = record { space = put_byte b g.space; deep = g.deep }

-- and bytes that are no brackets
abbrev pub written : List ℕ → Page → Page
written xs g = record { space = write xs g.space; deep = g.deep }

-- the end before a bracket that is one too many
abbrev pub halted : Page → Page
halted g = record { space = record { bytes = g.space.bytes; place = g.space.place; short = true }; deep = true }

-- the same, unless a byte before it did not fit: that was the end
unfoldable pub stopped : Page → Page
stopped g = cond g.space.short g (halted g)

-- the next byte of a text, where `left` more brackets may be open before it
unfoldable pub next : ℕ → ℕ → Page → Page
next left b g = cond (too_deep left b) (stopped g) (plain b g)

-- a text, byte by byte
abbrev pub writes : ℕ → List ℕ → Page → Page
writes left [] g = g
writes left (b ∷ bs) g = writes (left_after left b) bs (next left b g)

-- the space before a term, where i terms stand before it
abbrev pub between : ℕ → Page → Page
between zero g = g
between (suc i) g = plain 32 g

-- what comes of it: 21, 22, or the length of the text, and zeros after it
unfoldable pub ended : Page → Printed
ended g =
    let n = length g.space.bytes in
    cond g.deep (unprinted (only 21) n)
    (cond g.space.short (unprinted (only 22) n)
    (record { verdict = only 0; size = g.space.place; space = filled n (take g.space.place g.space.bytes) }))

-- the page that the writers leave, by their answer
abbrev pub page : List ℕ → Result ℕ Stop → Page
page out (Ok place) = reached out place
page out (Err (ShortSpace place)) = record { space = record { bytes = out; place = place; short = true }; deep = false }
page out (Err (TooDeep place)) = halted (reached out place)

-- the same as printing's answer: how far the text came, or why there is none
abbrev pub stopped_by : Stop → NoText
stopped_by (ShortSpace place) = no_text.ShortSpace
stopped_by (TooDeep place) = no_text.TooDeep

abbrev pub as_printed : Result ℕ Stop → Result ℕ NoText
as_printed (Ok place) = Ok place
as_printed (Err stop) = Err (stopped_by stop)

-- the bytes with zeros behind the text, or everywhere where there is none
abbrev pub zeroed : Result ℕ NoText → List ℕ → List ℕ
zeroed (Ok n) out = filled (length out) (take n out)
zeroed (Err why) out = filled (length out) []

-- n cells from l on are occupied heap cells
abbrev pub Within : ℕ → ℕ → ℕ → Type 0
Within top l n = (i : ℕ) → i < n → (first_heap_cell ≤ l + i) × (l + i < top)
