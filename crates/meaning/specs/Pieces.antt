-- A text counted, whole and as it arrives in pieces (SCOPE 5.11). The judgement of a byte is that of Judge, and the
-- place in the text is that of Reader. In order:
--   most_terms, count_text   what a whole text has, as it is read
--   Pieces, feeds          the state between pieces, and bytes fed to it
--   fits, fed, fed_all      the states that go on;  a piece, and pieces, fed to any state
--   no_pieces, counted      before the first piece;  the end
-- Assumes nothing.
use Rattle.std.specs.Prelude.{Bool, true, false, cond, ◌&&◌, List, [], ◌∷◌, ℕ, suc, ◌+◌, ◌-◌, ◌*◌, ◌^◌, max, ltb, leb}
use Rattle.std.specs.Prelude.{get_or, set, take, replicate}
use Rattle.meaning.specs.Limits.{depth_limit, terms_limit}
use Rattle.meaning.specs.Expr.{Expr, nothing, symbol, parens, terms}
use Rattle.meaning.specs.Verdicts.{Verdict, only}
use Rattle.meaning.specs.Lay.{all_terms}
use Rattle.meaning.specs.Judge.{Stand, begun, spaced, number, closed, stopped}
use Rattle.meaning.specs.Judge.{Move, stops, begins, grows, opens, closes, parts, judge}
use Rattle.meaning.specs.Reader.{Reader, moved, is_full, at_start, is_whole, stop_verdict}
use Rattle.meaning.specs.Reader.{Draft, expression, reads, blank}

-- ---- a whole text

-- the most terms that any one expression has at its own level: of those in e's brackets, inward; and of these and e
abbrev pub most_within : Expr → ℕ
most_within nothing = 0
most_within (symbol a r) = most_within r
most_within (parens i r) = max (max (terms i) (most_within i)) (most_within r)

abbrev pub most_terms : Expr → ℕ
most_terms e = max (terms e) (most_within e)

-- what counting a text answers: its terms on all levels, which are the cells that it needs, and the most of one level;
-- or its refusal, with 0 and 0
pub record Count : Type 0 where
  pub verdict : Verdict
  pub need : ℕ
  pub most : ℕ

abbrev pub counts : ℕ → ℕ → Count
counts n m = record { verdict = only 0; need = n; most = m }

abbrev pub uncounted : Verdict → Count
uncounted v = record { verdict = v; need = 0; most = 0 }

unfoldable pub count_of : Draft → Count
count_of r =
    cond (is_whole r.place) (counts (all_terms (expression r)) (most_terms (expression r)))
    (uncounted (stop_verdict r.place))

unfoldable pub count_text : List ℕ → Count
count_text bs = count_of (reads blank bs)

-- ---- in pieces

-- The reader; the terms begun in the innermost open expression; the most that any one has had; and, for each i below
-- the depth, the terms of the expression that i brackets are around, with the bracket that is open in it.
pub record Pieces : Type 0 where
  pub place : Reader
  pub own : ℕ
  pub most : ℕ
  pub waiting : List ℕ

-- by what a byte does: a term begins in the innermost open expression, or another one becomes that
abbrev pub own_next : Move → Pieces → ℕ
own_next (stops s) p = p.own
own_next (begins a) p = suc p.own
own_next (grows a) p = p.own
own_next opens p = 0
own_next closes p = get_or p.waiting (p.place.depth - 1) 0
own_next parts p = p.own

abbrev pub most_next : Move → Pieces → ℕ
most_next (stops s) p = p.most
most_next (begins a) p = max p.most (suc p.own)
most_next (grows a) p = p.most
most_next opens p = max p.most (suc p.own)
most_next closes p = p.most
most_next parts p = p.most

abbrev pub waiting_next : Move → Pieces → List ℕ
waiting_next (stops s) p = p.waiting
waiting_next (begins a) p = p.waiting
waiting_next (grows a) p = p.waiting
waiting_next opens p = set p.waiting p.place.depth (suc p.own)
waiting_next closes p = p.waiting
waiting_next parts p = p.waiting

abbrev pub next : Move → Pieces → Pieces
next m p =
    record { place = moved m p.place; own = own_next m p; most = most_next m p; waiting = waiting_next m p }

unfoldable pub feed : ℕ → Pieces → Pieces
feed b p = next (judge p.place.stand p.place.depth (is_full p.place) b) p

abbrev pub feeds : Pieces → List ℕ → Pieces
feeds p [] = p
feeds p (b ∷ bs) = feeds (feed b p) bs

-- ---- any state

-- the reader is not stopped, and its code so far fits 28 bits
abbrev pub stand_fits : Stand → Bool
stand_fits begun = true
stand_fits spaced = true
stand_fits (number a) = ltb a (2 ^ 28)
stand_fits closed = true
stand_fits (stopped s) = false

-- The bytes that may still come before a term must begin, where no bracket is open: a digit makes its code larger, so
-- there are no more than codes; and one space.
abbrev pub ahead : Stand → ℕ
ahead begun = 1
ahead spaced = 0
ahead (number a) = 2 ^ 28 - a
ahead closed = 1
ahead (stopped s) = 0

-- each of the numbers is at most n
abbrev pub each_within : ℕ → List ℕ → Bool
each_within n [] = true
each_within n (x ∷ xs) = leb x n && each_within n xs

-- The state goes on: its numbers are within their limits, no count exceeds that of all terms, and the offset is not
-- farther than so many terms can lead. Every state that a text leads to does, until a byte is refused.
unfoldable pub fits : Pieces → Bool
fits p =
    stand_fits p.place.stand
    && (leb p.place.depth depth_limit
    && (leb p.place.total terms_limit
    && (leb p.own p.place.total
    && (leb p.most p.place.total
    && (leb (p.place.offset + p.place.depth + ahead p.place.stand) (2 ^ 28 * p.place.total + 1)
    && each_within p.place.total (take p.place.depth p.waiting))))))

-- any other is left as it is
unfoldable pub fed : Pieces → List ℕ → Pieces
fed p bs = cond (fits p) (feeds p bs) p

-- pieces one after the other
abbrev pub fed_all : Pieces → List (List ℕ) → Pieces
fed_all p [] = p
fed_all p (x ∷ xs) = fed_all (fed p x) xs

-- before the first piece
unfoldable pub no_pieces : Pieces
no_pieces = record { place = at_start; own = 0; most = 0; waiting = replicate depth_limit 0 }

-- at the end
unfoldable pub counted : Pieces → Count
counted p =
    cond (fits p && is_whole p.place) (counts p.place.total p.most)
    (uncounted (stop_verdict p.place))
