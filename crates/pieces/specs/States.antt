-- The state in numbers, as it goes from piece to piece, and what the functions promise (SCOPE 5.11).
-- Assumes nothing.
use Rattle.std.specs.Prelude.{◌≡◌, true, false, cond, ◌&&◌, List, ℕ, eqb, Result, Ok, Err}
use Rattle.meaning.specs.Verdicts.{valued}
use Rattle.meaning.specs.Judge as said
use Rattle.meaning.specs.Judge.{begun, spaced, number, closed, stopped}
use Rattle.meaning.specs.Reader.{reader, stop_status, stop_verdict, is_whole}
use Rattle.meaning.specs.Pieces as said-pieces
use Rattle.meaning.specs.Pieces.{Count, stand_fits, feeds, fits, no_pieces, counted}
use Rattle.reader.specs.Readers.{fault_of, stand_of, refused_at}
use Rattle.reader.specs.declared.judging.Fault.{Fault}
use Rattle.reader.specs.declared.judging.Fault.TheVariants as fault
use Rattle.reader.specs.declared.judging.Stand.{Stand}
use Rattle.reader.specs.declared.BadText.{BadText}
use Rattle.pieces.specs.declared.Counted.{Counted}
use Rattle.pieces.specs.declared.Pieces.{Pieces}

-- ---- where the reader stands, as a number

-- the number of f if n is that, and else m
abbrev pub or_else : ℕ → Fault → ℕ → ℕ
or_else n f m = cond (eqb n (fault_of f)) (fault_of f) m

-- the refusals have their own numbers, and any other number is that of bytes that are no text
abbrev pub refusal_from : ℕ → ℕ
refusal_from n = or_else n fault.NoCode (or_else n fault.TooDeep (or_else n fault.TooMany (fault_of fault.NotText)))

-- with the number so far, a
abbrev pub stand_from : ℕ → ℕ → said.Stand
stand_from n a =
    cond (eqb n 0) begun
    (cond (eqb n 1) spaced (cond (eqb n 2) (number a) (cond (eqb n 3) closed (stopped (refusal_from n)))))

abbrev pub number_of : said.Stand → ℕ
number_of begun = 0
number_of spaced = 1
number_of (number a) = 2
number_of closed = 3
number_of (stopped s) = s

-- the number so far, and 0 where the reader does not stand in one
abbrev pub code_of : said.Stand → ℕ
code_of begun = 0
code_of spaced = 0
code_of (number a) = a
code_of closed = 0
code_of (stopped s) = 0

-- where the reader stands, or why the text is refused
abbrev pub stand_is : Result Stand Fault → said.Stand
stand_is (Ok s) = stand_of s
stand_is (Err f) = stopped (fault_of f)

-- two numbers as that: the reader goes on there, or a text that ended there would be refused
abbrev pub StandsFor : ℕ → ℕ → Result Stand Fault → Type 0
StandsFor n a (Ok s) = stand_of s ≡ stand_from n a
StandsFor n a (Err f) = (stand_fits (stand_from n a) ≡ false) × (fault_of f ≡ stop_status (stand_from n a))

-- ---- the state

abbrev pub state_of : Pieces → said-pieces.Pieces
state_of s = record {
  place = reader (stand_from s.stand s.code) s.offset s.depth s.terms;
  own = s.own;
  most = s.most;
  waiting = s.counts;
}

abbrev pub struct_of : said-pieces.Pieces → Pieces
struct_of p = record {
  stand = number_of p.place.stand;
  code = code_of p.place.stand;
  offset = p.place.offset;
  depth = p.place.depth;
  terms = p.place.total;
  own = p.own;
  most = p.most;
  counts = p.waiting;
}

-- what the end gives; no cell is damaged
abbrev pub count_is : Counted → Count
count_is r = record { verdict = valued r.status r.value; need = r.terms; most = r.most }

-- ---- what `start`, `feed` and `end` promise

abbrev pub Starts : Pieces → Type 0
Starts r = r ≡ struct_of no_pieces

-- of any struct: every field of what comes back
abbrev pub Feeds : Pieces → List ℕ → Pieces → Type 0
Feeds s bs r = r ≡ cond (fits (state_of s)) (struct_of (feeds (state_of s) bs)) s

abbrev pub Ends : Pieces → Counted → Type 0
Ends s r = count_is r ≡ counted (state_of s)

-- the text ends, if it may, with the number of its terms
abbrev pub IsWhole : Pieces → Result ℕ BadText → Type 0
IsWhole s (Ok n) = ((fits (state_of s) && is_whole (state_of s).place) ≡ true) × (n ≡ s.terms)
IsWhole s (Err e) =
    ((fits (state_of s) && is_whole (state_of s).place) ≡ false) × (stop_verdict (state_of s).place ≡ refused_at e)
