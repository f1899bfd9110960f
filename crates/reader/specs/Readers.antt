-- The reader of the code as the definitions have it, and what a text is found to be. Assumes nothing.
use Rattle.std.specs.Prelude.{◌≡◌, true, false, ℕ, suc, ◌^◌, ◌<◌, Result, Ok, Err}
use Rattle.meaning.specs.Limits.{code_test}
use Rattle.meaning.specs.Verdicts.{Verdict, valued}
use Rattle.meaning.specs.Judge as said
use Rattle.meaning.specs.Judge.{begun, spaced, number, closed, stops, begins, grows, opens, closes, parts}
use Rattle.meaning.specs.Judge.{with_digit, judge}
use Rattle.meaning.specs.Reader as said-reader
use Rattle.meaning.specs.Reader.{reader, is_full, is_whole, stop_verdict}
use Rattle.reader.specs.declared.judging.Fault.{Fault}
use Rattle.reader.specs.declared.judging.Fault.TheVariants as fault
use Rattle.reader.specs.declared.codes.Code.{Code}
use Rattle.reader.specs.declared.judging.Stand.{Stand}
use Rattle.reader.specs.declared.judging.Stand.TheVariants as stand
use Rattle.reader.specs.declared.judging.Move.{Move}
use Rattle.reader.specs.declared.judging.Move.TheVariants as move
use Rattle.reader.specs.declared.Reader.{Reader}
use Rattle.reader.specs.declared.BadText.{BadText}

-- SCOPE's number for each reason to refuse a text (5.8)
abbrev pub fault_of : Fault → ℕ
fault_of fault.NoCode = 13
fault_of fault.TooDeep = 21
fault_of fault.NotText = 23
fault_of fault.TooMany = 24

abbrev pub stand_of : Stand → said.Stand
stand_of stand.Begun = begun
stand_of stand.Spaced = spaced
stand_of (stand.Number a) = number a.value
stand_of stand.Closed = closed

abbrev pub move_of : Move → said.Move
move_of (move.Begins a) = begins a.value
move_of (move.Grows a) = grows a.value
move_of move.Opens = opens
move_of move.Closes = closes
move_of move.Parts = parts

-- what a byte does, or why it is refused
abbrev pub judgement_of : Result Move Fault → said.Move
judgement_of (Ok m) = move_of m
judgement_of (Err f) = stops (fault_of f)

-- the code a is lengthened by the digit b, if that gives a code
abbrev pub Lengthens : Code → ℕ → Result Code Fault → Type 0
Lengthens a b (Ok c) = (code_test (with_digit a.value b) ≡ true) × (c.value ≡ with_digit a.value b)
Lengthens a b (Err f) = (code_test (with_digit a.value b) ≡ false) × (f ≡ fault.NoCode)

abbrev pub reader_of : Reader → said-reader.Reader
reader_of r = reader (stand_of r.stand) r.offset r.depth r.total

-- the numbers of a reader are in range, so that a further byte may be counted
pub record CanRead (r : Reader) : Type 0 where
  pub before : suc r.offset < 2 ^ 64
  pub deep : suc r.depth < 2 ^ 64
  pub many : suc r.total < 2 ^ 64

-- a bracket that closes is one of d that are open
abbrev pub Suits : said.Move → ℕ → Type 0
Suits (stops s) d = Unit {0}
Suits (begins a) d = Unit {0}
Suits (grows a) d = Unit {0}
Suits opens d = Unit {0}
Suits closes d = 0 < d
Suits parts d = Unit {0}

-- the byte b is judged
abbrev pub Judged : Reader → ℕ → Result Move Fault → Type 0
Judged r b m =
    (judgement_of m ≡ judge (stand_of r.stand) r.depth (is_full (reader_of r)) b) × Suits (judgement_of m) r.depth

-- the reader can go on by a move
abbrev pub CanGo : Move → Reader → Type 0
CanGo m r = CanRead r × Suits (move_of m) r.depth

-- a refusal with its offset
abbrev pub refused_at : BadText → Verdict
refused_at e = valued (fault_of e.fault) e.offset

-- the end of the text: the number of terms, or the refusal with its offset
abbrev pub Finds : said-reader.Reader → Result ℕ BadText → Type 0
Finds r (Ok n) = (is_whole r ≡ true) × (r.total ≡ n)
Finds r (Err e) = (is_whole r ≡ false) × (stop_verdict r ≡ refused_at e)
