-- The judgement of a byte of a text that is read (SCOPE 5.8): by where the reader stands, how many brackets are open,
-- whether the text is full and the code so far, the byte goes on in one of five ways, or stops the reading with a
-- status. A text is full where as many terms have begun as it may have. Reading a text (Reader) is a fold of this, and
-- so is checking it in pieces (Pieces). Assumes nothing.
use Rattle.std.specs.Prelude.{Bool, cond, ◌&&◌, ℕ, ◌+◌, ◌-◌, ◌*◌, ltb, leb, eqb}
use Rattle.meaning.specs.Limits.{code_test, depth_limit}

-- Where the reader stands: a level has begun, and a term or its end may come; after a space, a term must come; in a
-- number, by the code so far; after a closing bracket; or stopped, with a status.
pub data Stand : Type 0 where
  begun : Stand
  spaced : Stand
  number : ℕ → Stand
  closed : Stand
  stopped : ℕ → Stand

-- What a byte does: it stops the reading with a status, begins a code, is a further digit of one, opens or closes a
-- bracket, or parts two terms.
pub data Move : Type 0 where
  stops : ℕ → Move
  begins : ℕ → Move
  grows : ℕ → Move
  opens closes parts : Move

unfoldable pub is_digit : ℕ → Bool
is_digit b = leb 48 b && leb b 57

-- the code a with the digit b behind it
unfoldable pub with_digit : ℕ → ℕ → ℕ
with_digit a b = 10 * a + (b - 48)

-- m is what a byte that begins a term does, unless the text is full
abbrev pub if_term : Bool → Move → Move
if_term full m = cond full (stops 24) m

-- a byte where a term may begin, with so many brackets open: 21 at a bracket that is one too many, then 24, then 13 at
-- a digit that is no code, so at a 0
unfoldable pub first_move : ℕ → Bool → ℕ → Move
first_move depth full b =
    cond (is_digit b) (if_term full (cond (code_test (with_digit 0 b)) (begins (with_digit 0 b)) (stops 13)))
    (cond (eqb b 40) (cond (ltb depth depth_limit) (if_term full opens) (stops 21)) (stops 23))

-- a byte after a whole term, or at the end of a level
unfoldable pub later_move : ℕ → ℕ → Move
later_move depth b = cond (eqb b 32) parts (cond (eqb b 41) (cond (ltb 0 depth) closes (stops 23)) (stops 23))

-- a byte after a digit: 13 at the digit with which the number is no code any more
unfoldable pub more_move : ℕ → ℕ → ℕ → Move
more_move a depth b =
    cond (is_digit b) (cond (code_test (with_digit a b)) (grows (with_digit a b)) (stops 13)) (later_move depth b)

abbrev pub judge : Stand → ℕ → Bool → ℕ → Move
judge begun depth full b = cond (eqb b 41) (later_move depth b) (first_move depth full b)
judge spaced depth full b = first_move depth full b
judge (number a) depth full b = more_move a depth b
judge closed depth full b = later_move depth b
judge (stopped s) depth full b = stops s
