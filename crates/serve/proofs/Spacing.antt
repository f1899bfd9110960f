-- What the lines of the output are made of, and how many bytes they take. In order:
--   line_fields             two fields are a line
--   lines_next, lines_none  the lines of the answers, one after the other
--   lines_cut               a line of which a byte does not fit
--   refusal_short           the bytes of a refusal
--   report_fits             the bytes of lines and the last one
--   front_ok, front         what was written where there was room
--   first_ok, both_front    the same of bytes and those behind them
-- Assumes nothing.
use mathlib.Core.Path.{◌≡◌, refl}
use mathlib.Core.Bool.{true}
use mathlib.Core.List.{List, [], ◌∷◌, ◌++◌, append_assoc}
use Rattle.std.specs.Prelude.{Result, Ok, IsOk}
use Rattle.std.specs.Result.{result_unwrap_or}
use Rattle.std.specs.Simd.{first_chunks}
use Prim.Native.Nat.{ℕ, zero, suc, ◌+◌, ◌*◌, ◌/◌, ◌^◌, ◌≤◌, ◌<◌}
use native.Mathlib.Omega.{arith}
use lib.ListN.{length, get_or, drop, length-append, length-drop}
use lib.Seq.{drop-cons}
use Rattle.octets.specs.Decimal.{decimal}
use Rattle.octets.specs.Space.{Space, up_to, blank, write}
use Rattle.octets.specs.Places.{space}
use Rattle.octets.specs.declared.writing.Full.{Full}
use Rattle.octets.proofs.Decimals.{length_one, word_digits, long_digits}
use Rattle.octets.proofs.Spaces.{write_then, write_step, write_cut, place_fits}
use Rattle.meaning.specs.Program.{lines_of, refusal, written}
use Rattle.serve.specs.Front.{Front}
use Rattle.serve.specs.Lines.{top_line}

-- two fields are a line
pub line_fields : (s v : ℕ) → (decimal s ++ (32 ∷ [])) ++ (decimal v ++ (10 ∷ [])) ≡ lines_of (s ∷ v ∷ [])
line_fields s v = simp append_assoc

-- a line and those after it
line_rest : (s v : ℕ) (rest : List ℕ) → lines_of (s ∷ v ∷ rest) ≡ lines_of (s ∷ v ∷ []) ++ lines_of rest
line_rest s v rest = simp append_assoc

-- the answers from i on: the line of two of them and the rest, or nothing
lines_drop : (answers : List ℕ) (i : ℕ) → i + 1 < length answers
    → lines_of (drop i answers)
    ≡ lines_of (get_or answers i 0 ∷ get_or answers (i + 1) 0 ∷ []) ++ lines_of (drop (i + 2) answers)
lines_drop answers i h =
    let e : i + 2 ≡ suc (i + 1) = omega arith in
    let f : i + 1 ≡ suc i = omega arith in
    rw (e, drop-cons answers i 0 (omega arith), ← f, drop-cons answers (i + 1) 0 h)
    (line_rest (get_or answers i 0) (get_or answers (i + 1) 0) (drop (suc (i + 1)) answers))

-- a pair of the answers
pair_at : (answers : List ℕ) (k i : ℕ) (none : List ℕ) → k ≡ length answers / 2 → i < k
    → get_or (first_chunks 2 k answers) i none ≡ get_or answers (2 * i) 0 ∷ get_or answers (2 * i + 1) 0 ∷ []
pair_at [] k i none e h = absurd (omega arith)
pair_at (s ∷ []) k i none e h = absurd (omega arith)
pair_at (s ∷ v ∷ answers) zero i none e h = absurd (omega arith)
pair_at (s ∷ v ∷ answers) (suc k) zero none e h = refl
pair_at (s ∷ v ∷ answers) (suc k) (suc i) none e h =
    let p : 2 * suc i ≡ suc (suc (2 * i)) = omega arith in
    let q : 2 * suc i + 1 ≡ suc (suc (2 * i + 1)) = omega arith in
    rw (q, p) (pair_at answers k i none (omega arith) (omega arith))

-- the loop over the pairs: the line of a pair, and those after it
module _ (answers : List ℕ) (pairs : List (List ℕ)) (e : pairs ≡ first_chunks 2 (length answers / 2) answers)
    (n : length pairs ≡ length answers / 2) (i : ℕ) where
  abbrev pair_line : List ℕ
  pair_line = let pair = get_or pairs i [] in lines_of (get_or pair 0 0 ∷ get_or pair 1 0 ∷ [])

  module _ (h : i < length pairs) where
    pair_rest : lines_of (drop (2 * i) answers) ≡ pair_line ++ lines_of (drop (2 * (i + 1)) answers)
    pair_rest =
        let k : 2 * (i + 1) ≡ 2 * i + 2 = omega arith in
        rw (e, pair_at answers (length answers / 2) i [] refl (omega arith), k)
        (lines_drop answers (2 * i) (omega arith))

    pub lines_next : (s s' x : Space) → s' ≡ write pair_line s → write (lines_of (drop (2 * i) answers)) s ≡ x
        → write (lines_of (drop (2 * (i + 1)) answers)) s' ≡ x
    lines_next s s' x f g = write_step pair_line (lines_of (drop (2 * (i + 1)) answers)) s s' x f (rw pair_rest at g)

    -- or a byte of it that does not fit
    pub lines_cut : (s t x : Space) → t.short ≡ true → t ≡ write pair_line s
        → write (lines_of (drop (2 * i) answers)) s ≡ x → t ≡ x
    lines_cut s t x q f g = write_cut pair_line (lines_of (drop (2 * (i + 1)) answers)) s t x q f (rw pair_rest at g)

lines_few : (answers : List ℕ) → length answers ≤ 1 → lines_of answers ≡ []
lines_few [] h = refl
lines_few (s ∷ []) h = refl
lines_few (s ∷ v ∷ answers) h = absurd (omega arith)

pub lines_none : (answers : List ℕ) (i : ℕ) (s x : Space) → length answers ≤ i + 1
    → write (lines_of (drop i answers)) s ≡ x → s ≡ x
lines_none answers i s x h f = rw (lines_few (drop i answers) (omega (arith, length-drop i answers))) at f

-- ---- how many bytes

line_length : (s v : ℕ) (rest : List ℕ)
    → length (lines_of (s ∷ v ∷ rest)) ≡ length (decimal s) + 1 + (length (decimal v) + 1) + length (lines_of rest)
line_length s v rest = simp length-append (omega arith)

top_line_length : (n : ℕ) → length (top_line n) ≡ length (decimal n) + 5
unfolding written
top_line_length n = simp length-append (omega arith)

refusal_length : (s v : ℕ) → length (refusal s v) ≡ 8 + length (lines_of (s ∷ v ∷ []))
unfolding refusal
refusal_length s v = omega arith

pub refusal_short : (s : ℕ) → s < 10 → length (refusal s 0) ≤ 12
refusal_short s h = omega (arith, refusal_length s 0, line_length s 0 [], length_one s h, length_one 0 (omega arith))

-- words of 32 bits have at most ten digits, so that a line has at most 22 bytes
lines_bound : (answers : List ℕ) → ((i : ℕ) → get_or answers i 0 < 2 ^ 32)
    → length (lines_of answers) ≤ 11 * length answers
lines_bound [] h = omega arith
lines_bound (s ∷ []) h = omega arith
lines_bound (s ∷ v ∷ answers) h =
    omega (
      arith,
      line_length s v answers,
      word_digits s (h 0),
      word_digits v (h 1),
      lines_bound answers (λ i. h (suc (suc i))),
    )

-- and a number of 64 bits at most twenty
top_line_bound : (n : ℕ) → n < 2 ^ 64 → length (top_line n) ≤ 25
top_line_bound n h = omega (arith, top_line_length n, long_digits n h)

pub report_fits : (answers : List ℕ) (top room : ℕ) → ((i : ℕ) → get_or answers i 0 < 2 ^ 32) → top < 2 ^ 64
    → 11 * length answers + 25 ≤ room → length (lines_of answers ++ top_line top) ≤ room
report_fits answers top room h g f =
    simp length-append (omega (arith, lines_bound answers h, top_line_bound top g))

-- what was written where there was room stands at the start, whatever the answer is else
module _ (xs out out' : List ℕ) (r : Result ℕ Full) (h : length xs ≤ length out)
    (e : space out' r ≡ write xs (blank out)) where
  front_ok : IsOk r
  front_ok = let f = place_fits xs out out' r h e in rw (f.0) refl

  front : (none : ℕ) → Front out xs out' (result_unwrap_or r none)
  front none = let f = place_fits xs out out' r h e in rw (f.0) (refl, f.1)

-- the same of bytes and those behind them, written one after the other
module _ (xs ys out : List ℕ) (h : length (xs ++ ys) ≤ length out) (out' : List ℕ) (r : Result ℕ Full)
    (e : space out' r ≡ write xs (blank out)) where
  pub first_ok : IsOk r
  first_ok = front_ok xs out out' r (omega (arith, h, length-append xs ys)) e

  pub both_front : (place : ℕ) → r ≡ Ok place → (out'' : List ℕ) (r' : Result ℕ Full)
      → space out'' r' ≡ write ys (up_to out' place) → Front out (xs ++ ys) out'' (result_unwrap_or r' place)
  both_front place k out'' r' f =
      front (xs ++ ys) out out'' r' h
      (write_then xs ys (blank out) (up_to out' place) (space out'' r') (rw k at e) f) place
