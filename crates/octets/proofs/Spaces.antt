-- Laws of a space that is written from left to right. In order:
--   put_in, put_past, put_short       one byte: written, one too many, nothing any more
--   write_then, write_step            bytes, then bytes; the first of what is left to write is written
--   write_stops, write_cut            nothing is written behind a byte that did not fit
--   passed                            the answer that `?` passes on
--   bytes_cut, words_cut              a list of bytes, or of words, a part a turn, where a byte does not fit
--   sets_next                         words that all fit, a word a turn, from a place on
--   same_space                        the space stays as long
--   words_set                         words whose bytes all fit, set at once
--   write_fits, place_fits            bytes that fit, and the answer after them
--   write_short                       bytes that do not
-- Assumes nothing.
use mathlib.Core.Path.{◌≡◌, refl, sym, ap, ◌∙◌}
use mathlib.Core.Bool.{Bool, true, false, cond, true≢false}
use mathlib.Core.List.{List, [], ◌∷◌, ◌++◌, append_assoc}
use Prim.Native.Nat.{ℕ, suc, ◌+◌, ◌-◌, ◌*◌, ◌≤◌, ◌<◌}
use native.Mathlib.Omega.{arith}
use native.Mathlib.Numerals.{add-one}
use lib.Dec.{ltb}
use lib.ListN.{length, get_or, take, drop, set, length-set}
use lib.Seq.{sets, sets-eq, drop-cons, drop-drop}
use borrow.Rule.Slice.PartMut.{put_mid}
use Rattle.std.specs.Prelude.{Result, Ok, Err}
use Rattle.std.specs.Result.{IsErrAnd}
use Rattle.std.proofs.lemmas.Result.{err_from_is_err_and}
use borrow.Author.Tests.{lt-ltb, le-ltb, ltb-true, ltb-false}
use Rattle.octets.specs.Little.{bytes_of}
use Rattle.octets.specs.Space.{Space, up_to, blank, put_byte, write}
use Rattle.octets.specs.Places.{space}
use Rattle.octets.specs.declared.writing.Full.{Full}
use Rattle.octets.specs.Claims.{WriteFits, WriteShort, WriteStops}
use Rattle.octets.proofs.Endian.{bytes_length}

-- ---- one byte

module _ (s : Space) (b : ℕ) where
  pub put_in : s.short ≡ false → s.place < length s.bytes
      → put_byte b s ≡ up_to (set s.bytes s.place b) (s.place + 1)
  unfolding put_byte
  put_in e h = rw (e, lt-ltb s.place (length s.bytes) h) refl

  pub put_past : s.short ≡ false → length s.bytes ≤ s.place
      → put_byte b s ≡ record { bytes = s.bytes; place = s.place; short = true }
  unfolding put_byte
  put_past e h = rw (e, le-ltb s.place (length s.bytes) h) refl

  pub put_short : s.short ≡ true → put_byte b s ≡ s
  unfolding put_byte
  put_short e = rw e refl

  put_length : length (put_byte b s).bytes ≡ length s.bytes
  unfolding put_byte
  put_length = go s.short (ltb s.place (length s.bytes))
    where
      go : (t u : Bool)
          → length (cond t s (cond u (up_to (set s.bytes s.place b) (s.place + 1))
          (record { bytes = s.bytes; place = s.place; short = true }))).bytes ≡ length s.bytes
      go true u = refl
      go false true = length-set s.bytes s.place b
      go false false = refl

-- ---- bytes

write_append : (xs ys : List ℕ) (s : Space) → write (xs ++ ys) s ≡ write ys (write xs s)
write_append [] ys s = refl
write_append (x ∷ xs) ys s = write_append xs ys (put_byte x s)

pub write_then : (xs ys : List ℕ) (s s' s'' : Space) → s' ≡ write xs s → s'' ≡ write ys s' → s'' ≡ write (xs ++ ys) s
write_then xs ys s s' s'' e f = f ∙ (ap (write ys) e ∙ sym (write_append xs ys s))

-- of what was to be written, the front is written and the rest is left
pub write_step : (xs ys : List ℕ) (s s' x : Space) → s' ≡ write xs s → write (xs ++ ys) s ≡ x → write ys s' ≡ x
write_step xs ys s s' x e f = ap (write ys) e ∙ (sym (write_append xs ys s) ∙ f)

pub write_stops : WriteStops
write_stops [] s h = refl
write_stops (x ∷ xs) s h = ap (write xs) (put_short s x h) ∙ write_stops xs s h

-- what was to be written, where a byte of the front did not fit
pub write_cut : (xs ys : List ℕ) (s t x : Space) → t.short ≡ true → t ≡ write xs s → write (xs ++ ys) s ≡ x → t ≡ x
write_cut xs ys s t x h e f = sym (write_stops ys t h) ∙ write_step xs ys s t x e f

-- the answer that `?` passes on
pub passed : (out : List ℕ) (r : Result ℕ Full) {full : Full} → IsErrAnd r (λ y. y ≡ full)
    → space out r ≡ space out (Err full)
passed out r h = let p = err_from_is_err_and r h in rw (p.1, p.2) refl

-- a list of bytes, or of words, a part a turn, where a byte does not fit
pub bytes_cut : (l : List ℕ) (i : ℕ) (s t x : Space) → i < length l → t.short ≡ true → t ≡ put_byte (get_or l i 0) s
    → write (drop i l) s ≡ x → t ≡ x
bytes_cut l i s t x h q e f =
    write_cut (get_or l i 0 ∷ []) (drop (suc i) l) s t x q e (rw (drop-cons l i 0 h) at f)

pub words_cut : (l : List ℕ) (i : ℕ) (s t x : Space) → i < length l → t.short ≡ true
    → t ≡ write (bytes_of (get_or l i 0 ∷ [])) s → write (bytes_of (drop i l)) s ≡ x → t ≡ x
words_cut l i s t x h q e f =
    write_cut (bytes_of (get_or l i 0 ∷ [])) (bytes_of (drop (suc i) l)) s t x q e (rw (drop-cons l i 0 h) at f)

-- words that fit, set from a place on
sets_append : (xs ys out : List ℕ) (place : ℕ)
    → sets (sets out place xs) (place + length xs) ys ≡ sets out place (xs ++ ys)
sets_append [] ys out place = let e : place + 0 ≡ place = omega arith in rw e refl
sets_append (x ∷ xs) ys out place =
    let e : place + suc (length xs) ≡ suc place + length xs = omega arith in
    rw e (sets_append xs ys (set out place x) (suc place))

-- four bytes of a word at once
sets_part : (xs out : List ℕ) (at : ℕ) → at + length xs ≤ length out → put_mid at (length xs) out xs ≡ sets out at xs
sets_part xs out at h =
    rw (sets-eq xs out at h, append_assoc)
    (ap (λ (r : List ℕ). take at out ++ (xs ++ r)) (drop-drop (length xs) at out))

pub sets_next : (ws out x ys : List ℕ) (place i : ℕ) → i < length ws → place + 4 * length ws ≤ length out
    → ys ≡ bytes_of (get_or ws i 0 ∷ []) → sets out (place + 4 * i) (bytes_of (drop i ws)) ≡ x
    → sets (put_mid (place + 4 * i) (place + 4 * i + 4 - (place + 4 * i)) out ys) (place + 4 * (i + 1))
    (bytes_of (drop (i + 1) ws)) ≡ x
sets_next ws out x ys place i h k e f =
    let at = place + 4 * i in
    let word = bytes_of (get_or ws i 0 ∷ []) in
    let rest = bytes_of (drop (suc i) ws) in
    let four : place + 4 * i + 4 - (place + 4 * i) ≡ 4 = omega arith in
    let next : place + 4 * (i + 1) ≡ place + 4 * i + 4 = omega arith in
    rw (e, four, next, add-one i, sets_part word out at (omega arith))
    (sets_append word rest out at ∙ (rw (drop-cons ws i 0 h) at f))

write_length : (xs : List ℕ) (s : Space) → length (write xs s).bytes ≡ length s.bytes
write_length [] s = refl
write_length (x ∷ xs) s = write_length xs (put_byte x s) ∙ put_length s x

pub same_space : (xs ys : List ℕ) (s t : Space) → write xs s ≡ write ys t → length s.bytes ≡ length t.bytes
same_space xs ys s t e =
    sym (write_length xs s) ∙ (ap (λ (x : Space). length x.bytes) e ∙ write_length ys t)

-- ---- what fits, and what does not

write_sets : (xs out : List ℕ) (place : ℕ) → place + length xs ≤ length out
    → write xs (up_to out place) ≡ up_to (sets out place xs) (place + length xs)
write_sets [] out place h = let e : place + 0 ≡ place = omega arith in rw e refl
write_sets (x ∷ xs) out place h =
    let e : place + suc (length xs) ≡ place + 1 + length xs = omega arith in
    let f : suc place ≡ place + 1 = omega arith in
    ap (write xs) (put_in (up_to out place) x refl (omega arith))
    ∙ (write_sets xs (set out place x) (place + 1) (omega (arith, length-set out place x)) ∙ rw (e, f) refl)

-- words whose bytes all fit, set at once
pub words_set : (ws out out' : List ℕ) (place : ℕ) → place + 4 * length ws ≤ length out
    → out' ≡ sets out place (bytes_of ws)
    → up_to out' (place + 4 * length ws) ≡ write (bytes_of ws) (up_to out place)
words_set ws out out' place h f =
    let n = bytes_length ws in
    rw (f, ← n) (sym (write_sets (bytes_of ws) out place (omega (arith, n, h))))

pub write_fits : WriteFits
write_fits xs out h =
    let e : 0 + length xs ≡ length xs = omega arith in
    write_sets xs out 0 (omega arith) ∙ rw (sets-eq xs out 0 (omega arith), e) refl

-- the answer where what is written fits
pub place_fits : (xs out out' : List ℕ) (r : Result ℕ Full) → length xs ≤ length out
    → space out' r ≡ write xs (blank out) → (r ≡ Ok (length xs)) × (out' ≡ xs ++ drop (length xs) out)
place_fits xs out out' (Ok place) h e =
    let f = e ∙ write_fits xs out h in
    (ap {B = Result ℕ Full} (λ (s : Space). Ok (s.place)) f, ap (λ (s : Space). s.bytes) f)
place_fits xs out out' (Err full) h e =
    let f = e ∙ write_fits xs out h in absurd (true≢false (ap (λ (s : Space). s.short) f))

write_over : (xs out : List ℕ) (place : ℕ) → place ≤ length out → length out < place + length xs
    → (write xs (up_to out place)).short ≡ true
write_over [] out place g h = absurd (omega arith)
write_over (x ∷ xs) out place g h = go (ltb place (length out)) refl
    (λ l. write_over xs (set out place x) (place + 1) (omega (arith, length-set out place x))
    (omega (arith, length-set out place x)))
  where
    go : (t : Bool) → ltb place (length out) ≡ t
        → (place < length out → (write xs (up_to (set out place x) (place + 1))).short ≡ true)
        → (write xs (put_byte x (up_to out place))).short ≡ true
    go true e r = let l = ltb-true place (length out) e in rw (put_in (up_to out place) x refl l) (r l)
    go false e r =
        let s : Space = record { bytes = out; place = place; short = true } in
        rw (put_past (up_to out place) x refl (ltb-false place (length out) e), write_stops xs s refl) refl

pub write_short : WriteShort
write_short xs out h = write_over xs out 0 (omega arith) (omega arith)
