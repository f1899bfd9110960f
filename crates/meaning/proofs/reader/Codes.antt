-- What single bytes do where they may stand, and a code read digit by digit, freely. In order:
--   reads_append                 bytes read behind bytes
--   digit_is, digit_behind       a digit's byte;  a code with one behind it
--   Ready, Ended, Closing        where a term may begin, where one has ended, where a bracket may close
--   move_digit .. move_part      what a byte does there;  read_as  a byte read by its move
--   numbered, code_read          a code read, from where a term may begin
-- Assumes nothing.
use mathlib.Core.Path.{◌≡◌, refl, sym, ap, ◌∙◌, subst}
use mathlib.Core.Logic.{◌⊎◌, inl, inr}
use mathlib.Core.Bool.{true, false}
use mathlib.Core.List.{List, [], ◌∷◌, ◌++◌}
use Prim.Native.Nat.{ℕ, zero, suc, ◌+◌, ◌*◌, ◌/◌, ◌%◌, ◌≤◌, ◌<◌}
use native.Mathlib.Omega.{arith}
use native.Mathlib.Nat.{not-suc-le-zero}
use lib.ListN.{length, length-append}
use borrow.Author.Tests.{lt-ltb, ne_eqb}
use Rattle.octets.specs.Decimal.{decimal}
use Rattle.octets.proofs.Decimals.{decimal_one, decimal_more}
use Rattle.meaning.specs.Limits.{code_test, depth_limit}
use Rattle.meaning.specs.Sound.{IsCode}
use Rattle.meaning.specs.Judge.{Stand, begun, spaced, number, closed, stopped}
use Rattle.meaning.specs.Judge.{Move, begins, grows, opens, closes, parts}
use Rattle.meaning.specs.Judge.{is_digit, with_digit, first_move, later_move, more_move, judge}
use Rattle.meaning.specs.Reader.{reader, Draft, takes}
use Rattle.meaning.proofs.Lists.{lt_or_ge}
use Rattle.meaning.proofs.sound.Cells.{code_range, range_code}
use Rattle.meaning.proofs.reader.Moves.{is_digit_lem, first_digit, more_digit}
use Rattle.meaning.proofs.reader.Freely.{freely, read_free, reads_free}

pub reads_append : (xs ys : List ℕ) (r : Draft) → reads_free r (xs ++ ys) ≡ reads_free (reads_free r xs) ys
reads_append [] ys r = refl
reads_append (x ∷ xs) ys r = reads_append xs ys (read_free x r)

-- ---- single bytes

digit_is : (d : ℕ) → d ≤ 9 → is_digit (48 + d) ≡ true
digit_is d h = is_digit_lem (48 + d) (omega arith) (omega arith)

-- where a term may begin; where one has ended; where a bracket may close
abbrev pub Ready : Stand → Type 0
Ready begun = Unit {0}
Ready spaced = Unit {0}
Ready (number a) = ⊥
Ready closed = ⊥
Ready (stopped s) = ⊥

abbrev pub Ended : Stand → Type 0
Ended begun = ⊥
Ended spaced = ⊥
Ended (number a) = Unit {0}
Ended closed = Unit {0}
Ended (stopped s) = ⊥

abbrev pub Closing : Stand → Type 0
Closing begun = Unit {0}
Closing spaced = ⊥
Closing (number a) = Unit {0}
Closing closed = Unit {0}
Closing (stopped s) = ⊥

digit_behind : (a d : ℕ) → with_digit a (48 + d) ≡ 10 * a + d
unfolding with_digit
digit_behind a d = omega arith

first_code_lem : (depth d : ℕ) → IsCode d → d ≤ 9 → first_move depth false (48 + d) ≡ begins d
first_code_lem depth d l h =
    let e : with_digit 0 (48 + d) ≡ d = digit_behind 0 d ∙ omega arith in
    first_digit depth false (48 + d) true (digit_is d h) (ap code_test e ∙ l) ∙ ap begins e

move_digit : (s : Stand) (depth d : ℕ) → Ready s → IsCode d → d ≤ 9 → judge s depth false (48 + d) ≡ begins d
move_digit begun depth d r l h =
    let n : (48 + d ≡ 41 → ⊥) = (λ e. omega arith) in rw (ne_eqb (48 + d) 41 n) (first_code_lem depth d l h)
move_digit spaced depth d r l h = first_code_lem depth d l h
move_digit (number a) depth d r l h = absurd r
move_digit closed depth d r l h = absurd r
move_digit (stopped s) depth d r l h = absurd r

move_more : (a depth d : ℕ) → d ≤ 9 → IsCode (10 * a + d) → judge (number a) depth false (48 + d) ≡ grows (10 * a + d)
move_more a depth d h l =
    let e = digit_behind a d in more_digit a depth (48 + d) true (digit_is d h) (ap code_test e ∙ l) ∙ ap grows e

pub move_open : (s : Stand) (depth : ℕ) → Ready s → depth < depth_limit → judge s depth false 40 ≡ opens
unfolding first_move is_digit
move_open begun depth r d = simp (lt-ltb depth depth_limit d)
move_open spaced depth r d = simp (lt-ltb depth depth_limit d)
move_open (number a) depth r d = absurd r
move_open closed depth r d = absurd r
move_open (stopped s) depth r d = absurd r

pub move_close : (s : Stand) (depth : ℕ) → Closing s → 0 < depth → judge s depth false 41 ≡ closes
unfolding later_move more_move is_digit
move_close begun depth r d = simp (lt-ltb 0 depth d)
move_close spaced depth r d = absurd r
move_close (number a) depth r d = simp (lt-ltb 0 depth d)
move_close closed depth r d = simp (lt-ltb 0 depth d)
move_close (stopped s) depth r d = absurd r

pub move_part : (s : Stand) (depth : ℕ) → Ended s → judge s depth false 32 ≡ parts
unfolding later_move more_move is_digit
move_part begun depth r = absurd r
move_part spaced depth r = absurd r
move_part (number a) depth r = refl
move_part closed depth r = refl
move_part (stopped s) depth r = absurd r

pub read_as : (b : ℕ) (m : Move) (r : Draft) → freely r.place b ≡ m → read_free b r ≡ takes m r
unfolding read_free
read_as b m r e = ap (λ (x : Move). takes x r) e

-- ---- a code

abbrev pub numbered : ℕ → ℕ → Draft → Draft
numbered a n r = record {
  place = reader (number a) n r.place.depth (suc r.place.total);
  around = r.around;
  own = r.own;
}

smaller_code : (a b : ℕ) → 1 ≤ a → a ≤ b → IsCode b → IsCode a
smaller_code a b p h l = range_code a p (omega (arith, (code_range b l).1))

module _ (r : Draft) (ready : Ready r.place.stand) where
  one_digit : (a : ℕ) → IsCode a → a < 10 → read_free (48 + a) r ≡ numbered a (suc r.place.offset) r
  one_digit a l h =
      read_as (48 + a) (begins a) r (move_digit r.place.stand r.place.depth a ready l (omega arith))

  next_digit : (a n : ℕ) → 10 ≤ a → IsCode a → read_free (48 + a % 10) (numbered (a / 10) n r) ≡ numbered a (suc n) r
  next_digit a n l h =
      let e : 10 * (a / 10) + a % 10 ≡ a = omega arith in
      read_as (48 + a % 10) (grows (10 * (a / 10) + a % 10)) (numbered (a / 10) n r)
      (move_more (a / 10) r.place.depth (a % 10) (omega arith) (subst (λ (x : ℕ). IsCode x) (sym e) h))
      ∙ ap (λ (x : ℕ). numbered x (suc n) r) e

  code_at : (k a : ℕ) → a < k → IsCode a
      → reads_free r (decimal a) ≡ numbered a (r.place.offset + length (decimal a)) r
  code_at zero a h l = absurd (not-suc-le-zero h)
  code_at (suc k) a h l =
      go (lt_or_ge a 10) (λ g. code_at k (a / 10) (omega arith) (smaller_code (a / 10) a (omega arith) (omega arith) l))
    where
      go : (a < 10) ⊎ (10 ≤ a)
          → (10 ≤ a
          → reads_free r (decimal (a / 10)) ≡ numbered (a / 10) (r.place.offset + length (decimal (a / 10))) r)
          → reads_free r (decimal a) ≡ numbered a (r.place.offset + length (decimal a)) r
      go (inl g) ih =
          let n : suc r.place.offset ≡ r.place.offset + 1 = omega arith in
          rw (decimal_one a g) (one_digit a l g ∙ ap (λ (x : ℕ). numbered a x r) n)
      go (inr g) ih =
          let xs = decimal (a / 10) in
          let n : suc (r.place.offset + length xs) ≡ r.place.offset + length (xs ++ (48 + a % 10) ∷ []) =
          omega (arith, length-append xs ((48 + a % 10) ∷ [])) in
          rw (decimal_more a g)
          (reads_append xs ((48 + a % 10) ∷ []) r
          ∙ (ap (read_free (48 + a % 10)) (ih g)
          ∙ (next_digit a (r.place.offset + length xs) g l ∙ ap (λ (x : ℕ). numbered a x r) n)))

  pub code_read : (a : ℕ) → IsCode a → reads_free r (decimal a) ≡ numbered a (r.place.offset + length (decimal a)) r
  code_read a l = code_at (suc a) a (omega arith) l
