-- What an expression's text meets as it is written: nothing where it may be read and fits, and it may be read where it
-- meets nothing. In order:
--   Next                        a byte that may stand there: no bracket, a closing one, or an opening one
--   Passes                      with room for bytes, what is met is what the bytes behind them meet
--   text_fits                   an expression that may be read meets nothing where its text fits
--   Clear                       bytes that meet nothing in some room
--   text_readable               an expression whose text meets nothing may be read
-- Assumes nothing.
use mathlib.Core.Path.{◌≡◌, refl, sym, subst, ◌∙◌}
use mathlib.Core.Logic.{◌≢◌}
use mathlib.Core.Bool.{cond}
use mathlib.Core.List.{List, [], ◌∷◌, ◌++◌, append_assoc, append-nil}
use Prim.Native.Nat.{ℕ, zero, suc, ◌+◌, ◌-◌, ◌≤◌}
use native.Mathlib.Nat.{zero-add, suc-add, add_assoc}
use native.Mathlib.Omega.{arith}
use lib.Dec.{eqb}
use lib.ListN.{length, length-append}
use borrow.Author.Tests.{ne_eqb}
use Rattle.octets.specs.Decimal.{decimal}
use Rattle.octets.specs.Claims.{AllDigits}
use Rattle.octets.proofs.Final.{only_digits}
use Rattle.meaning.specs.Expr.{Expr, nothing, symbol, parens}
use Rattle.meaning.specs.Text.{gap, text, Readable, left_after, too_deep, trouble}
use Rattle.meaning.proofs.lay.Each.{Coded}
use Rattle.meaning.proofs.text.Texts.{tail}

-- ---- one byte

-- bytes that are no brackets
abbrev Plain : List ℕ → Type 0
Plain [] = Unit {0}
Plain (b ∷ bs) = (b ≢ 40) × (b ≢ 41) × Plain bs

module _ (left : ℕ) (bs : List ℕ) where
  -- a byte that may stand there, by the bytes of room
  abbrev Next : ℕ → ℕ → ℕ → Type 0
  Next b left' n = trouble left n (b ∷ bs) ≡ cond (eqb n 0) 22 (trouble left' (n - 1) bs)

  plain_next : (b n : ℕ) → b ≢ 40 → b ≢ 41 → Next b left n
  unfolding too_deep left_after
  plain_next b n h k = rw (ne_eqb b 40 h, ne_eqb b 41 k) refl

  close_next : (n : ℕ) → Next 41 (suc left) n
  unfolding too_deep left_after
  close_next n = refl

open_next : (left : ℕ) (bs : List ℕ) (n : ℕ) → Next (suc left) bs 40 left n
unfolding too_deep left_after
open_next left bs n =
    let z : suc left - 1 ≡ left = omega arith in rw (ne_eqb (suc left) 0 (omega arith), z) refl

-- one more byte of room
module _ (left left' b : ℕ) (bs : List ℕ) where
  next_step : ((n : ℕ) → Next left bs b left' n) → (n : ℕ) → trouble left (suc n) (b ∷ bs) ≡ trouble left' n bs
  next_step h n = let z : suc n - 1 ≡ n = omega arith in h (suc n) ∙ rw (ne_eqb (suc n) 0 (omega arith), z) refl

  -- bytes that meet nothing in some room
  next_back : ((n : ℕ) → Next left bs b left' n) → (n : ℕ) → trouble left n (b ∷ bs) ≡ 0
      → (m : ℕ) × (trouble left' m bs ≡ 0)
  next_back h zero e = absurd (let z : 22 ≡ 0 = sym (h 0) ∙ e in omega arith)
  next_back h (suc n) e = (n, sym (next_step h n) ∙ e)

-- ---- bytes that are no brackets

digits_plain : (xs : List ℕ) → AllDigits xs → Plain xs
digits_plain [] h = tt
digits_plain (x ∷ xs) h =
    let q = h 0 (omega arith) in
    (omega (arith, q.0), omega (arith, q.0), digits_plain xs (λ i l. h (suc i) (omega arith)))

decimal_plain : (a : ℕ) → Plain (decimal a)
decimal_plain a = digits_plain (decimal a) (only_digits a)

gap_plain : (e : Expr) → Plain (gap e)
gap_plain nothing = tt
gap_plain (symbol a r) = (omega arith, omega arith, tt)
gap_plain (parens i r) = (omega arith, omega arith, tt)

-- ---- bytes that pass: with room for them, what is met is what the bytes behind them meet

abbrev Passes : ℕ → List ℕ → ℕ → Type 0
Passes left xs left' =
    (rest : List ℕ) (m : ℕ) → trouble left (length xs + m) (xs ++ rest) ≡ trouble left' m rest

none_passes : (left : ℕ) → Passes left [] left
none_passes left rest m = rw (zero-add m) refl

byte_passes : (left left' left'' b : ℕ) (xs : List ℕ) → ((bs : List ℕ) (n : ℕ) → Next left bs b left' n)
    → Passes left' xs left'' → Passes left (b ∷ xs) left''
byte_passes left left' left'' b xs h k rest m =
    rw (suc-add (length xs) m)
    (next_step left left' b (xs ++ rest) (h (xs ++ rest)) (length xs + m) ∙ k rest m)

append_passes : (left left' left'' : ℕ) (xs ys : List ℕ) → Passes left xs left' → Passes left' ys left''
    → Passes left (xs ++ ys) left''
append_passes left left' left'' xs ys h k rest m =
    rw (append_assoc xs ys rest, length-append xs ys, add_assoc (length xs) (length ys) m)
    (h (ys ++ rest) (length ys + m) ∙ k rest m)

plain_passes : (left : ℕ) (xs : List ℕ) → Plain xs → Passes left xs left
plain_passes left [] h = none_passes left
plain_passes left (x ∷ xs) h =
    byte_passes left left left x xs (λ bs n. plain_next left bs x n h.0 h.1) (plain_passes left xs h.2)

text_passes : (left : ℕ) (e : Expr) → Readable left e → Passes left (text e) left
text_passes left nothing q = none_passes left
text_passes left (symbol a r) q =
    append_passes left left left (decimal a) (tail r) (plain_passes left (decimal a) (decimal_plain a))
    (append_passes left left left (gap r) (text r) (plain_passes left (gap r) (gap_plain r))
    (text_passes left r q.1))
text_passes zero (parens i r) q = absurd q
text_passes (suc left) (parens i r) q =
    byte_passes (suc left) left (suc left) 40 (text i ++ (41 ∷ tail r)) (open_next left)
    (append_passes left left (suc left) (text i) (41 ∷ tail r) (text_passes left i q.0)
    (byte_passes left (suc left) (suc left) 41 (tail r) (close_next left)
    (append_passes (suc left) (suc left) (suc left) (gap r) (text r)
    (plain_passes (suc left) (gap r) (gap_plain r)) (text_passes (suc left) r q.1))))

-- an expression that may be read meets nothing where its text fits
pub text_fits : (left n : ℕ) (e : Expr) → Readable left e → length (text e) ≤ n → trouble left n (text e) ≡ 0
text_fits left n e q h =
    let z : length (text e) + (n - length (text e)) ≡ n = omega arith in
    let k : trouble left n (text e ++ []) ≡ 0 = rw z at (text_passes left e q [] (n - length (text e))) in
    rw (append-nil (text e)) at k

-- ---- and back: bytes that meet nothing in some room

abbrev Clear : ℕ → List ℕ → Type 0
Clear left bs = (m : ℕ) × (trouble left m bs ≡ 0)

plain_clear : (left : ℕ) (xs rest : List ℕ) → Plain xs → Clear left (xs ++ rest) → Clear left rest
plain_clear left [] rest h k = k
plain_clear left (x ∷ xs) rest h k =
    plain_clear left xs rest h.2
    (next_back left left x (xs ++ rest) (λ n. plain_next left (xs ++ rest) x n h.0 h.1) k.0 k.1)

tail_clear : (left : ℕ) (r : Expr) (rest : List ℕ) → Clear left (tail r ++ rest) → Clear left (text r ++ rest)
tail_clear left r rest k =
    plain_clear left (gap r) (text r ++ rest) (gap_plain r) (subst (Clear left) (append_assoc (gap r) (text r) rest) k)

-- no bracket may be open at all
no_bracket : (bs : List ℕ) → Clear 0 (40 ∷ bs) → ⊥
unfolding too_deep
no_bracket bs k = let z : ◌≡◌ {A = ℕ} 21 0 = k.1 in omega arith

text_clear : (left : ℕ) (e : Expr) → Coded e → (rest : List ℕ) → Clear left (text e ++ rest)
    → Readable left e × Clear left rest
text_clear left nothing q rest k = (tt, k)
text_clear left (symbol a r) q rest k =
    let x = text_clear left r q.1 rest (tail_clear left r rest (plain_clear left (decimal a) (tail r ++ rest)
    (decimal_plain a) (subst (Clear left) (append_assoc (decimal a) (tail r) rest) k))) in
    ((q.0, x.0), x.1)
text_clear zero (parens i r) q rest k = absurd (no_bracket ((text i ++ (41 ∷ tail r)) ++ rest) k)
text_clear (suc left) (parens i r) q rest k =
    let bs = (text i ++ (41 ∷ tail r)) ++ rest in
    let a : Clear left bs = next_back (suc left) left 40 bs (open_next left bs) k.0 k.1 in
    let b = text_clear left i q.0 (41 ∷ (tail r ++ rest))
    (subst (Clear left) (append_assoc (text i) (41 ∷ tail r) rest) a) in
    let c = next_back left (suc left) 41 (tail r ++ rest) (close_next left (tail r ++ rest)) b.1.0 b.1.1 in
    let x = text_clear (suc left) r q.1 rest (tail_clear (suc left) r rest c) in
    ((b.0, x.0), x.1)

-- an expression whose text meets nothing may be read
pub text_readable : (left n : ℕ) (e : Expr) → Coded e → trouble left n (text e) ≡ 0 → Readable left e
text_readable left n e q k =
    (text_clear left e q [] (subst (Clear left) (sym (append-nil (text e))) (n, k))).0
