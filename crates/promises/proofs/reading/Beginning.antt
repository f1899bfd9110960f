-- The terms that begin in bytes, as the bytes show them and as the reader counts them. In order:
--   in_number                the reader stands in a number
--   begun_byte              a byte begins as many terms as the reader counts
--   begun_so, begun_all     so do bytes with more behind them, and by themselves
--   going_may, may_going    bytes may begin a text exactly where they do not stop the reader
--   terms_begin             in a text, a term begins for each that its expression has
-- Assumes nothing.
use mathlib.Core.Path.{◌≡◌, refl, sym, ap, ◌∙◌, subst}
use mathlib.Core.Bool.{Bool, true, false, cond, not, ◌&&◌, ◌||◌}
use mathlib.Core.List.{List, [], ◌∷◌, ◌++◌, append-nil}
use Prim.Native.Nat.{ℕ, ◌+◌, ◌<◌}
use native.Mathlib.Omega.{arith}
use lib.Dec.{eqb}
use borrow.Author.Tests.{lt-leb, eq-eqb, ne_eqb}
use Rattle.meaning.specs.Text.{text}
use Rattle.meaning.specs.Judge.{Stand, begun, spaced, number, closed, stopped, Move, stops, closes, parts}
use Rattle.meaning.specs.Judge.{is_digit, first_move, later_move, judge}
use Rattle.meaning.specs.Reader.{Reader, moved, advances, at_start, blank}
use Rattle.meaning.proofs.reader.Moves.{either, is_digit_lem, first_cases, later_cases, more_cases}
use Rattle.meaning.proofs.reader.Completing.{Completed, Going, begins_text}
use Rattle.meaning.proofs.reader.Freely.{freely, advances_free, free_before, free_place, going_free, whole_going}
use Rattle.meaning.proofs.reader.Freely.{few_terms}
use Rattle.meaning.proofs.reader.Back.{read_freely}
use Rattle.meaning.proofs.reader.Leftmost.{completed_free, completed_going}
use Rattle.promises.specs.Reading.{begun_at, begun_behind, terms_begun, TermsBegin, MayBegin}

abbrev pub in_number : Stand → Bool
in_number begun = false
in_number spaced = false
in_number (number a) = true
in_number closed = false
in_number (stopped s) = false

-- ---- a byte

no_digit : (b : ℕ) → b < 48 → is_digit b ≡ false
unfolding is_digit
no_digit b l = rw (lt-leb 48 b l) refl

module _ (p b : ℕ) where
  pub digit_begins : is_digit p ≡ false → is_digit b ≡ true → begun_at p b ≡ 1
  digit_begins h e = go (eqb b 40)
    where
      go : (t : Bool) → cond {A = ℕ} (t || (is_digit b && not (is_digit p))) 1 0 ≡ 1
      go true = refl
      go false = rw (e, h) refl

  pub bracket_begins : b ≡ 40 → begun_at p b ≡ 1
  bracket_begins e = rw (eq-eqb b 40 e) refl

  -- any other byte, and a digit behind one
  pub none_begins : (b ≡ 40 → ⊥) → is_digit b ≡ false → begun_at p b ≡ 0
  none_begins n h = rw (ne_eqb b 40 n, h) refl

  more_begins : is_digit p ≡ true → is_digit b ≡ true → (b ≡ 40 → ⊥) → begun_at p b ≡ 0
  more_begins h e n = rw (ne_eqb b 40 n, h, e) refl

module _ (p b : ℕ) (r : Reader) (full : Bool) where
  -- the byte begins as many terms as the reader counts, and it is a digit exactly where that stands in a number
  abbrev After : Move → Type 0
  After m =
      Going (moved m r).stand
      → ((moved m r).total ≡ r.total + begun_at p b) × (is_digit b ≡ in_number (moved m r).stand)

  refuses : (s : ℕ) → After (stops s)
  refuses s g = absurd g

  first_begun : is_digit p ≡ false → After (first_move r.depth full b)
  first_begun h =
      first_cases After b refuses r.depth full
      (λ d e l c n g. let i = is_digit_lem b (omega arith) (omega arith) in (omega (arith, digit_begins p b h i), i))
      (λ e l n g. (omega (arith, bracket_begins p b e), no_digit b (omega arith)))

  close_begun : b ≡ 41 → 0 < r.depth → After closes
  close_begun e l g = let i = no_digit b (omega arith) in (omega (arith, none_begins p b (λ x. omega arith) i), i)

  part_begun : b ≡ 32 → After parts
  part_begun e g = let i = no_digit b (omega arith) in (omega (arith, none_begins p b (λ x. omega arith) i), i)

  later_begun : After (later_move r.depth b)
  later_begun = later_cases After b refuses r.depth close_begun part_begun

  begun_byte : (s : Stand) → is_digit p ≡ in_number s → After (judge s r.depth full b)
  begun_byte begun h = either After (eqb b 41) (λ _. later_begun) (λ _. first_begun h)
  begun_byte spaced h = first_begun h
  begun_byte (number a) h =
      more_cases After b refuses a r.depth
      (λ d e l c g. let i = is_digit_lem b (omega arith) (omega arith) in
      (omega (arith, more_begins p b h i (λ x. omega arith)), i))
      close_begun part_begun
  begun_byte closed h = later_begun
  begun_byte (stopped s) h = refuses s

-- ---- bytes

-- those that begin in xs are counted, and behind them stands the byte q
begun_free : (xs ys : List ℕ) (p : ℕ) (r : Reader) → is_digit p ≡ in_number r.stand
    → Going (advances_free r xs).stand
    → (q : ℕ) × (is_digit q ≡ in_number (advances_free r xs).stand)
    × (r.total + begun_behind p (xs ++ ys) ≡ (advances_free r xs).total + begun_behind q ys)
begun_free [] ys p r h g = (p, h, refl)
begun_free (b ∷ xs) ys p r h g =
    let m = freely r b in
    let k = begun_byte p b r false r.stand h (free_before xs (moved m r) g) in
    let a = begun_free xs ys b (moved m r) k.1 g in
    (a.0, a.1, omega (arith, k.0, a.2))

module _ (bs : List ℕ) where
  abbrev at : Reader
  at = advances at_start bs

  -- of a text from its start, with more behind it
  pub begun_so : (ys : List ℕ) → Going at.stand
      → (q : ℕ) × (is_digit q ≡ in_number at.stand) × (terms_begun (bs ++ ys) ≡ at.total + begun_behind q ys)
  unfolding is_digit at_start
  begun_so ys g =
      let e = going_free bs at_start g in
      let a = begun_free bs ys 32 at_start refl (subst (λ (r : Reader). Going r.stand) e g) in (
        a.0,
        a.1 ∙ ap (λ (r : Reader). in_number r.stand) (sym e),
        omega (arith, a.2, ap (λ (r : Reader). r.total) e),
      )

  -- and by itself, freely
  begun_all : Going (advances_free at_start bs).stand → (advances_free at_start bs).total ≡ terms_begun bs
  unfolding is_digit at_start
  begun_all g =
      let a = begun_free bs [] 32 at_start refl g in
      omega (arith, a.2, ap terms_begun (append-nil bs))

-- ---- what may begin a text

pub going_may : (p : List ℕ) → Going (advances at_start p).stand → MayBegin p
unfolding at_start
going_may p g =
    let c = begins_text p g in
    let e = going_free p at_start g in
    let n = begun_all p (subst (λ (r : Reader). Going r.stand) e g) in (
      (c.whole, c.rest, c.readable, c.bytes),
      omega (arith, n, ap (λ (r : Reader). r.total) e, few_terms p at_start (omega arith)),
    )

pub may_going : (p : List ℕ) → MayBegin p → Going (advances at_start p).stand
may_going p m =
    let b = m.0 in
    let c : Completed p = record { whole = b.0; rest = b.1; readable = b.2; bytes = b.3 } in
    completed_going p c (omega (arith, begun_all p (completed_free p c), m.1))

pub terms_begin : TermsBegin
unfolding blank
terms_begin e q =
    let b = read_freely e q in
    let f = free_place (text e) blank in
    sym (begun_all (text e) (subst (λ (r : Reader). Going r.stand) f (whole_going _ b.whole)))
    ∙ (ap (λ (r : Reader). r.total) (sym f) ∙ b.many)
