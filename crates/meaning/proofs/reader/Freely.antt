-- A text read freely: by the reader that never asks whether the text is full. What goes on does so freely too, to the
-- same place; and what goes on freely does so where no more terms begin than a text may have. In order:
--   advances_append, stays           bytes behind bytes;  a reader that is stopped stays as it is
--   going_before, whole_going        one that is not stopped was not stopped before;  nor is one that has read a text
--   freely, advances_free, reads_free  what a byte does freely;  bytes read freely, without the draft and with it
--   free_place .. free_before        the same of these
--   Goes, Begins                     moves that go on, and those that begin a term
--   goes_free, goes_unless           what goes on does so freely;  what goes on freely does so unless the text is full
--   going_free, within_free          so do bytes, the one way and the other
--   full_terms, terms_full, unfull_terms   the terms of a text that is full, and of one that is not
--   few_terms                        no more terms begin than a text may have
-- Assumes nothing.
use mathlib.Core.Path.{◌≡◌, refl, sym, ap, ◌∙◌, subst}
use mathlib.Core.Logic.{◌⊎◌, inl, inr}
use mathlib.Core.Bool.{Bool, true, false, cond, false≢true}
use mathlib.Core.List.{List, [], ◌∷◌, ◌++◌}
use Prim.Native.Nat.{ℕ, suc, ◌≤◌, ◌<◌}
use native.Mathlib.Omega.{arith}
use lib.Dec.{ltb, eqb}
use borrow.Author.Tests.{leb-true, leb-false, le-leb}
use Rattle.meaning.specs.Limits.{code_test, depth_limit, terms_limit}
use Rattle.meaning.specs.Judge.{Stand, begun, spaced, number, closed, stopped}
use Rattle.meaning.specs.Judge.{Move, stops, begins, grows, opens, closes, parts}
use Rattle.meaning.specs.Judge.{is_digit, with_digit, first_move, later_move, judge}
use Rattle.meaning.specs.Reader.{Reader, reader, moved, is_full, advance, advances, is_whole}
use Rattle.meaning.specs.Reader.{Draft, takes, read, reads}
use Rattle.meaning.proofs.reader.Moves.{judge_cases}
use Rattle.meaning.proofs.reader.Completing.{Going}

pub advances_append : (xs ys : List ℕ) (r : Reader) → advances r (xs ++ ys) ≡ advances (advances r xs) ys
advances_append [] ys r = refl
advances_append (x ∷ xs) ys r = advances_append xs ys (advance x r)

pub stays : (bs : List ℕ) (s n d m : ℕ) → advances (reader (stopped s) n d m) bs ≡ reader (stopped s) n d m
unfolding advance
stays [] s n d m = refl
stays (b ∷ bs) s n d m = stays bs s n d m

-- a byte that does not stop the reader did not find it stopped
going_byte : (full : Bool) (b : ℕ) (r : Reader) (s : Stand) → Going (moved (judge s r.depth full b) r).stand
    → Going s
going_byte full b r begun g = tt
going_byte full b r spaced g = tt
going_byte full b r (number a) g = tt
going_byte full b r closed g = tt
going_byte full b r (stopped s) g = g

pub going_before : (bs : List ℕ) (r : Reader) → Going (advances r bs).stand → Going r.stand
unfolding advance
going_before [] r g = g
going_before (b ∷ bs) r g = going_byte (is_full r) b r r.stand (going_before bs (advance b r) g)

stopped_part : (r : Reader) (s : ℕ) → r.stand ≡ stopped s → is_whole r ≡ false
unfolding is_whole
stopped_part r s e = rw e refl

pub whole_going : (r : Reader) → is_whole r ≡ true → Going r.stand
whole_going r w = go r.stand refl
  where
    go : (s : Stand) → r.stand ≡ s → Going s
    go begun e = tt
    go spaced e = tt
    go (number a) e = tt
    go closed e = tt
    go (stopped s) e = false≢true (sym (stopped_part r s e) ∙ w)

-- ---- freely

abbrev pub freely : Reader → ℕ → Move
freely r b = judge r.stand r.depth false b

abbrev pub advances_free : Reader → List ℕ → Reader
advances_free r [] = r
advances_free r (b ∷ bs) = advances_free (moved (freely r b) r) bs

unfoldable pub read_free : ℕ → Draft → Draft
read_free b r = takes (freely r.place b) r

abbrev pub reads_free : Draft → List ℕ → Draft
reads_free r [] = r
reads_free r (b ∷ bs) = reads_free (read_free b r) bs

pub free_place : (bs : List ℕ) (r : Draft) → (reads_free r bs).place ≡ advances_free r.place bs
unfolding read_free
free_place [] r = refl
free_place (b ∷ bs) r = free_place bs (read_free b r)

pub free_append : (xs ys : List ℕ) (r : Reader) → advances_free r (xs ++ ys) ≡ advances_free (advances_free r xs) ys
free_append [] ys r = refl
free_append (x ∷ xs) ys r = free_append xs ys (moved (freely r x) r)

pub free_before : (bs : List ℕ) (r : Reader) → Going (advances_free r bs).stand → Going r.stand
free_before [] r g = g
free_before (b ∷ bs) r g = going_byte false b r r.stand (free_before bs (moved (freely r b) r) g)

-- ---- moves

abbrev Goes : Move → Type 0
Goes (stops s) = ⊥
Goes (begins a) = Unit {0}
Goes (grows a) = Unit {0}
Goes opens = Unit {0}
Goes closes = Unit {0}
Goes parts = Unit {0}

-- it begins a term
abbrev Begins : Move → Type 0
Begins (stops s) = ⊥
Begins (begins a) = Unit {0}
Begins (grows a) = ⊥
Begins opens = Unit {0}
Begins closes = ⊥
Begins parts = ⊥

moved_goes : (m : Move) (r : Reader) → Going (moved m r).stand → Goes m
moved_goes (stops s) r g = g
moved_goes (begins a) r g = tt
moved_goes (grows a) r g = tt
moved_goes opens r g = tt
moved_goes closes r g = tt
moved_goes parts r g = tt

begun_more : (m : Move) (r : Reader) → Begins m → (moved m r).total ≡ suc r.total
begun_more (stops s) r h = absurd h
begun_more (begins a) r h = refl
begun_more (grows a) r h = absurd h
begun_more opens r h = refl
begun_more closes r h = absurd h
begun_more parts r h = absurd h

more_terms : (m : Move) (r : Reader) → r.total ≤ (moved m r).total
more_terms (stops s) r = omega arith
more_terms (begins a) r = omega arith
more_terms (grows a) r = omega arith
more_terms opens r = omega arith
more_terms closes r = omega arith
more_terms parts r = omega arith

terms_free : (bs : List ℕ) (r : Reader) → r.total ≤ (advances_free r bs).total
terms_free [] r = omega arith
terms_free (b ∷ bs) r =
    omega (arith, more_terms (freely r b) r, terms_free bs (moved (freely r b) r))

-- ---- what is asked of a full text

-- what a byte does where the text is full, and freely: the same; or it is refused with 24, and freely it begins a term
-- or is a digit that is no code
abbrev Asked : Move → Move → Type 0
Asked m free = (m ≡ free) ⊎ ((m ≡ stops 24) × (Begins free ⊎ (free ≡ stops 13)))

first_asked : (depth b : ℕ) → Asked (first_move depth true b) (first_move depth false b)
unfolding first_move
first_asked depth b =
    go (is_digit b) (code_test (with_digit 0 b)) (eqb b 40) (ltb depth depth_limit)
  where
    go : (digit code bracket shallow : Bool)
        → Asked (cond digit (stops 24) (cond bracket (cond shallow (stops 24) (stops 21)) (stops 23)))
        (cond digit (cond code (begins (with_digit 0 b)) (stops 13))
        (cond bracket (cond shallow opens (stops 21)) (stops 23)))
    go true true bracket shallow = inr (refl, inl tt)
    go true false bracket shallow = inr (refl, inr refl)
    go false code true true = inr (refl, inl tt)
    go false code true false = inl refl
    go false code false shallow = inl refl

full_asked : (s : Stand) (depth b : ℕ) → Asked (judge s depth true b) (judge s depth false b)
full_asked begun depth b = go (eqb b 41)
  where
    go : (t : Bool)
        → Asked (cond t (later_move depth b) (first_move depth true b))
        (cond t (later_move depth b) (first_move depth false b))
    go true = inl refl
    go false = first_asked depth b
full_asked spaced depth b = first_asked depth b
full_asked (number a) depth b = inl refl
full_asked closed depth b = inl refl
full_asked (stopped s) depth b = inl refl

-- what goes on goes on freely, and so
goes_free : (s : Stand) (depth : ℕ) (full : Bool) (b : ℕ) → Goes (judge s depth full b)
    → judge s depth full b ≡ judge s depth false b
goes_free s depth false b g = refl
goes_free s depth true b g = go (full_asked s depth b)
  where
    go : Asked (judge s depth true b) (judge s depth false b) → judge s depth true b ≡ judge s depth false b
    go (inl e) = e
    go (inr (e, h)) = absurd (subst Goes e g)

-- what goes on freely goes on, or begins a term where the text is full
goes_unless : (s : Stand) (depth : ℕ) (full : Bool) (b : ℕ) → Goes (judge s depth false b)
    → (judge s depth full b ≡ judge s depth false b) ⊎ ((full ≡ true) × Begins (judge s depth false b))
goes_unless s depth false b g = inl refl
goes_unless s depth true b g = go (full_asked s depth b)
  where
    go : Asked (judge s depth true b) (judge s depth false b)
        → (judge s depth true b ≡ judge s depth false b) ⊎ ((true ≡ true) × Begins (judge s depth false b))
    go (inl e) = inl e
    go (inr (e, inl h)) = inr (refl, h)
    go (inr (e, inr h)) = absurd (subst Goes h g)

-- ---- bytes

pub going_free : (bs : List ℕ) (r : Reader) → Going (advances r bs).stand → advances r bs ≡ advances_free r bs
unfolding advance
going_free [] r g = refl
going_free (b ∷ bs) r g =
    let h = moved_goes (judge r.stand r.depth (is_full r) b) r (going_before bs (advance b r) g) in
    let e = goes_free r.stand r.depth (is_full r) b h in
    going_free bs (advance b r) g ∙ ap (λ (m : Move). advances_free (moved m r) bs) e

pub full_terms : (r : Reader) → is_full r ≡ true → terms_limit ≤ r.total
unfolding is_full
full_terms r e = leb-true terms_limit r.total e

pub terms_full : (r : Reader) → terms_limit ≤ r.total → is_full r ≡ true
unfolding is_full
terms_full r l = le-leb terms_limit r.total l

pub unfull_terms : (r : Reader) → is_full r ≡ false → r.total < terms_limit
unfolding is_full
unfull_terms r e = leb-false terms_limit r.total e

pub within_free : (bs : List ℕ) (r : Draft) → Going (reads_free r bs).place.stand
    → (reads_free r bs).place.total ≤ terms_limit → reads r bs ≡ reads_free r bs
unfolding read read_free
within_free [] r g l = refl
within_free (b ∷ bs) r g l =
    ap (λ (x : Draft). reads x bs)
    (ap (λ (m : Move). takes m r) (go (goes_unless p.stand p.depth (is_full p) b (moved_goes (freely p b) p h))))
    ∙ within_free bs (read_free b r) g l
  where
    p : Reader
    p = r.place

    f : (reads_free (read_free b r) bs).place ≡ advances_free (moved (freely p b) p) bs
    f = free_place bs (read_free b r)

    h : Going (moved (freely p b) p).stand
    h = free_before bs (moved (freely p b) p) (subst (λ (x : Reader). Going x.stand) f g)

    go : (judge p.stand p.depth (is_full p) b ≡ freely p b) ⊎ ((is_full p ≡ true) × Begins (freely p b))
        → judge p.stand p.depth (is_full p) b ≡ freely p b
    go (inl e) = e
    go (inr (e, n)) =
        absurd (omega (
          arith,
          full_terms p e,
          begun_more (freely p b) p n,
          terms_free bs (moved (freely p b) p),
          ap (λ (x : Reader). x.total) f,
          l,
        ))

-- ---- how many terms begin

few_byte : (b : ℕ) (r : Reader) → r.total ≤ terms_limit → (advance b r).total ≤ terms_limit
unfolding advance
few_byte b r l =
    judge_cases (λ (m : Move). (moved m r).total ≤ terms_limit) b r.depth (is_full r) (λ s. l)
    (λ d e i c n. unfull_terms r n) (λ e i n. unfull_terms r n) (λ a d e i c. l) (λ e i. l) (λ e. l) r.stand

pub few_terms : (bs : List ℕ) (r : Reader) → r.total ≤ terms_limit → (advances r bs).total ≤ terms_limit
few_terms [] r l = l
few_terms (b ∷ bs) r l = few_terms bs (advance b r) (few_byte b r l)
