-- A piece is fed as its parts are, one after the other. In order:
--   feeds_append, feeds_stopped   bytes behind bytes;  a state that is stopped stays as it is
--   feeds-before, feeds_fits      one that is not stopped was not before;  a state that goes on does so until then
--   fed_stopped                   no piece changes a state that is stopped
--   fed_append                    whatever the state
--   start_fits .. start_place     from the start: it goes on, so bytes are fed, and where they lead
-- Assumes nothing.
use mathlib.Core.Path.{◌≡◌, refl, sym, ap, ◌∙◌, subst}
use mathlib.Core.Logic.{◌⊎◌, inl, inr}
use mathlib.Core.Bool.{Bool, true, false}
use mathlib.Core.List.{List, [], ◌∷◌, ◌++◌}
use Prim.Native.Nat.{ℕ}
use native.Mathlib.Omega.{arith}
use native.Mathlib.Nat.{not-suc-le-zero}
use Rattle.meaning.specs.Judge.{Stand, begun, spaced, number, closed, stopped}
use Rattle.meaning.specs.Reader.{Reader, advance, advances, at_start}
use Rattle.meaning.specs.Pieces.{Pieces, feed, feeds, fits, fed, no_pieces}
use Rattle.meaning.proofs.reader.Completing.{Going}
use Rattle.meaning.proofs.reader.Freely.{going_before}
use Rattle.meaning.proofs.pieces.Fitting.{Fits, fits_yes, yes_fits, feed_fits}

pub feeds_append : (xs ys : List ℕ) (p : Pieces) → feeds p (xs ++ ys) ≡ feeds (feeds p xs) ys
feeds_append [] ys p = refl
feeds_append (x ∷ xs) ys p = feeds_append xs ys (feed x p)

-- the place goes its own way
pub feeds_place : (bs : List ℕ) (p : Pieces) → (feeds p bs).place ≡ advances p.place bs
unfolding feed advance
feeds_place [] p = refl
feeds_place (b ∷ bs) p = feeds_place bs (feed b p)

-- a state that is stopped
pub going_or : (s : Stand) → Going s ⊎ ((n : ℕ) × (s ≡ stopped n))
going_or begun = inl tt
going_or spaced = inl tt
going_or (number a) = inl tt
going_or closed = inl tt
going_or (stopped n) = inr (n, refl)

feed_stopped : (b n : ℕ) (p : Pieces) → p.place.stand ≡ stopped n → feed b p ≡ p
unfolding feed
feed_stopped b n p e = rw e refl

pub feeds_stopped : (bs : List ℕ) (n : ℕ) (p : Pieces) → p.place.stand ≡ stopped n → feeds p bs ≡ p
feeds_stopped [] n p e = refl
feeds_stopped (b ∷ bs) n p e =
    ap (λ (x : Pieces). feeds x bs) (feed_stopped b n p e) ∙ feeds_stopped bs n p e

pub feeds_fits : (bs : List ℕ) (p : Pieces) → Fits p → Going (feeds p bs).place.stand → Fits (feeds p bs)
feeds_fits [] p k g = k
feeds_fits (b ∷ bs) p k g =
    let h : Going (advances (feed b p).place bs).stand =
    subst (λ (r : Reader). Going r.stand) (feeds_place bs (feed b p)) g in
    feeds_fits bs (feed b p) (feed_fits p k b (going_before bs (feed b p).place h)) g

stopped_unfit : (n : ℕ) (p : Pieces) → p.place.stand ≡ stopped n → fits p ≡ false
unfolding fits
stopped_unfit n p e = rw e refl

pub fed_stopped : (bs : List ℕ) (n : ℕ) (p : Pieces) → p.place.stand ≡ stopped n → fed p bs ≡ p
unfolding fed
fed_stopped bs n p e = rw (stopped_unfit n p e) refl

pub fed_fits : (p : Pieces) (bs : List ℕ) → fits p ≡ true → fed p bs ≡ feeds p bs
unfolding fed
fed_fits p bs e = rw e refl

pub fed_unfit : (p : Pieces) (bs : List ℕ) → fits p ≡ false → fed p bs ≡ p
unfolding fed
fed_unfit p bs e = rw e refl

pub fed_append : (p : Pieces) (xs ys : List ℕ) → fed p (xs ++ ys) ≡ fed (fed p xs) ys
fed_append p xs ys = go (fits p) refl
  where
    on : fits p ≡ true → Going (feeds p xs).place.stand ⊎ ((n : ℕ) × ((feeds p xs).place.stand ≡ stopped n))
        → fed (feeds p xs) ys ≡ feeds (feeds p xs) ys
    on e (inl g) = fed_fits (feeds p xs) ys (yes_fits (feeds p xs) (feeds_fits xs p (fits_yes p e) g))
    on e (inr (n, h)) = fed_stopped ys n (feeds p xs) h ∙ sym (feeds_stopped ys n (feeds p xs) h)

    go : (t : Bool) → fits p ≡ t → fed p (xs ++ ys) ≡ fed (fed p xs) ys
    go true e =
        fed_fits p (xs ++ ys) e
        ∙ (feeds_append xs ys p
        ∙ (sym (on e (going_or (feeds p xs).place.stand)) ∙ ap (λ (x : Pieces). fed x ys) (sym (fed_fits p xs e))))
    go false e =
        fed_unfit p (xs ++ ys) e
        ∙ (sym (fed_unfit p ys e) ∙ ap (λ (x : Pieces). fed x ys) (sym (fed_unfit p xs e)))

-- ---- from the start

pub start_fits : Fits no_pieces
unfolding no_pieces at_start
start_fits = record {
  stand = refl;
  deep = omega arith;
  many = omega arith;
  ours = omega arith;
  most = omega arith;
  far = omega arith;
  each = λ i h. absurd (not-suc-le-zero h);
}

pub start_fed : (bs : List ℕ) → fed no_pieces bs ≡ feeds no_pieces bs
start_fed bs = fed_fits no_pieces bs (yes_fits no_pieces start_fits)

pub start_place : (bs : List ℕ) → (fed no_pieces bs).place ≡ advances at_start bs
unfolding no_pieces
start_place bs = ap (λ (p : Pieces). p.place) (start_fed bs) ∙ feeds_place bs no_pieces
