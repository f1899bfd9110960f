-- What stays in range as a piece is fed, a byte a turn. In order:
--   can_read, can_count   a byte may be read and counted, in a state that goes on
--   counted_as, judged_as   a state by its parts;  a byte that is judged is fed
--   Fed, begin, onward    the first i bytes are fed, and what is left of the definition equals the whole
--   halted, finish        a byte is refused;  after the last byte
--   starts, read_as       a whole text, from the start
-- Assumes nothing.
use mathlib.Core.Path.{◌≡◌, refl, sym, ap, ◌∙◌, subst}
use mathlib.Core.List.{List}
use Prim.Native.Nat.{ℕ, ◌+◌, ◌≤◌, ◌<◌}
use native.Mathlib.Omega.{arith}
use native.Mathlib.Numerals.{add-one}
use lib.ListN.{length, get_or, drop, replicate, drop_of_length-le}
use lib.Seq.{drop-cons}
use Rattle.std.specs.Prelude.{Ok, Err}
use Rattle.meaning.specs.Limits.{depth_limit, terms_limit}
use Rattle.meaning.specs.Judge.{Move, stops, judge}
use Rattle.meaning.specs.Reader.{Reader, moved, is_full, advances, at_start, is_whole, stop_verdict}
use Rattle.meaning.specs.Pieces.{Pieces, own_next, most_next, waiting_next, next, feed, feeds, fits, no_pieces}
use Rattle.meaning.proofs.reader.Moves.{judge_cases}
use Rattle.meaning.proofs.reader.Completing.{Going}
use Rattle.meaning.proofs.pieces.Fitting.{fits_yes, yes_fits, feed_fits}
use Rattle.meaning.proofs.pieces.Cutting.{feeds_stopped, start_fits, feeds_place}
use Rattle.reader.specs.Readers.{fault_of, stand_of, move_of, reader_of, CanRead, Judged, Finds}
use Rattle.reader.specs.declared.judging.Fault.{Fault}
use Rattle.reader.specs.declared.judging.Move as code
use Rattle.reader.specs.declared.judging.Stand as stand-code
use Rattle.reader.specs.declared.judging.Stand.TheVariants as stand
use Rattle.pieces.specs.Feeding.{state_is, stopped_is, Begins, Placed, CanCount, CanFeed}
use Rattle.pieces.specs.declared.feeding.State.{State}
use Rattle.pieces.specs.declared.feeding.Stopped.{Stopped}

module _ (s : State) (w : List ℕ) (k : CanFeed s w) where
  abbrev at : Reader
  at = reader_of s.place

  pub can_read : CanRead s.place
  unfolding depth_limit terms_limit
  can_read =
      let f = fits_yes (state_is s w) k in
      record {
        before = omega (arith, f.far, f.many);
        deep = omega (arith, f.deep);
        many = omega (arith, f.many);
      }

  pub can_count : (m : Move) (b : ℕ) → m ≡ judge at.stand at.depth (is_full at) b → CanCount m s
  unfolding terms_limit
  can_count m b e =
      let f = fits_yes (state_is s w) k in
      record {
        few = omega (arith, f.ours, f.many);
        placed =
            subst (λ (x : Move). Placed x at.depth) (sym e)
            (judge_cases (λ (x : Move). Placed x at.depth) b at.depth (is_full at) (λ t. tt) (λ d c l i n. tt)
            (λ c l n. l) (λ a d c l i. tt) (λ c l. (l, f.deep)) (λ c. tt) at.stand);
      }

-- a state by its parts
pub counted_as : (m : Move) (p : Pieces) {q : Reader} {o n : ℕ} {w : List ℕ} → q ≡ moved m p.place
    → o ≡ own_next m p → n ≡ most_next m p → w ≡ waiting_next m p
    → record { place = q; own = o; most = n; waiting = w } ≡ next m p
counted_as m p a b c d = λ j. record { place = a j; own = b j; most = c j; waiting = d j }

pub judged_as : (m : Move) (p : Pieces) (b : ℕ) → m ≡ judge p.place.stand p.place.depth (is_full p.place) b
    → next m p ≡ feed b p
unfolding feed
judged_as m p b e = ap (λ (x : Move). next x p) e

-- ---- a byte a turn

going : (s : stand-code.Stand) → Going (stand_of s)
going stand.Begun = tt
going stand.Spaced = tt
going (stand.Number a) = tt
going stand.Closed = tt

-- the first i bytes are fed, to the state t with the counts w
pub record Fed (bs : List ℕ) (p : Pieces) (t : State) (w : List ℕ) (i : ℕ) : Type 0 where
  pub left : feeds (state_is t w) (drop i bs) ≡ feeds p bs
  pub can : CanFeed t w

pub begin : (bs : List ℕ) (s : State) (w : List ℕ) → CanFeed s w → Fed bs (state_is s w) s w 0
begin bs s w k = record { left = refl; can = k }

module _ (bs : List ℕ) (p : Pieces) (t : State) (w : List ℕ) (i : ℕ) (k : Fed bs p t w i) where
  -- what is left behind the next byte
  behind : {q : Pieces} → i < length bs → q ≡ feed (get_or bs i 0) (state_is t w)
      → feeds q (drop (i + 1) bs) ≡ feeds p bs
  behind h e = rw (e, add-one i) (sym (ap (feeds (state_is t w)) (drop-cons bs i 0 h)) ∙ k.left)

  -- a byte that is not refused
  pub onward : (m : code.Move) (t' : State) (w' : List ℕ) → i < length bs
      → Judged t.place (get_or bs i 0) (Ok m) → state_is t' w' ≡ next (move_of m) (state_is t w)
      → Fed bs p t' w' (i + 1)
  onward m t' w' h j f =
      let e = f ∙ judged_as (move_of m) (state_is t w) (get_or bs i 0) j.0 in
      record {
        left = behind h e;
        can =
            ap fits e
            ∙ yes_fits (feed (get_or bs i 0) (state_is t w))
            (feed_fits (state_is t w) (fits_yes (state_is t w) k.can) (get_or bs i 0)
            (subst (λ (x : Pieces). Going x.place.stand) e (going t'.place.stand)));
      }

  -- one that is: the state stays so
  pub halted : (f : Fault) → i < length bs → Judged t.place (get_or bs i 0) (Err f) → stopped_is f t w ≡ feeds p bs
  halted f h j =
      sym (feeds_stopped (drop (i + 1) bs) (fault_of f) (stopped_is f t w) refl)
      ∙ behind h (judged_as (stops (fault_of f)) (state_is t w) (get_or bs i 0) j.0)

  pub finish : length bs ≤ i → state_is t w ≡ feeds p bs
  finish h = sym (ap (feeds (state_is t w)) (drop_of_length-le bs h)) ∙ k.left

-- ---- a whole text

pub starts : (s : State) → Begins s → CanFeed s (replicate depth_limit 0)
starts s e = ap fits e ∙ yes_fits no_pieces start_fits

-- where the reader stands behind it
pub read_as : (s : State) (bs : List ℕ) (p : Pieces) → Begins s → p ≡ feeds (state_is s (replicate depth_limit 0)) bs
    → p.place ≡ advances at_start bs
unfolding no_pieces
read_as s bs p e f =
    ap (λ (q : Pieces). q.place) (f ∙ ap (λ (q : Pieces). feeds q bs) e) ∙ feeds_place bs no_pieces

pub refused_as : (e : Stopped) (w : List ℕ)
    → Finds (stopped_is e.fault e.state w).place (Err (record { fault = e.fault; offset = e.state.place.offset }))
unfolding is_whole stop_verdict
refused_as e w = (refl, refl)
