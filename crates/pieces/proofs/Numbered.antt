-- The struct of a state gives the state back, wherever bytes lead from a struct. In order:
--   Numbered, numbered_back   a stand that a number can say, and its number says it
--   from_numbered             where a struct's reader stands is such
--   feeds_numbered            and bytes lead to no other
--   back                      so the struct of what they lead to gives it back
-- Assumes nothing.
use mathlib.Core.Path.{◌≡◌, refl, ap, subst}
use mathlib.Core.Logic.{inl, inr}
use mathlib.Core.Bool.{Bool, true, false, cond}
use mathlib.Core.List.{List, [], ◌∷◌}
use Prim.Native.Nat.{ℕ}
use lib.Dec.{eqb}
use Rattle.meaning.specs.Judge.{Stand, begun, spaced, number, closed, stopped}
use Rattle.meaning.specs.Judge.{Move, stops, begins, grows, opens, closes, parts, judge}
use Rattle.meaning.specs.Reader.{Reader, reader, is_full, moved}
use Rattle.meaning.specs.Pieces as said
use Rattle.meaning.specs.Pieces.{feed, feeds}
use Rattle.meaning.proofs.reader.Moves.{stops_once}
use Rattle.meaning.proofs.reader.Leftmost.{StopNumber, why, why_number}
use Rattle.pieces.specs.States.{refusal_from, stand_from, number_of, code_of, state_of, struct_of}
use Rattle.pieces.specs.declared.Pieces.{Pieces}

abbrev pub Numbered : Stand → Type 0
Numbered begun = Unit {0}
Numbered spaced = Unit {0}
Numbered (number a) = Unit {0}
Numbered closed = Unit {0}
Numbered (stopped n) = StopNumber n

refusal_back : (n : ℕ) → StopNumber n → stand_from n 0 ≡ stopped n
refusal_back n (inl e) = rw e refl
refusal_back n (inr (inl e)) = rw e refl
refusal_back n (inr (inr (inl e))) = rw e refl
refusal_back n (inr (inr (inr e))) = rw e refl

numbered_back : (s : Stand) → Numbered s → stand_from (number_of s) (code_of s) ≡ s
numbered_back begun h = refl
numbered_back spaced h = refl
numbered_back (number a) h = refl
numbered_back closed h = refl
numbered_back (stopped n) h = refusal_back n h

refusal_from_lem : (n : ℕ) → StopNumber (refusal_from n)
refusal_from_lem n = go (eqb n 13) (eqb n 21) (eqb n 24)
  where
    go : (a b c : Bool) → StopNumber (cond a 13 (cond b 21 (cond c 24 23)))
    go true b c = inl refl
    go false true c = inr (inl refl)
    go false false true = inr (inr (inr refl))
    go false false false = inr (inr (inl refl))

pub from_numbered : (n a : ℕ) → Numbered (stand_from n a)
from_numbered n a = go (eqb n 0) (eqb n 1) (eqb n 2) (eqb n 3)
  where
    go : (t u v w : Bool)
        → Numbered (cond t begun (cond u spaced (cond v (number a) (cond w closed (stopped (refusal_from n))))))
    go true u v w = tt
    go false true v w = tt
    go false false true w = tt
    go false false false true = tt
    go false false false false = refusal_from_lem n

-- ---- bytes

moved_numbered : (m : Move) (r : Reader) → ((t : ℕ) → m ≡ stops t → StopNumber t) → Numbered (moved m r).stand
moved_numbered (stops t) r f = f t refl
moved_numbered (begins a) r f = tt
moved_numbered (grows a) r f = tt
moved_numbered opens r f = tt
moved_numbered closes r f = tt
moved_numbered parts r f = tt

judge_numbered : (s : Stand) (depth : ℕ) (full : Bool) (b t : ℕ) → Numbered s → judge s depth full b ≡ stops t
    → StopNumber t
judge_numbered begun depth full b t h e = why_number begun depth full b t (why begun depth full b t tt e)
judge_numbered spaced depth full b t h e = why_number spaced depth full b t (why spaced depth full b t tt e)
judge_numbered (number a) depth full b t h e = why_number (number a) depth full b t (why (number a) depth full b t tt e)
judge_numbered closed depth full b t h e = why_number closed depth full b t (why closed depth full b t tt e)
judge_numbered (stopped s) depth full b t h e = subst StopNumber (stops_once s t e) h

feeds_numbered : (bs : List ℕ) (p : said.Pieces) → Numbered p.place.stand → Numbered (feeds p bs).place.stand
unfolding feed
feeds_numbered [] p h = h
feeds_numbered (b ∷ bs) p h =
    let r = p.place in
    feeds_numbered bs (feed b p)
    (moved_numbered (judge r.stand r.depth (is_full r) b) r
    (λ t e. judge_numbered r.stand r.depth (is_full r) b t h e))

-- ---- back

state_back : (p : said.Pieces) → Numbered p.place.stand → state_of (struct_of p) ≡ p
state_back p h =
    ap (λ (s : Stand). record {
      place = reader s p.place.offset p.place.depth p.place.total;
      own = p.own;
      most = p.most;
      waiting = p.waiting;
    }) (numbered_back p.place.stand h)

pub back : (s : Pieces) (bs : List ℕ) → state_of (struct_of (feeds (state_of s) bs)) ≡ feeds (state_of s) bs
back s bs =
    state_back (feeds (state_of s) bs) (feeds_numbered bs (state_of s) (from_numbered s.stand s.code))
