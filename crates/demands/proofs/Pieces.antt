-- Uses of `pieces::start`, `pieces::feed` and `pieces::end`. In order:
--   state_fed, feeds_append      a struct that is fed, as the state that it says
--   all_fed, all_plain           a struct goes from piece to piece as the state does, with no number beside it
--   pieces_count, pieces_alike   from the start
--   refused_for_good             after a refusal
--   end_meets                    the end of any struct
--   pieces_then_type             a text counted, and typed in
-- Assumes nothing.
use mathlib.Core.Path.{◌≡◌, refl, sym, ap, ◌∙◌, subst}
use mathlib.Core.Logic.{inl, inr}
use mathlib.Core.Bool.{Bool, true, false, cond, ◌&&◌}
use mathlib.Core.List.{List, [], ◌∷◌, ◌++◌}
use Prim.Native.Nat.{ℕ}
use native.Mathlib.Omega.{arith}
use Rattle.meaning.specs.Limits.{first_heap_cell}
use Rattle.meaning.specs.Verdicts.{Done}
use Rattle.meaning.specs.Judge.{Stand, begun, spaced, number, closed, stopped}
use Rattle.meaning.specs.Reader.{at_start, is_whole, stop_status, stop_verdict}
use Rattle.meaning.specs.Pieces as said
use Rattle.meaning.specs.Pieces.{Count, counts, uncounted, count_text, feeds, fits, fed, fed_all, no_pieces, counted}
use Rattle.meaning.proofs.Counting.{both_true}
use Rattle.meaning.proofs.reader.Leftmost.{StopNumber}
use Rattle.meaning.proofs.pieces.Fitting.{fits_yes}
use Rattle.meaning.proofs.pieces.Cutting.{fed_fits, fed_unfit}
use Rattle.meaning.proofs.pieces.Agreeing.{whole_counted}
use Rattle.typing.specs.Answers.{typed_in}
use Rattle.pieces.specs.States.{state_of, struct_of, count_is, Starts, Feeds, Ends}
use Rattle.pieces.specs.declared.Counted.{Counted}
use Rattle.pieces.specs.declared.Pieces.{Pieces}
use Rattle.pieces.proofs.Final.{one_end}
use Rattle.pieces.proofs.Numbered.{Numbered, from_numbered, back}
use Rattle.promises.specs.Table.{OneOf}
use Rattle.promises.specs.Pieces.{joined, CountTable, Told}
use Rattle.promises.proofs.typing.Typing.{stop_away}
use Rattle.promises.proofs.pieces.Whole.{stop_listed}
use Rattle.promises.proofs.pieces.Cutting.{start_joined}
use Rattle.promises.proofs.Final.{count_answers, fed_append, refused_stays, count_tells}
use Rattle.demands.specs.Pieces.{FedBy, none, more, PiecesCount, PiecesAlike, RefusedForGood, EndTable, EndMeets}
use Rattle.demands.specs.Pieces.{FeedsAppend, PiecesThenType}

-- ---- any struct

module _ (s r : Pieces) (bs : List ℕ) (h : Feeds s bs r) where
  -- by whether it goes on
  fed_on : fits (state_of s) ≡ true → r ≡ struct_of (feeds (state_of s) bs)
  fed_on e = h ∙ rw e refl

  fed_off : fits (state_of s) ≡ false → r ≡ s
  fed_off e = h ∙ rw e refl

  state_fed : state_of r ≡ fed (state_of s) bs
  state_fed = go (fits (state_of s)) refl
    where
      go : (t : Bool) → fits (state_of s) ≡ t → state_of r ≡ fed (state_of s) bs
      go true e = ap state_of (fed_on e) ∙ (back s bs ∙ sym (fed_fits (state_of s) bs e))
      go false e = ap state_of (fed_off e) ∙ sym (fed_unfit (state_of s) bs e)

-- the struct is that of its state, and has no number beside it
abbrev Plain : Pieces → Type 0
Plain s = s ≡ struct_of (state_of s)

on_plain : (s r : Pieces) (bs : List ℕ) → Feeds s bs r → fits (state_of s) ≡ true → Plain r
on_plain s r bs h e =
    let f = fed_on s r bs h e in f ∙ ap struct_of (sym (back s bs) ∙ sym (ap state_of f))

fed_plain : (s r : Pieces) (bs : List ℕ) → Feeds s bs r → Plain s → r ≡ struct_of (fed (state_of s) bs)
fed_plain s r bs h p = go (fits (state_of s)) refl
  where
    go : (t : Bool) → fits (state_of s) ≡ t → r ≡ struct_of (fed (state_of s) bs)
    go true e = fed_on s r bs h e ∙ ap struct_of (sym (fed_fits (state_of s) bs e))
    go false e = fed_off s r bs h e ∙ (p ∙ ap struct_of (sym (fed_unfit (state_of s) bs e)))

pub feeds_append : FeedsAppend
feeds_append s r t xs ys h k = go (fits (state_of s)) refl
  where
    go : (u : Bool) → fits (state_of s) ≡ u → Feeds s (xs ++ ys) t
    go true e =
        let p = on_plain s r xs h e in
        fed_plain r t ys k p
        ∙ (ap (λ (q : said.Pieces). struct_of (fed q ys)) (state_fed s r xs h)
        ∙ (ap struct_of (sym (fed_append (state_of s) xs ys) ∙ fed_fits (state_of s) (xs ++ ys) e) ∙ sym (taken e)))
      where
        taken : fits (state_of s) ≡ true
            → cond (fits (state_of s)) (struct_of (feeds (state_of s) (xs ++ ys))) s
            ≡ struct_of (feeds (state_of s) (xs ++ ys))
        taken e = rw e refl
    go false e =
        let f = fed_off s r xs h e in
        fed_off r t ys k (ap (λ (q : Pieces). fits (state_of q)) f ∙ e) ∙ (f ∙ sym (left e))
      where
        left : fits (state_of s) ≡ false → cond (fits (state_of s)) (struct_of (feeds (state_of s) (xs ++ ys))) s ≡ s
        left e = rw e refl

-- ---- from the start

start_state : (s : Pieces) → Starts s → state_of s ≡ no_pieces
unfolding no_pieces at_start
start_state s h = ap state_of h

start_plain : (s : Pieces) → Starts s → Plain s
start_plain s h = h ∙ ap struct_of (sym (start_state s h))

all_fed : (s r : Pieces) (ps : List (List ℕ)) → FedBy s ps r → state_of r ≡ fed_all (state_of s) ps
all_fed s r ps (none _) = refl
all_fed s r ps (more _ q _ x xs h k) = all_fed q r xs k ∙ ap (λ (p : said.Pieces). fed_all p xs) (state_fed s q x h)

all_plain : (s r : Pieces) (ps : List (List ℕ)) → FedBy s ps r → Plain s → Plain r
all_plain s r ps (none _) p = p
all_plain s r ps (more _ q _ x xs h k) p =
    all_plain q r xs k (fed_plain s q x h p ∙ ap struct_of (sym (state_fed s q x h)))

module _ (s r : Pieces) (ps : List (List ℕ)) (h : Starts s) (k : FedBy s ps r) where
  state_joined : state_of r ≡ fed no_pieces (joined ps)
  state_joined =
      all_fed s r ps k ∙ (ap (λ (p : said.Pieces). fed_all p ps) (start_state s h) ∙ start_joined ps)

  struct_joined : r ≡ struct_of (fed no_pieces (joined ps))
  struct_joined = all_plain s r ps k (start_plain s h) ∙ ap struct_of state_joined

  count_joined : (c : Counted) → Ends r c → count_is c ≡ count_text (joined ps)
  count_joined c e = e ∙ (ap counted state_joined ∙ whole_counted (joined ps))

pub pieces_count : PiecesCount
pieces_count s r ps c h k e =
    subst (λ (x : Count). CountTable (joined ps) x) (sym (count_joined s r ps h k c e)) (count_answers (joined ps))

pub pieces_alike : PiecesAlike
pieces_alike s r ps c h k e s' r' qs c' h' k' e' j =
    let f : r ≡ r' =
    struct_joined s r ps h k
    ∙ (ap (λ (x : List ℕ). struct_of (fed no_pieces x)) j ∙ sym (struct_joined s' r' qs h' k')) in
    (f, one_end r' c c' (subst (λ (x : Pieces). Ends x c) f e) e')

pub refused_for_good : RefusedForGood
refused_for_good s r t ps x h k n f =
    let e = state_joined s r ps h k in
    let p = all_plain s r ps k (start_plain s h) in
    fed_plain r t x f p
    ∙ (ap struct_of (ap (λ (q : said.Pieces). fed q x) e ∙ (refused_stays (joined ps) x n ∙ sym e)) ∙ sym p)

-- ---- the end of any struct

stop_number : (s : Stand) → Numbered s → StopNumber (stop_status s)
stop_number begun h = inr (inr (inl refl))
stop_number spaced h = inr (inr (inl refl))
stop_number (number a) h = inr (inr (inl refl))
stop_number closed h = inr (inr (inl refl))
stop_number (stopped n) h = h

module _ (s : Pieces) (c : Counted) where
  abbrev p : said.Pieces
  p = state_of s

  -- what its fields are, by what it is as a count
  end_done : fits p ≡ true → count_is c ≡ counts s.terms s.most → EndTable s c
  end_done f e =
      let k = fits_yes p f in
      let z : c.status ≡ 0 = ap (λ (x : Count). x.verdict.status) e in
      let t : c.terms ≡ s.terms = ap (λ (x : Count). x.need) e in
      let m : c.most ≡ s.most = ap (λ (x : Count). x.most) e in
      record {
        number = inl z;
        done = λ _. (ap (λ (x : Count). x.verdict.value) e, t, m);
        within = (omega (arith, t, m, k.most), omega (arith, t, k.many));
        refused = λ n. absurd (n z);
      }

  end_refused : count_is c ≡ uncounted (stop_verdict p.place) → EndTable s c
  unfolding stop_verdict
  end_refused e =
      let q = stop_number p.place.stand (from_numbered s.stand s.code) in
      let z : c.status ≡ stop_status p.place.stand = ap (λ (x : Count). x.verdict.status) e in
      let t : c.terms ≡ 0 = ap (λ (x : Count). x.need) e in
      let m : c.most ≡ 0 = ap (λ (x : Count). x.most) e in
      record {
        number = subst (λ (n : ℕ). OneOf n (0 ∷ 13 ∷ 21 ∷ 23 ∷ 24 ∷ [])) (sym z) (stop_listed _ q);
        done = λ y. absurd ((stop_away _ q).0 (sym z ∙ y));
        within = (omega (arith, t, m), omega (arith, t));
        refused = λ _. (ap (λ (x : Count). x.verdict.value) e, t, m);
      }

pub end_meets : EndMeets
unfolding counted
end_meets s c h = go (fits (state_of s) && is_whole (state_of s).place) refl
  where
    go : (t : Bool) → (fits (state_of s) && is_whole (state_of s).place) ≡ t → EndTable s c
    go true e = end_done s c (both_true _ _ e).0 (h ∙ rw e refl)
    go false e = end_refused s c (h ∙ rw e refl)

-- ---- counted, and typed in

pub pieces_then_type : PiecesThenType
pieces_then_type s r ps c h k e ws top d q l a v y =
    let t = count_tells first_heap_cell ws top q d l (joined ps) in
    subst (λ (x : Count). Told first_heap_cell ws top d x (typed_in a top v).verdict)
    (sym (count_joined s r ps h k c e))
    (subst (λ (x : Done). Told first_heap_cell ws top d (count_text (joined ps)) x.verdict) (sym y) t)
