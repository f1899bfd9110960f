-- Where bytes stop the reader: at the first that it refuses, and there it stays. In order:
--   StopsAt                           byte k is the first to be refused, and with which status
--   GoesOn, way                       bytes are read to their end, or stop the reader at one of them
--   completed_free, completed_going   what begins a text does not stop the reader: freely, and unless it is full
--   Why, why, StopNumber              what is refused with each status, and the four that there are
--   zero_stops, deep_stops, many_stops, large_stops   and that it is
-- Assumes nothing.
use mathlib.Core.Path.{◌≡◌, refl, sym, ap, ◌∙◌, subst}
use mathlib.Core.Logic.{◌⊎◌, inl, inr}
use mathlib.Core.Bool.{Bool, true, false, false≢true}
use mathlib.Core.List.{List, [], ◌∷◌, ◌++◌}
use Prim.Native.Nat.{ℕ, suc, ◌+◌, ◌≤◌, ◌<◌}
use native.Mathlib.Omega.{arith}
use lib.Dec.{ltb, eqb}
use lib.ListN.{length, get_or, take}
use borrow.Author.Tests.{ltb-true, ltb-false, lt-ltb, le-ltb, eqb-true, eqb-false, ne_eqb}
use Rattle.meaning.specs.Limits.{code_test, depth_limit, terms_limit}
use Rattle.meaning.specs.Text.{text}
use Rattle.meaning.specs.Judge.{Stand, begun, spaced, number, closed, stopped}
use Rattle.meaning.specs.Judge.{Move, stops, begins, grows, opens, closes, parts}
use Rattle.meaning.specs.Judge.{is_digit, with_digit, first_move, later_move, more_move, judge}
use Rattle.meaning.specs.Reader.{Reader, reader, moved, is_full, advance, advances, at_start, Draft, blank}
use Rattle.meaning.proofs.sound.Cells.{range_code, zero_no_code}
use Rattle.meaning.proofs.reader.Moves.{either, digit_range, first_digit, more_digit}
use Rattle.meaning.proofs.reader.Forth.{reads_place}
use Rattle.meaning.proofs.reader.Completing.{Completed, Going}
use Rattle.meaning.proofs.reader.Freely.{stays, whole_going, advances_free, reads_free, free_place, free_append}
use Rattle.meaning.proofs.reader.Freely.{free_before, within_free}
use Rattle.meaning.proofs.reader.Codes.{Ready}
use Rattle.meaning.proofs.reader.Back.{read_freely}

-- ---- where

pub record StopsAt (bs : List ℕ) (r : Reader) (k s : ℕ) : Type 0 where
  pub inside : k < length bs
  pub going : Going (advances r (take k bs)).stand
  pub refused : (let q = advances r (take k bs) in judge q.stand q.depth (is_full q) (get_or bs k 0) ≡ stops s)
  -- whatever comes behind it
  pub stand : (rest : List ℕ) → (advances r (take (suc k) bs ++ rest)).stand ≡ stopped s
  pub offset : (rest : List ℕ) → (advances r (take (suc k) bs ++ rest)).offset ≡ r.offset + k

pub record GoesOn (bs : List ℕ) (r : Reader) : Type 0 where
  pub going : Going (advances r bs).stand
  pub offset : (advances r bs).offset ≡ r.offset + length bs

abbrev Way : List ℕ → Reader → Type 0
Way bs r = GoesOn bs r ⊎ ((k : ℕ) × (s : ℕ) × StopsAt bs r k s)

module _ (b : ℕ) (bs : List ℕ) (r : Reader) (g : Going r.stand) where
  stops_here : (s : ℕ) → judge r.stand r.depth (is_full r) b ≡ stops s → StopsAt (b ∷ bs) r 0 s
  unfolding advance
  stops_here s e = record {
    inside = omega arith;
    going = g;
    refused = e;
    stand = λ rest. ap (λ (x : Reader). x.stand) (all rest);
    offset = λ rest. ap (λ (x : Reader). x.offset) (all rest) ∙ omega arith;
  }
    where
      all : (rest : List ℕ) → advances r (b ∷ rest) ≡ reader (stopped s) r.offset r.depth r.total
      all rest = rw e (stays rest s r.offset r.depth r.total)

  later : (advance b r).offset ≡ suc r.offset → Way bs (advance b r) → Way (b ∷ bs) r
  later e (inl w) = inl (record { going = w.going; offset = w.offset ∙ omega (arith, e) })
  later e (inr (k, s, w)) =
      inr (
        suc k,
        s,
        record {
          inside = omega (arith, w.inside);
          going = w.going;
          refused = w.refused;
          stand = w.stand;
          offset = λ rest. w.offset rest ∙ omega (arith, e);
        },
      )

  -- a byte that is not refused
  onward : (m : Move) → judge r.stand r.depth (is_full r) b ≡ m → Going (moved m r).stand
      → (moved m r).offset ≡ suc r.offset → (Going (advance b r).stand → Way bs (advance b r)) → Way (b ∷ bs) r
  unfolding advance
  onward m e h n w =
      let f : advance b r ≡ moved m r = ap (λ (x : Move). moved x r) e in
      later (ap (λ (x : Reader). x.offset) f ∙ n) (w (subst (λ (x : Reader). Going x.stand) (sym f) h))

pub way : (bs : List ℕ) (r : Reader) → Going r.stand → Way bs r
way [] r g = inl (record { going = g; offset = omega arith })
way (b ∷ bs) r g = go (judge r.stand r.depth (is_full r) b) refl (way bs (advance b r))
  where
    go : (m : Move) → judge r.stand r.depth (is_full r) b ≡ m → (Going (advance b r).stand → Way bs (advance b r))
        → Way (b ∷ bs) r
    go (stops s) e w = inr (0, s, stops_here b bs r g s e)
    go (begins a) e w = onward b bs r g (begins a) e tt refl w
    go (grows a) e w = onward b bs r g (grows a) e tt refl w
    go opens e w = onward b bs r g opens e tt refl w
    go closes e w = onward b bs r g closes e tt refl w
    go parts e w = onward b bs r g parts e tt refl w

-- ---- what begins a text

-- freely, what begins a text does not stop the reader
pub completed_free : (p : List ℕ) → Completed p → Going (advances_free at_start p).stand
unfolding blank
completed_free p c =
    let t = text c.whole in
    let e : (reads_free blank t).place ≡ advances_free (advances_free at_start p) c.rest =
    free_place t blank ∙ (ap (advances_free at_start) c.bytes ∙ free_append p c.rest at_start) in
    free_before c.rest (advances_free at_start p)
    (subst (λ (r : Reader). Going r.stand) e
    (whole_going (reads_free blank t).place (read_freely c.whole c.readable).whole))

-- nor does it where no more terms have begun than a text may have
pub completed_going : (p : List ℕ) → Completed p → (advances_free at_start p).total ≤ terms_limit
    → Going (advances at_start p).stand
unfolding blank
completed_going p c l =
    let g = completed_free p c in
    let e = free_place p blank in
    let f : advances at_start p ≡ advances_free at_start p =
    sym (reads_place p blank)
    ∙ (ap (λ (r : Draft). r.place)
    (within_free p blank (subst (λ (r : Reader). Going r.stand) (sym e) g)
    (subst (λ (r : Reader). r.total ≤ terms_limit) (sym e) l)) ∙ e) in
    subst (λ (r : Reader). Going r.stand) (sym f) g

-- ---- why

-- the byte is a digit, or a bracket that is not one too many
abbrev pub Opening : ℕ → ℕ → Type 0
Opening depth b = (is_digit b ≡ true) ⊎ ((b ≡ 40) × (depth < depth_limit))

-- a bracket that may stand there but is one too many;  else a bracket or a digit where a term may begin and the text is
-- full;  else a 0 where a term may begin;  a digit that takes a code over the limit;  any other byte
pub data Why (s : Stand) (depth : ℕ) (full : Bool) (b : ℕ) : ℕ → Type 0 where
  over_depth : Ready s → b ≡ 40 → depth_limit ≤ depth → Why s depth full b 21
  over_terms : Ready s → Opening depth b → full ≡ true → Why s depth full b 24
  zero_first : Ready s → b ≡ 48 → full ≡ false → Why s depth full b 13
  over_code : (a : ℕ) → s ≡ number a → is_digit b ≡ true → code_test (with_digit a b) ≡ false → Why s depth full b 13
  no_move : Why s depth full b 23

-- the four statuses
abbrev pub StopNumber : ℕ → Type 0
StopNumber s = (s ≡ 13) ⊎ ((s ≡ 21) ⊎ ((s ≡ 23) ⊎ (s ≡ 24)))

pub why_number : (s : Stand) (depth : ℕ) (full : Bool) (b t : ℕ) → Why s depth full b t → StopNumber t
why_number s depth full b t (over_depth r e h) = inr (inl refl)
why_number s depth full b t (over_terms r o f) = inr (inr (inr refl))
why_number s depth full b t (zero_first r e f) = inl refl
why_number s depth full b t (over_code a e d f) = inl refl
why_number s depth full b t no_move = inr (inr (inl refl))

-- the one digit that is no code
no_code_digit : (b : ℕ) → is_digit b ≡ true → code_test (with_digit 0 b) ≡ false → b ≡ 48
unfolding with_digit
no_code_digit b e f = go (eqb b 48) refl
  where
    go : (t : Bool) → eqb b 48 ≡ t → b ≡ 48
    go true z = eqb-true b 48 z
    go false z =
        let n = eqb-false b 48 z in
        let i = digit_range b e in
        absurd (false≢true (sym f ∙ range_code (with_digit 0 b) (omega (arith, i.0, n)) (omega (arith, i.1))))

module _ (s : Stand) (depth : ℕ) (full : Bool) (b : ℕ) where
  abbrev Stopping : Move → Type 0
  Stopping (stops t) = Why s depth full b t
  Stopping (begins a) = Unit {0}
  Stopping (grows a) = Unit {0}
  Stopping opens = Unit {0}
  Stopping closes = Unit {0}
  Stopping parts = Unit {0}

  first_why : Ready s → Stopping (first_move depth full b)
  unfolding first_move
  first_why r =
      either Stopping (is_digit b)
      (λ e. either Stopping full (λ f. over_terms r (inl e) f)
      (λ n. either Stopping (code_test (with_digit 0 b)) (λ _. tt) (λ f. zero_first r (no_code_digit b e f) n)))
      (λ _. either Stopping (eqb b 40)
      (λ e. either Stopping (ltb depth depth_limit)
      (λ d. either Stopping full (λ f. over_terms r (inr (eqb-true b 40 e, ltb-true depth depth_limit d)) f) (λ _. tt))
      (λ f. over_depth r (eqb-true b 40 e) (ltb-false depth depth_limit f)))
      (λ _. no_move))

  later_why : Stopping (later_move depth b)
  unfolding later_move
  later_why =
      either Stopping (eqb b 32) (λ _. tt)
      (λ _. either Stopping (eqb b 41) (λ _. either Stopping (ltb 0 depth) (λ _. tt) (λ _. no_move)) (λ _. no_move))

  more_why : (a : ℕ) → s ≡ number a → Stopping (more_move a depth b)
  unfolding more_move
  more_why a h =
      either Stopping (is_digit b)
      (λ e. either Stopping (code_test (with_digit a b)) (λ _. tt) (λ f. over_code a h e f))
      (λ _. later_why)

judged_why : (s : Stand) (depth : ℕ) (full : Bool) (b : ℕ) → Going s → Stopping s depth full b (judge s depth full b)
judged_why begun depth full b g =
    either (Stopping begun depth full b) (eqb b 41) (λ _. later_why begun depth full b)
    (λ _. first_why begun depth full b tt)
judged_why spaced depth full b g = first_why spaced depth full b tt
judged_why (number a) depth full b g = more_why (number a) depth full b a refl
judged_why closed depth full b g = later_why closed depth full b
judged_why (stopped s) depth full b g = absurd g

pub why : (s : Stand) (depth : ℕ) (full : Bool) (b t : ℕ) → Going s → judge s depth full b ≡ stops t
    → Why s depth full b t
why s depth full b t g e = subst (λ (m : Move). Stopping s depth full b m) e (judged_why s depth full b g)

-- each is refused so
ready_first : (s : Stand) (depth : ℕ) (full : Bool) (b : ℕ) → Ready s → (b ≡ 41 → ⊥)
    → judge s depth full b ≡ first_move depth full b
ready_first begun depth full b r n = rw (ne_eqb b 41 n) refl
ready_first spaced depth full b r n = refl
ready_first (number a) depth full b r n = absurd r
ready_first closed depth full b r n = absurd r
ready_first (stopped s) depth full b r n = absurd r

module _ (s : Stand) (depth : ℕ) (full : Bool) (b : ℕ) (ready : Ready s) where
  pub zero_stops : b ≡ 48 → full ≡ false → judge s depth full b ≡ stops 13
  unfolding is_digit with_digit
  zero_stops e f =
      ready_first s depth full b ready (λ x. omega arith)
      ∙ rw (e, f) (first_digit depth false 48 false refl zero_no_code)

  pub deep_stops : b ≡ 40 → depth_limit ≤ depth → judge s depth full b ≡ stops 21
  unfolding first_move is_digit
  deep_stops e h =
      ready_first s depth full b ready (λ x. omega arith) ∙ rw (e, le-ltb depth depth_limit h) refl

  pub many_stops : Opening depth b → full ≡ true → judge s depth full b ≡ stops 24
  unfolding first_move is_digit
  many_stops (inl e) f =
      let i = digit_range b e in
      ready_first s depth full b ready (λ x. omega (arith, i.0)) ∙ rw (f, e) refl
  many_stops (inr (e, h)) f =
      ready_first s depth full b ready (λ x. omega arith) ∙ rw (f, e, lt-ltb depth depth_limit h) refl

pub large_stops : (a depth : ℕ) (full : Bool) (b : ℕ) → is_digit b ≡ true → code_test (with_digit a b) ≡ false
    → judge (number a) depth full b ≡ stops 13
large_stops a depth full b e f = more_digit a depth b false e f
