-- A text read: what is read is what was written; a text is refused leftmost, and in one way. In order:
--   reads_back, writes_back   the one way and the other
--   shorter                   fewer of the bytes that may begin a text may begin one
--   too_soon, at_byte         a text that ends too soon, and one that is refused at a byte;  stops_leftmost
--   whole_refused             no refusal where it is read;  one_refusal  and one verdict
-- Assumes nothing.
use mathlib.Core.Path.{◌≡◌, refl, sym, ap, ap₂, ◌∙◌, subst}
use mathlib.Core.Logic.{◌⊎◌, inl, inr}
use mathlib.Core.Bool.{true, false, false≢true}
use mathlib.Core.List.{List, [], append-nil}
use Prim.Native.Nat.{ℕ, suc, ◌≤◌, ◌<◌}
use native.Mathlib.Omega.{arith}
use lib.ListN.{length, take, drop, take-append-drop}
use lib.Seq.{take-take}
use Rattle.meaning.specs.Limits.{depth_limit, terms_limit}
use Rattle.meaning.specs.Expr.{Expr}
use Rattle.meaning.specs.Lay.{all_terms}
use Rattle.meaning.specs.Text.{text, Readable}
use Rattle.meaning.specs.Verdicts.{Verdict, valued}
use Rattle.meaning.specs.Judge.{Stand, begun, spaced, number, closed, stopped}
use Rattle.meaning.specs.Reader.{Reader, advances, at_start, is_whole, stop_status, stop_verdict}
use Rattle.meaning.specs.Reader.{reads, blank}
use Rattle.meaning.proofs.Lists.{lt_or_ge}
use Rattle.meaning.proofs.reader.Forth.{text_of_read, reads_place}
use Rattle.meaning.proofs.reader.Back.{read_back}
use Rattle.meaning.proofs.reader.Completing.{Going}
use Rattle.meaning.proofs.reader.Freely.{advances_append, going_before, few_terms}
use Rattle.meaning.proofs.reader.Leftmost.{StopsAt, GoesOn, way}
use Rattle.promises.specs.Reading.{AreText, terms_begun, MayBegin, ReadsBack, WritesBack, StopsWith}
use Rattle.promises.specs.Reading.{RefusedText, ends_too_soon, stops_at, StopsLeftmost, OneRefusal}
use Rattle.promises.proofs.reading.Beginning.{going_may, may_going, terms_begin}
use Rattle.promises.proofs.reading.Stopping.{stops_with, status_once}

-- ---- back and forth

pub reads_back : ReadsBack
reads_back e p l = let b = read_back e p l in (b.whole, b.means)

-- what is read has no more terms than a text may have
few_read : (bs : List ℕ) → (reads blank bs).place.total ≤ terms_limit
unfolding blank at_start
few_read bs =
    subst (λ (r : Reader). r.total ≤ terms_limit) (sym (reads_place bs blank)) (few_terms bs at_start (omega arith))

pub writes_back : WritesBack
writes_back bs w =
    let t = text_of_read bs w in
    (t.readable, subst (λ (n : ℕ). n ≤ terms_limit) t.need (few_read bs), t.bytes)

-- ---- bytes that may begin a text

shorter : (n : ℕ) (p : List ℕ) → MayBegin p → MayBegin (take n p)
shorter n p m =
    going_may (take n p)
    (going_before (drop n p) (advances at_start (take n p))
    (subst (λ (r : Reader). Going r.stand)
    (ap (advances at_start) (sym (take-append-drop n p)) ∙ advances_append (take n p) (drop n p) at_start)
    (may_going p m)))

-- ---- a text that is refused

going_status : (s : Stand) → Going s → stop_status s ≡ 23
going_status begun g = refl
going_status spaced g = refl
going_status (number a) g = refl
going_status closed g = refl
going_status (stopped s) g = absurd g

module _ (bs : List ℕ) where
  too_soon : is_whole (reads blank bs).place ≡ false → GoesOn bs at_start
      → RefusedText bs (stop_verdict (advances at_start bs))
  unfolding stop_verdict at_start
  too_soon w h =
      let e : stop_verdict (advances at_start bs) ≡ valued 23 (length bs) =
      ap₂ valued (going_status (advances at_start bs).stand h.going) (h.offset ∙ omega arith) in
      subst (λ (v : Verdict). RefusedText bs v) (sym e) (ends_too_soon (going_may bs h.going) (no_text h))
    where
      -- a text of which the reader goes on has no more terms than it may have, and would be read whole
      no_text : GoesOn bs at_start → AreText bs → ⊥
      no_text h t =
          let l : all_terms t.0 ≤ terms_limit =
          subst (λ (n : ℕ). n ≤ terms_limit) (ap terms_begun (sym t.2) ∙ terms_begin t.0 t.1)
          (going_may bs h.going).1 in
          false≢true (sym w ∙ subst (λ (x : List ℕ). is_whole (reads blank x).place ≡ true) t.2
          (reads_back t.0 t.1 l).0)

  at_byte : (k s : ℕ) → StopsAt bs at_start k s → RefusedText bs (stop_verdict (advances at_start bs))
  unfolding stop_verdict at_start
  at_byte k s h =
      let t = take-append-drop (suc k) bs in
      let a : (advances at_start bs).stand ≡ stopped s =
      ap (λ (x : List ℕ). (advances at_start x).stand) (sym t) ∙ h.stand (drop (suc k) bs) in
      let n : (advances at_start bs).offset ≡ k =
      ap (λ (x : List ℕ). (advances at_start x).offset) (sym t) ∙ (h.offset (drop (suc k) bs) ∙ omega arith) in
      subst (λ (v : Verdict). RefusedText bs v) (sym (ap₂ valued (ap stop_status a) n))
      (stops_at k s h.inside (going_may (take k bs) h.going)
      (λ m. subst Going
      (ap (λ (x : List ℕ). (advances at_start x).stand) (sym (append-nil (take (suc k) bs))) ∙ h.stand [])
      (may_going (take (suc k) bs) m)) (stops_with bs k s h))

pub stops_leftmost : StopsLeftmost
unfolding blank at_start
stops_leftmost bs w =
    subst (λ (r : Reader). RefusedText bs (stop_verdict r)) (sym (reads_place bs blank)) (go (way bs at_start tt))
  where
    go : GoesOn bs at_start ⊎ ((k : ℕ) × (s : ℕ) × StopsAt bs at_start k s)
        → RefusedText bs (stop_verdict (advances at_start bs))
    go (inl h) = too_soon bs w h
    go (inr (k, s, h)) = at_byte bs k s h

-- ---- one verdict

-- a text that may begin up to byte k' is not refused before it
not_before : (bs : List ℕ) (k k' : ℕ) → (MayBegin (take (suc k) bs) → ⊥) → MayBegin (take k' bs) → k' ≤ k
not_before bs k k' n b = go (lt_or_ge k k')
  where
    go : (k < k') ⊎ (k' ≤ k) → k' ≤ k
    go (inl l) =
        absurd (n (subst (λ (t : List ℕ). MayBegin t) (take-take (suc k) k' bs l) (shorter (suc k) (take k' bs) b)))
    go (inr l) = l

-- a text of no more terms than it may have is not refused
pub whole_refused : (bs : List ℕ) (e : Expr) → Readable depth_limit e → all_terms e ≤ terms_limit → text e ≡ bs
    → (v : Verdict) → RefusedText bs v → ⊥
whole_refused bs e p l t v (ends_too_soon b n) = n (e, p, t)
whole_refused bs e p l t v (stops_at k s i b n h) =
    n (shorter (suc k) bs
    ((e, [], p, t ∙ sym (append-nil bs)), omega (arith, ap terms_begun (sym t) ∙ terms_begin e p, l)))

pub one_refusal : OneRefusal
one_refusal bs v w (ends_too_soon b n) (ends_too_soon b' n') = refl
one_refusal bs v w (ends_too_soon b n) (stops_at k s l p m h) = absurd (m (shorter (suc k) bs b))
one_refusal bs v w (stops_at k s l p m h) (ends_too_soon b n) = absurd (m (shorter (suc k) bs b))
one_refusal bs v w (stops_at k s l p m h) (stops_at k' s' l' p' m' h') =
    let e : k ≡ k' = omega (arith, not_before bs k k' m p', not_before bs k' k m' p) in
    ap₂ valued
    (status_once bs k' l' s s' p' m' (subst (λ (i : ℕ). StopsWith bs i s) e h) h') e
