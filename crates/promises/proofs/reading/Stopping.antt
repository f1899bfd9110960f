-- What stops the reader at a byte, in terms of the bytes before it. In order:
--   depth_counts                                 the open brackets are those opened less those closed
--   ready_free, ready_at, may_begin              where a term may begin, by the bytes and by where the reader stands
--   begin_here .. many_here                      what a refusal says of the bytes
--   zero_refused .. many_refused                 and what is refused so
--   stops_with, status_once                      the status at the byte that stops the reader, and no other is
--   no_zero                                      what does not stop the reader, freely, has no 0 that begins a term
-- Assumes nothing.
use mathlib.Core.Path.{◌≡◌, refl, sym, ap, ap₂, ◌∙◌, subst}
use mathlib.Core.Logic.{◌⊎◌, inl, inr, ◌≢◌}
use mathlib.Core.Bool.{Bool, true, false, cond, not, ◌&&◌, ◌||◌, false≢true}
use mathlib.Core.List.{List, [], ◌∷◌, ◌++◌, append_assoc}
use Prim.Native.Nat.{ℕ, zero, suc, ◌+◌, ◌-◌, ◌*◌, ◌≤◌, ◌<◌}
use native.Mathlib.Omega.{arith}
use lib.Dec.{eqb}
use lib.ListN.{length, get_or, take, drop, length-append, length-take, take-append-drop, get_or-eq_default}
use lib.Seq.{length-take-le, take-suc, drop-cons, take-append_seam, get_or-append_seam}
use borrow.Author.Tests.{eq-eqb, ne_eqb, eqb-true, eqb-false}
use Rattle.octets.specs.Decimal.{decimal}
use Rattle.meaning.specs.Limits.{code_test, depth_limit}
use Rattle.meaning.specs.Judge.{Stand, begun, spaced, number, closed, stopped}
use Rattle.meaning.specs.Judge.{Move, stops, begins, grows, opens, closes, parts, is_digit, with_digit, judge}
use Rattle.meaning.specs.Reader.{Reader, moved, is_full, advance, advances, at_start}
use Rattle.meaning.proofs.Lists.{lt_or_ge}
use Rattle.meaning.proofs.reader.Moves.{stops_once, digit_range, is_digit_lem, judge_cases}
use Rattle.meaning.proofs.reader.Codes.{Ready}
use Rattle.meaning.proofs.reader.Completing.{Going}
use Rattle.meaning.proofs.reader.Freely.{advances_append, going_before, freely, advances_free, free_append, free_before}
use Rattle.meaning.proofs.reader.Freely.{going_free, full_terms, terms_full, few_terms}
use Rattle.meaning.proofs.reader.Standing.{EndsReady, ready_after, code_after, ready_ends, code_ends}
use Rattle.meaning.proofs.reader.Leftmost.{StopsAt, Opening, Why, over_depth, over_terms, zero_first, over_code}
use Rattle.meaning.proofs.reader.Leftmost.{no_move}
use Rattle.meaning.proofs.reader.Leftmost.{why, zero_stops, large_stops, deep_stops, many_stops}
use Rattle.promises.specs.Printing.{count}
use Rattle.promises.specs.Reading.{begun_at, terms_begun, MayBegin, TermMayBegin, BracketTooDeep, TermTooMany}
use Rattle.promises.specs.Reading.{ZeroBegins, CodeTooLarge, StopsWith, deep, many, banned, large, other}
use Rattle.promises.proofs.reading.Beginning.{in_number, digit_begins, bracket_begins, none_begins, begun_so}
use Rattle.promises.proofs.reading.Beginning.{going_may, may_going}

-- ---- how many brackets are open

count_cons : (c b : ℕ) (bs : List ℕ) → count c (b ∷ bs) ≡ cond (eqb b c) 1 0 + count c bs
count_cons c b bs = go (eqb b c)
  where
    go : (t : Bool) → cond t (suc (count c bs)) (count c bs) ≡ cond t 1 0 + count c bs
    go true = omega arith
    go false = omega arith

depth_step : (b : ℕ) (r : Reader) → Going (advance b r).stand
    → (advance b r).depth + cond (eqb b 41) 1 0 ≡ r.depth + cond (eqb b 40) 1 0
unfolding advance
depth_step b r =
    judge_cases
    (λ (m : Move). Going (moved m r).stand → (moved m r).depth + cond (eqb b 41) 1 0 ≡ r.depth + cond (eqb b 40) 1 0)
    b r.depth (is_full r) (λ s g. absurd g)
    (λ d e l c n g. neither (λ x. omega arith) (λ x. omega arith))
    (λ e l n g. rw (ne_eqb b 41 (λ x. omega arith), eq-eqb b 40 e) (omega arith))
    (λ a d e l c g. neither (λ x. omega arith) (λ x. omega arith))
    (λ e l g. rw (eq-eqb b 41 e, ne_eqb b 40 (λ x. omega arith)) (omega arith))
    (λ e g. neither (λ x. omega arith) (λ x. omega arith)) r.stand
  where
    neither : (b ≡ 41 → ⊥) → (b ≡ 40 → ⊥) → r.depth + cond (eqb b 41) 1 0 ≡ r.depth + cond (eqb b 40) 1 0
    neither m n = rw (ne_eqb b 41 m, ne_eqb b 40 n) refl

depth_counts : (bs : List ℕ) (r : Reader) → Going (advances r bs).stand
    → (advances r bs).depth + count 41 bs ≡ r.depth + count 40 bs
depth_counts [] r g = refl
depth_counts (b ∷ bs) r g =
    omega (
      arith,
      depth_counts bs (advance b r) g,
      depth_step b r (going_before bs (advance b r) g),
      count_cons 41 b bs,
      count_cons 40 b bs,
    )

-- ---- where a term may begin

ready_free : (bs : List ℕ) (k : ℕ) → k ≤ length bs → TermMayBegin bs k
    → Going (advances_free at_start (take k bs)).stand → Ready (advances_free at_start (take k bs)).stand
unfolding at_start
ready_free bs zero l m g = tt
ready_free bs (suc j) l (inl e) g = absurd (omega arith)
ready_free bs (suc j) l (inr h) g =
    let z : suc j - 1 ≡ j = omega arith in
    let b = get_or bs j 0 in
    let r = advances_free at_start (take j bs) in
    let e : advances_free at_start (take (suc j) bs) ≡ moved (freely r b) r =
    ap (advances_free at_start) (take-suc bs j 0 l) ∙ free_append (take j bs) (b ∷ []) at_start in
    subst (λ (x : Reader). Ready x.stand) (sym e)
    (ready_after b r (subst (λ (i : ℕ). (get_or bs i 0 ≡ 32) ⊎ (get_or bs i 0 ≡ 40)) z h)
    (subst (λ (x : Reader). Going x.stand) e g))

ready_at : (bs : List ℕ) (k : ℕ) → k ≤ length bs → TermMayBegin bs k → Going (advances at_start (take k bs)).stand
    → Ready (advances at_start (take k bs)).stand
ready_at bs k l m g =
    let e = going_free (take k bs) at_start g in
    subst (λ (x : Reader). Ready x.stand) (sym e)
    (ready_free bs k l m (subst (λ (x : Reader). Going x.stand) e g))

may_begin : (bs p ys : List ℕ) → bs ≡ p ++ ys → EndsReady p → TermMayBegin bs (length p)
may_begin bs p ys e (inl f) = inl (ap length f)
may_begin bs p ys e (inr (q, c, f, h)) =
    let n : length p - 1 ≡ length q =
    ap (λ (l : List ℕ). length l - 1) f ∙ omega (arith, length-append q (c ∷ [])) in
    let g : bs ≡ q ++ c ∷ ys = e ∙ (ap (λ (t : List ℕ). t ++ ys) f ∙ append_assoc q (c ∷ []) ys) in
    let x : get_or bs (length p - 1) 0 ≡ c =
    ap₂ (λ (l : List ℕ) (i : ℕ). get_or l i 0) g n ∙ get_or-append_seam q c ys 0 in
    inr (subst (λ (y : ℕ). (y ≡ 32) ⊎ (y ≡ 40)) (sym x) h)

-- ---- why a byte is refused

ready_outside : (s : Stand) → Ready s → in_number s ≡ false
ready_outside begun h = refl
ready_outside spaced h = refl
ready_outside (number a) h = absurd h
ready_outside closed h = absurd h
ready_outside (stopped s) h = absurd h

not_code_lem : (a : ℕ) → (code_test a ≡ true → ⊥) → code_test a ≡ false
not_code_lem a n = go (code_test a) refl
  where
    go : (t : Bool) → code_test a ≡ t → t ≡ false
    go true e = absurd (n e)
    go false e = refl

module _ (bs : List ℕ) (k : ℕ) (l : k < length bs) where
  abbrev at : Reader
  at = advances at_start (take k bs)

  large_here : (a : ℕ) → at.stand ≡ number a → is_digit (get_or bs k 0) ≡ true
      → code_test (with_digit a (get_or bs k 0)) ≡ false → CodeTooLarge bs k
  unfolding with_digit
  large_here a e d f =
      let c = code_ends (take k bs) a e in
      let w : bs ≡ c.front ++ (decimal a ++ drop k bs) =
      sym (take-append-drop k bs)
      ∙ (ap (λ (t : List ℕ). t ++ drop k bs) c.bytes ∙ append_assoc c.front (decimal a) (drop k bs)) in
      let t : take (length c.front) bs ≡ c.front =
      ap (take (length c.front)) w ∙ take-append_seam c.front (decimal a ++ drop k bs) in
      record {
        start = length c.front;
        code = a;
        begins = may_begin bs c.front (decimal a ++ drop k bs) w c.ready;
        digits = c.bytes ∙ ap (λ (x : List ℕ). x ++ decimal a) (sym t);
        is_code = c.is_code;
        digit = digit_range (get_or bs k 0) d;
        over = λ h. false≢true (sym f ∙ h);
      }

  begin_here : Ready at.stand → TermMayBegin bs k
  begin_here r =
      subst (λ (i : ℕ). TermMayBegin bs i) (length-take-le k bs (omega arith))
      (may_begin bs (take k bs) (drop k bs) (sym (take-append-drop k bs)) (ready_ends (take k bs) r))

  deep_here : Going at.stand → Ready at.stand → get_or bs k 0 ≡ 40 → depth_limit ≤ at.depth → BracketTooDeep bs k
  unfolding at_start
  deep_here g r e h = (begin_here r, (l, e, omega (arith, depth_counts (take k bs) at_start g, h)))

  -- the terms that have begun with byte k, behind the byte q
  begun_here : Going at.stand
      → (q : ℕ) × (is_digit q ≡ in_number at.stand)
      × (terms_begun (take (suc k) bs) ≡ at.total + begun_at q (get_or bs k 0))
  begun_here g =
      let a = begun_so (take k bs) (get_or bs k 0 ∷ []) g in
      (a.0, a.1, omega (arith, ap terms_begun (take-suc bs k 0 l), a.2))

  many_here : Going at.stand → Ready at.stand → Opening at.depth (get_or bs k 0) → is_full at ≡ true
      → TermTooMany bs k
  many_here g r o f =
      let a = begun_here g in
      let b : begun_at a.0 (get_or bs k 0) ≡ 1 = go a.0 (a.1 ∙ ready_outside at.stand r) o in
      (begin_here r, omega (arith, a.2, b, full_terms at f))
    where
      go : (q : ℕ) → is_digit q ≡ false → Opening at.depth (get_or bs k 0) → begun_at q (get_or bs k 0) ≡ 1
      go q h (inl d) = digit_begins q (get_or bs k 0) h d
      go q h (inr (e, _)) = bracket_begins q (get_or bs k 0) e

  start_in : (c : CodeTooLarge bs k) → c.start ≤ length bs
  start_in c =
      omega (
        arith,
        ap length c.digits,
        length-append (take c.start bs) (decimal c.code),
        length-take c.start bs,
        length-take k bs,
      )

  -- ---- what is refused so

  abbrev judged : Move
  judged = judge at.stand at.depth (is_full at) (get_or bs k 0)

  large_refused : Going at.stand → CodeTooLarge bs k → judged ≡ stops 13
  unfolding with_digit
  large_refused g c =
      let a = c.code in
      let x = get_or bs k 0 in
      let q = advances at_start (take c.start bs) in
      let e : at ≡ advances q (decimal a) =
      ap (advances at_start) c.digits ∙ advances_append (take c.start bs) (decimal a) at_start in
      let i = subst (λ (r : Reader). Going r.stand) e g in
      let h = going_before (decimal a) q i in
      let s : at.stand ≡ number a =
      ap (λ (r : Reader). r.stand) e
      ∙ code_after q a (ready_at bs c.start (start_in c) c.begins h) c.is_code i in
      ap (λ (y : Stand). judge y at.depth (is_full at) x) s
      ∙ large_stops a at.depth (is_full at) x (is_digit_lem x c.digit.0 c.digit.1)
      (not_code_lem (10 * a + (x - 48)) c.over)

  deep_refused : Going at.stand → BracketTooDeep bs k → judged ≡ stops 21
  unfolding at_start
  deep_refused g d =
      deep_stops at.stand at.depth (is_full at) (get_or bs k 0) (ready_at bs k (omega arith) d.0 g) d.1.1
      (omega (arith, depth_counts (take k bs) at_start g, d.1.2))

  many_refused : Going at.stand → (BracketTooDeep bs k → ⊥) → TermTooMany bs k → judged ≡ stops 24
  unfolding at_start
  many_refused g n m =
      many_stops at.stand at.depth (is_full at) b ready opening
      (terms_full at (omega (arith, m.1, a.2, one b a.0)))
    where
      b : ℕ
      b = get_or bs k 0

      ready : Ready at.stand
      ready = ready_at bs k (omega arith) m.0 g

      a : (q : ℕ) × (is_digit q ≡ in_number at.stand) × (terms_begun (take (suc k) bs) ≡ at.total + begun_at q b)
      a = begun_here g

      one : (b q : ℕ) → begun_at q b ≤ 1
      one b q = at_most (eqb b 40 || (is_digit b && not (is_digit q)))
        where
          at_most : (t : Bool) → cond {A = ℕ} t 1 0 ≤ 1
          at_most true = omega arith
          at_most false = omega arith

      shallow : b ≡ 40 → (at.depth < depth_limit) ⊎ (depth_limit ≤ at.depth) → at.depth < depth_limit
      shallow e (inl h) = h
      shallow e (inr h) = absurd (n (deep_here g ready e h))

      opening : Opening at.depth b
      opening = go (eqb b 40) refl (is_digit b) refl
        where
          go : (t : Bool) → eqb b 40 ≡ t → (u : Bool) → is_digit b ≡ u → Opening at.depth b
          go t e true f = inl f
          go true e false f = let h = eqb-true b 40 e in inr (h, shallow h (lt_or_ge at.depth depth_limit))
          go false e false f =
              absurd (omega (
                arith,
                none_begins a.0 b (eqb-false b 40 e) f,
                a.2,
                m.1,
                few_terms (take k bs) at_start (omega arith),
              ))

  zero_digit : get_or bs k 0 ≡ 48 → is_digit (get_or bs k 0) ≡ true
  zero_digit e = is_digit_lem (get_or bs k 0) (omega arith) (omega arith)

  zero_refused : Going at.stand → (TermTooMany bs k → ⊥) → ZeroBegins bs k → judged ≡ stops 13
  zero_refused g n z =
      let r = ready_at bs k (omega arith) z.0 g in
      zero_stops at.stand at.depth (is_full at) (get_or bs k 0) r z.1 (go r (is_full at) refl)
    where
      go : Ready at.stand → (t : Bool) → is_full at ≡ t → t ≡ false
      go r true f = absurd (n (many_here g r (inl (zero_digit z.1)) f))
      go r false f = refl

  one_status : (s t : ℕ) → judged ≡ stops s → judged ≡ stops t → s ≡ t
  one_status s t e f = stops_once s t (sym e ∙ f)

  module _ (g : Going at.stand) where
    not_deep : (s : ℕ) → judged ≡ stops s → s ≢ 21 → BracketTooDeep bs k → ⊥
    not_deep s j n d = n (one_status s 21 j (deep_refused g d))

    not_many : (s : ℕ) → judged ≡ stops s → (BracketTooDeep bs k → ⊥) → s ≢ 24 → TermTooMany bs k → ⊥
    not_many s j d n m = n (one_status s 24 j (many_refused g d m))

    by_why : (s : ℕ) → judged ≡ stops s → Why at.stand at.depth (is_full at) (get_or bs k 0) s → StopsWith bs k s
    by_why s j (over_depth r e h) = deep (deep_here g r e h)
    by_why s j (over_terms r o f) = many (not_deep 24 j (λ x. omega arith)) (many_here g r o f)
    by_why s j (zero_first r e n) =
        banned (not_many 13 j (not_deep 13 j (λ x. omega arith)) (λ x. omega arith)) (begin_here r, e)
    by_why s j (over_code a e d f) = large (large_here a e d f)
    by_why s j no_move =
        let d = not_deep 23 j (λ x. omega arith) in
        let m = not_many 23 j d (λ x. omega arith) in
        other d m (λ z. let x = one_status 23 13 j (zero_refused g m z) in omega arith)
        (λ c. let x = one_status 23 13 j (large_refused g c) in omega arith)

    -- no other status is said of it
    as_other : (BracketTooDeep bs k → ⊥) → (TermTooMany bs k → ⊥) → (ZeroBegins bs k → ⊥) → (CodeTooLarge bs k → ⊥)
        → (s : ℕ) → Why at.stand at.depth (is_full at) (get_or bs k 0) s → 23 ≡ s
    as_other d m z c s (over_depth r e h) = absurd (d (deep_here g r e h))
    as_other d m z c s (over_terms r o f) = absurd (m (many_here g r o f))
    as_other d m z c s (zero_first r e n) = absurd (z (begin_here r, e))
    as_other d m z c s (over_code a e i f) = absurd (c (large_here a e i f))
    as_other d m z c s no_move = refl

    status_judged : (s : ℕ) → judged ≡ stops s → (t : ℕ) → StopsWith bs k t → t ≡ s
    status_judged s j t (deep d) = one_status 21 s (deep_refused g d) j
    status_judged s j t (many d m) = one_status 24 s (many_refused g d m) j
    status_judged s j t (banned m z) = one_status 13 s (zero_refused g m z) j
    status_judged s j t (large c) = one_status 13 s (large_refused g c) j
    status_judged s j t (other d m z c) =
        as_other d m z c s (why at.stand at.depth (is_full at) (get_or bs k 0) s g j)

  -- a byte with which bytes may not begin a text stops the reader
  next_reader : advances at_start (take (suc k) bs) ≡ moved judged at
  unfolding advance
  next_reader = ap (advances at_start) (take-suc bs k 0 l) ∙ advances_append (take k bs) (get_or bs k 0 ∷ []) at_start

  stops_here : (MayBegin (take (suc k) bs) → ⊥) → (s : ℕ) × (judged ≡ stops s)
  stops_here n = go judged refl
    where
      on : (m : Move) → judged ≡ m → Going (moved m at).stand → (s : ℕ) × (judged ≡ stops s)
      on m e g =
          absurd (n (going_may (take (suc k) bs) (subst (λ (r : Reader). Going r.stand)
          (sym (next_reader ∙ ap (λ (x : Move). moved x at) e)) g)))

      go : (m : Move) → judged ≡ m → (s : ℕ) × (judged ≡ stops s)
      go (stops s) e = (s, e)
      go (begins a) e = on (begins a) e tt
      go (grows a) e = on (grows a) e tt
      go opens e = on opens e tt
      go closes e = on closes e tt
      go parts e = on parts e tt

  -- so no second status is said of it
  pub status_once : (s t : ℕ) → MayBegin (take k bs) → (MayBegin (take (suc k) bs) → ⊥) → StopsWith bs k s
      → StopsWith bs k t → s ≡ t
  status_once s t m n h h' =
      let g = may_going (take k bs) m in
      let j = stops_here n in
      status_judged g j.0 j.1 s h ∙ sym (status_judged g j.0 j.1 t h')

pub stops_with : (bs : List ℕ) (k s : ℕ) → StopsAt bs at_start k s → StopsWith bs k s
stops_with bs k s w =
    let q = advances at_start (take k bs) in
    by_why bs k w.inside w.going s w.refused
    (why q.stand q.depth (is_full q) (get_or bs k 0) s w.going w.refused)

-- ---- what does not stop the reader, freely

module _ (bs : List ℕ) (g : Going (advances_free at_start bs).stand) (k : ℕ) (z : ZeroBegins bs k) where
  zero_stands : k < length bs → ⊥
  zero_stands l =
      let r = advances_free at_start (take k bs) in
      let b = get_or bs k 0 in
      let e : advances_free at_start bs ≡ advances_free (moved (freely r b) r) (drop (suc k) bs) =
      ap (advances_free at_start) (sym (take-append-drop k bs))
      ∙ (free_append (take k bs) (drop k bs) at_start ∙ ap (advances_free r) (drop-cons bs k 0 l)) in
      let h = free_before (drop (suc k) bs) (moved (freely r b) r) (subst (λ (x : Reader). Going x.stand) e g) in
      let ready = ready_free bs k (omega arith) z.0 (free_before (b ∷ []) r h) in
      subst (λ (m : Move). Going (moved m r).stand) (zero_stops r.stand r.depth false b ready z.1 refl) h

  pub no_zero : ⊥
  no_zero = go (lt_or_ge k (length bs))
    where
      go : (k < length bs) ⊎ (length bs ≤ k) → ⊥
      go (inl l) = zero_stands l
      go (inr l) = let d = get_or-eq_default bs 0 l in omega (arith, d, z.1)
