-- The counts are those of the expressions that stand open, and at the end those of the whole text. In order:
--   most_append                 the most of two expressions put together
--   most_around, Waits, Agrees   the counts of a state, by the draft of the same bytes
--   judged, bytes_agree         a byte that is not refused keeps them so, and so do bytes
--   whole_counted               the end after any bytes is the count of the whole text
-- Assumes nothing.
use mathlib.Core.Path.{◌≡◌, refl, sym, ap, ap₂, ◌∙◌, subst}
use mathlib.Core.Logic.{◌≢◌}
use mathlib.Core.Bool.{Bool, true, false, ◌&&◌}
use mathlib.Core.List.{List, [], ◌∷◌}
use Prim.Native.Nat.{ℕ, suc, ◌+◌, ◌-◌, ◌*◌, ◌≤◌, ◌<◌, max}
use native.Mathlib.Omega.{arith}
use lib.Dec.{eqb}
use lib.ListN.{length, get_or, set, length-set, length-replicate}
use lib.Seq.{get_or-set_same, get_or-set_other}
use borrow.Author.Tests.{eqb-true}
use Rattle.meaning.specs.Limits.{depth_limit}
use Rattle.meaning.specs.Expr.{Expr, nothing, symbol, parens, append, terms}
use Rattle.meaning.specs.Judge.{Stand, begun, spaced, number, closed, stopped, Move, stops, judge}
use Rattle.meaning.specs.Lay.{all_terms}
use Rattle.meaning.specs.Reader.{Reader, reader, moved, is_full, advance, advances, at_start, may_end, is_whole}
use Rattle.meaning.specs.Reader.{Draft, ended, expression, shut_own, shut_around, takes, read, reads, blank}
use Rattle.meaning.specs.Pieces.{most_within, most_terms, count_of, count_text, Pieces, next}
use Rattle.meaning.specs.Pieces.{feed, feeds, fits, fed, no_pieces, counted}
use Rattle.meaning.proofs.Counting.{both_true}
use Rattle.meaning.proofs.meaning.Terms.{terms_append}
use Rattle.meaning.proofs.reader.Moves.{either, first_cases, later_cases, more_cases}
use Rattle.meaning.proofs.reader.Forth.{text_of_read, reads_place}
use Rattle.meaning.proofs.reader.Completing.{Going}
use Rattle.meaning.proofs.reader.Freely.{going_before, whole_going}
use Rattle.meaning.proofs.pieces.Fitting.{yes_fits}
use Rattle.meaning.proofs.pieces.Cutting.{feeds_place, feeds_fits, start_fits, start_fed}

most_append : (e f : Expr) → most_within (append e f) ≡ max (most_within e) (most_within f)
most_append nothing f = omega arith
most_append (symbol a r) f = most_append r f
most_append (parens i r) f = omega (arith, most_append r f)

-- ---- the counts of a state

-- the most of the expressions around, each with the bracket that stands open in it
abbrev most_around : List Expr → ℕ
most_around [] = 0
most_around (e ∷ es) = max (max (suc (terms e)) (most_within e)) (most_around es)

-- their counts wait, the innermost at the last place
abbrev Waits : List ℕ → ℕ → List Expr → Type 0
Waits w d [] = d ≡ 0
Waits w d (e ∷ es) = (0 < d) × (get_or w (d - 1) 0 ≡ suc (terms e)) × Waits w (d - 1) es

waits_set : (ar : List Expr) (w : List ℕ) (d j x : ℕ) → d ≤ j → Waits w d ar → Waits (set w j x) d ar
waits_set [] w d j x h k = k
waits_set (e ∷ es) w d j x h k =
    let n : d - 1 ≢ j = λ q. omega (arith, k.0) in
    (k.0, get_or-set_other w j (d - 1) x 0 n ∙ k.1, waits_set es w (d - 1) j x (omega arith) k.2)

-- the state (q, o, m, w) and the draft (q, ar, e)
record Agrees (q : Reader) (o m : ℕ) (w : List ℕ) (ar : List Expr) (e : Expr) : Type 0 where
  ours : o ≡ terms (ended q.stand e)
  most : m ≡ max (most_terms (ended q.stand e)) (most_around ar)
  waits : Waits w q.depth ar
  long : length w ≡ depth_limit

abbrev pieces : Reader → ℕ → ℕ → List ℕ → Pieces
pieces q o m w = record { place = q; own = o; most = m; waiting = w }

abbrev draft : Reader → List Expr → Expr → Draft
draft q ar e = record { place = q; around = ar; own = e }

abbrev AgreesOf : Pieces → Draft → Type 0
AgreesOf p r = Agrees p.place p.own p.most p.waiting r.around r.own

-- ---- a byte

-- a bracket closes: what was the innermost level is one more within the level around it
regroup : (x a b y : ℕ) → max x (max (max a b) y) ≡ max (max a (max b x)) y
regroup x a b y = omega arith

most_closed : (p f : Expr) → most_within (append p (parens f nothing)) ≡ max (most_within p) (most_terms f)
most_closed p f = most_append p (parens f nothing) ∙ ap (max (most_within p)) (none (most_terms f))
  where
    none : (x : ℕ) → max x 0 ≡ x
    none x = omega arith

closes_agree : (q : Reader) (o m : ℕ) (w : List ℕ) (ar : List Expr) (f : Expr) → 0 < q.depth
    → m ≡ max (most_terms f) (most_around ar) → Waits w q.depth ar → length w ≡ depth_limit
    → (n : ℕ) → Agrees (reader closed n (q.depth - 1) q.total) (get_or w (q.depth - 1) 0) m w (shut_around ar)
    (shut_own ar f)
closes_agree q o m w [] f h t k l n = absurd (omega arith)
closes_agree q o m w (p ∷ ps) f h t k l n =
    let x : suc (terms p) ≡ terms (append p (parens f nothing)) = omega (arith, terms_append p (parens f nothing)) in
    record {
      ours = k.1 ∙ x;
      most =
          t
          ∙ (regroup (most_terms f) (suc (terms p)) (most_within p) (most_around ps)
          ∙ ap (λ (y : ℕ). max y (most_around ps)) (ap₂ max x (sym (most_closed p f))));
      waits = k.2;
      long = l;
    }

module _ (q : Reader) (o m : ℕ) (w : List ℕ) (ar : List Expr) (e : Expr) (b : ℕ) where
  -- standing elsewhere
  abbrev at : Stand → Reader
  at s = reader s q.offset q.depth q.total

  After : Stand → Move → Type 0
  After s v = Going (moved v (at s)).stand → AgreesOf (next v (pieces (at s) o m w)) (takes v (draft (at s) ar e))

  refused : (s : Stand) (t : ℕ) → After s (stops t)
  unfolding After
  refused s t g = absurd g

  -- where a term may begin
  module _ (ours : o ≡ terms e) (most : m ≡ max (most_terms e) (most_around ar)) (waits : Waits w q.depth ar)
      (long : length w ≡ depth_limit) where
    begins_agree : (d n t : ℕ) → Agrees (reader (number d) n q.depth t) (suc o) (max m (suc o)) w ar e
    begins_agree d n t = record {
      ours = omega (arith, ours, terms_append e (symbol d nothing));
      most = omega (arith, ours, most, terms_append e (symbol d nothing), most_append e (symbol d nothing));
      waits = waits;
      long = long;
    }

    opens_agree : (n t : ℕ) → q.depth < depth_limit
        → Agrees (reader begun n (suc q.depth) t) 0 (max m (suc o)) (set w q.depth (suc o)) (e ∷ ar) nothing
    opens_agree n t l =
        let z : suc q.depth - 1 ≡ q.depth = omega arith in
        record {
          ours = refl;
          most = omega (arith, ours, most);
          waits = (
            omega arith,
            rw z (get_or-set_same w q.depth (suc o) 0 (omega (arith, long)) ∙ ap suc ours),
            rw z (waits_set ar w q.depth q.depth (suc o) (omega arith) waits),
          );
          long = length-set w q.depth (suc o) ∙ long;
        }

  -- a digit more
  grows_agree : (a c n : ℕ) → Agrees (at (number a)) o m w ar e
      → Agrees (reader (number c) n q.depth q.total) o m w ar e
  grows_agree a c n k =
      let x = terms_append e (symbol a nothing) in
      let y = terms_append e (symbol c nothing) in
      let u = most_append e (symbol a nothing) in
      let v = most_append e (symbol c nothing) in
      record {
        ours = omega (arith, k.ours, x, y);
        most = omega (arith, k.most, x, y, u, v);
        waits = k.waits;
        long = k.long;
      }

  judged : (full : Bool) (s : Stand) → Agrees (at s) o m w ar e → After s (judge s q.depth full b)
  unfolding After
  judged full begun k =
      either (After begun) (eqb b 41)
      (λ _. later_cases (After begun) b (refused begun) q.depth
      (λ c h g. closes_agree q o m w ar e h k.most k.waits k.long _)
      (λ c g. record { ours = k.ours; most = k.most; waits = k.waits; long = k.long }))
      (λ _. first_cases (After begun) b (refused begun) q.depth full
      (λ d c l i n g. begins_agree k.ours k.most k.waits k.long d _ _)
      (λ c l n g. opens_agree k.ours k.most k.waits k.long _ _ l))
  judged full spaced k =
      first_cases (After spaced) b (refused spaced) q.depth full
      (λ d c l i n g. begins_agree k.ours k.most k.waits k.long d _ _)
      (λ c l n g. opens_agree k.ours k.most k.waits k.long _ _ l)
  judged full (number a) k =
      let f = append e (symbol a nothing) in
      more_cases (After (number a)) b (refused (number a)) a q.depth
      (λ d c l i g. grows_agree a (10 * a + d) _ k)
      (λ c h g. closes_agree q o m w ar f h k.most k.waits k.long _)
      (λ c g. record { ours = k.ours; most = k.most; waits = k.waits; long = k.long })
  judged full closed k =
      later_cases (After closed) b (refused closed) q.depth
      (λ c h g. closes_agree q o m w ar e h k.most k.waits k.long _)
      (λ c g. record { ours = k.ours; most = k.most; waits = k.waits; long = k.long })
  judged full (stopped s) k = λ g. absurd g

-- ---- bytes

bytes_agree : (bs : List ℕ) (q : Reader) (o m : ℕ) (w : List ℕ) (ar : List Expr) (e : Expr) → Agrees q o m w ar e
    → Going (advances q bs).stand → AgreesOf (feeds (pieces q o m w) bs) (reads (draft q ar e) bs)
unfolding feed read advance After
bytes_agree [] q o m w ar e k g = k
bytes_agree (b ∷ bs) q o m w ar e k g =
    let p = feed b (pieces q o m w) in
    let r = read b (draft q ar e) in
    let a : AgreesOf p r = judged q o m w ar e b (is_full q) q.stand k (going_before bs (advance b q) g) in
    bytes_agree bs p.place p.own p.most p.waiting r.around r.own a g

start_agrees : AgreesOf no_pieces blank
unfolding no_pieces blank at_start
start_agrees = record { ours = refl; most = refl; waits = refl; long = length-replicate depth_limit 0 }

-- ---- the whole text

-- where no bracket is open, none is around
most_alone : (w : List ℕ) (d : ℕ) (ar : List Expr) (x : ℕ) → Waits w d ar → d ≡ 0 → max x (most_around ar) ≡ x
most_alone w d [] x k e = omega arith
most_alone w d (f ∷ fs) x k e = absurd (omega (arith, k.0))

whole_depth : (r : Reader) → is_whole r ≡ true → r.depth ≡ 0
unfolding is_whole
whole_depth r e = eqb-true r.depth 0 (both_true (may_end r.stand) (eqb r.depth 0) e).1

module _ (bs : List ℕ) where
  abbrev state : Pieces
  state = feeds no_pieces bs

  abbrev made : Draft
  made = reads blank bs

  same_place : state.place ≡ made.place
  unfolding no_pieces blank
  same_place = feeds_place bs no_pieces ∙ sym (reads_place bs blank)

  counted_whole : is_whole made.place ≡ true → counted state ≡ count_of made
  unfolding counted count_of no_pieces blank
  counted_whole w =
      let g = whole_going made.place w in
      let h : Going state.place.stand = subst (λ (r : Reader). Going r.stand) (sym same_place) g in
      let f = yes_fits state (feeds_fits bs no_pieces start_fits h) in
      let z : is_whole state.place ≡ true = ap is_whole same_place ∙ w in
      let a : AgreesOf state made =
      bytes_agree bs at_start 0 0 no_pieces.waiting [] nothing start_agrees
      (subst (λ (r : Reader). Going r.stand) (reads_place bs blank) g) in
      let m : state.most ≡ most_terms (expression made) =
      a.most
      ∙ (most_alone state.waiting state.place.depth made.around _ a.waits (whole_depth state.place z)
      ∙ ap (λ (r : Reader). most_terms (ended r.stand made.own)) same_place) in
      let n : state.place.total ≡ all_terms (expression made) =
      ap (λ (r : Reader). r.total) same_place ∙ (text_of_read bs w).need in
      rw (f, z, w, m, n) refl

  counted_part : is_whole made.place ≡ false → counted state ≡ count_of made
  unfolding counted count_of
  counted_part w =
      let z : (fits state && is_whole state.place) ≡ false =
      ap (λ (t : Bool). fits state && t) (ap is_whole same_place ∙ w) ∙ never (fits state) in
      rw (z, w, same_place) refl
    where
      never : (t : Bool) → (t && false) ≡ false
      never true = refl
      never false = refl

  pub whole_counted : counted (fed no_pieces bs) ≡ count_text bs
  unfolding count_text
  whole_counted = ap counted (start_fed bs) ∙ go (is_whole made.place) refl
    where
      go : (t : Bool) → is_whole made.place ≡ t → counted state ≡ count_of made
      go true w = counted_whole w
      go false w = counted_part w
