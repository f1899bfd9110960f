-- What a draft is of the bytes read so far (Drafts) is kept by every byte. In order:
--   code_one, code_more          a code of one digit, and one with a digit more
--   begins_kept .. closes_kept   it is kept at each move;  closed_bytes  the bytes where a bracket closes
--   grows_kept, judged_kept      and at the move that is judged
--   read_inv, reads_inv          by a byte, and by bytes
--   bytes_inv                    so it holds after any bytes
-- Assumes nothing.
use mathlib.Core.Path.{◌≡◌, refl, sym, ap, ap₂, ◌∙◌, subst}
use mathlib.Core.Bool.{Bool, false}
use mathlib.Core.List.{List, [], ◌∷◌, ◌++◌, append_assoc, append-nil}
use Prim.Native.Nat.{ℕ, suc, ◌+◌, ◌-◌, ◌*◌, ◌/◌, ◌%◌, ◌≤◌, ◌<◌}
use native.Mathlib.Omega.{arith}
use lib.Dec.{eqb}
use borrow.Author.Tests.{eqb-true}
use Rattle.octets.specs.Decimal.{decimal}
use Rattle.octets.proofs.Decimals.{decimal_one, decimal_more}
use Rattle.meaning.specs.Limits.{depth_limit}
use Rattle.meaning.specs.Expr.{Expr, nothing, symbol, parens, append, terms}
use Rattle.meaning.specs.Sound.{IsCode}
use Rattle.meaning.specs.Text.{gap, text, Readable}
use Rattle.meaning.specs.Judge.{Stand, begun, spaced, number, closed, stopped, Move, stops, judge}
use Rattle.meaning.specs.Reader.{reader, is_full, at_start, Draft, shut_own, shut_around, takes, read, reads, blank}
use Rattle.meaning.proofs.meaning.Terms.{terms_append}
use Rattle.meaning.proofs.lay.Places.{all_terms_append}
use Rattle.meaning.proofs.sound.Cells.{code_range}
use Rattle.meaning.proofs.text.Texts.{gap_filled, text_after, text_code, readable_append}
use Rattle.meaning.proofs.reader.Moves.{either, first_cases, later_cases, more_cases}
use Rattle.meaning.proofs.reader.Drafts.{behind, Stack, sizes, Open, Kept, Inv, InvOf, so_far}

-- a code of one digit, and one with a digit more
code_one : (d : ℕ) → d ≤ 9 → decimal d ≡ (48 + d) ∷ []
code_one d h = decimal_one d (omega arith)

code_more : (a d : ℕ) → 0 < a → d ≤ 9 → decimal (10 * a + d) ≡ decimal a ++ (48 + d) ∷ []
code_more a d p h =
    let e : (10 * a + d) / 10 ≡ a = omega arith in
    let f : (10 * a + d) % 10 ≡ d = omega arith in
    decimal_more (10 * a + d) (omega arith) ∙ ap₂ (λ (x y : ℕ). decimal x ++ (48 + y) ∷ []) e f

assoc4 : (a b c d : List ℕ) → a ++ (b ++ (c ++ d)) ≡ (a ++ (b ++ c)) ++ d
assoc4 a b c d = simp append_assoc

module _ (depth total : ℕ) (ar : List Expr) (own : Expr) (pre : List ℕ) (b left : ℕ) where
  -- where a term may begin
  module _ (h : behind ar ++ (text own ++ gap own) ≡ pre) (o : Open depth total ar own left) where
    begins_kept : {full : Bool} (d : ℕ) → b ≡ 48 + d → d ≤ 9 → IsCode d → full ≡ false
        → Kept (number d) depth (suc total) ar own (pre ++ b ∷ [])
    begins_kept d e g l n = record {
      left = left;
      bytes =
          ap (λ (t : List ℕ). behind ar ++ t)
          (text_code own d
          ∙ ap (λ (t : List ℕ). text own ++ (gap own ++ t)) (code_one d g ∙ ap (λ (x : ℕ). x ∷ []) (sym e)))
          ∙ (assoc4 (behind ar) (text own) (gap own) (b ∷ []) ∙ ap (λ (t : List ℕ). t ++ b ∷ []) h);
      shape = l;
      level = o.level;
      stack = o.stack;
      deep = o.deep;
      many = omega (arith, o.many, all_terms_append own (symbol d nothing));
    }

    opens_at : (n : ℕ) → left ≡ suc n → b ≡ 40 → Kept begun (suc depth) (suc total) (own ∷ ar) nothing (pre ++ b ∷ [])
    opens_at n f e = record {
      left = n;
      bytes =
          append-nil (behind ar ++ (text own ++ (gap own ++ 40 ∷ [])))
          ∙ (ap (λ (x : ℕ). behind ar ++ (text own ++ (gap own ++ x ∷ []))) (sym e)
          ∙ (assoc4 (behind ar) (text own) (gap own) (b ∷ []) ∙ ap (λ (t : List ℕ). t ++ b ∷ []) h));
      shape = refl;
      level = tt;
      stack = (subst (λ (x : ℕ). Readable x own) f o.level, subst (λ (x : ℕ). Stack x ar) f o.stack);
      deep = omega (arith, o.deep, f);
      many = omega (arith, o.many);
    }

    opens_kept : {full : Bool} → b ≡ 40 → depth < depth_limit → full ≡ false
        → Kept begun (suc depth) (suc total) (own ∷ ar) nothing (pre ++ b ∷ [])
    opens_kept e l n = let f : left ≡ suc (left - 1) = omega (arith, o.deep) in opens_at (left - 1) f e

  -- where a term has ended: own is the expression so far
  parts_kept : behind ar ++ text own ≡ pre → Open depth total ar own left → 0 < terms own → b ≡ 32
      → Kept spaced depth total ar own (pre ++ b ∷ [])
  parts_kept h o g e = record {
    left = left;
    bytes =
        sym (append_assoc (behind ar) (text own) (32 ∷ []))
        ∙ ap₂ (λ (t : List ℕ) (x : ℕ). t ++ x ∷ []) h (sym e);
    shape = g;
    level = o.level;
    stack = o.stack;
    deep = o.deep;
    many = o.many;
  }

pub closed_bytes : (ps : List Expr) (p f : Expr)
    → behind ps ++ text (append p (parens f nothing)) ≡ (behind (p ∷ ps) ++ text f) ++ 41 ∷ []
closed_bytes ps p f = rw (text_after p (parens f nothing) (omega arith)) (simp append_assoc)

closes_kept : (depth total : ℕ) (ar : List Expr) (f : Expr) (pre : List ℕ) (b left : ℕ) → behind ar ++ text f ≡ pre
    → Open depth total ar f left → b ≡ 41 → 0 < depth
    → Kept closed (depth - 1) total (shut_around ar) (shut_own ar f) (pre ++ b ∷ [])
closes_kept depth total [] f pre b left h o e l = absurd (omega (arith, o.deep, o.stack))
closes_kept depth total (p ∷ ps) f pre b left h o e l = record {
  left = suc left;
  bytes = closed_bytes ps p f ∙ ap₂ (λ (t : List ℕ) (x : ℕ). t ++ x ∷ []) h (sym e);
  shape = omega (arith, terms_append p (parens f nothing));
  level = readable_append (suc left) p (parens f nothing) o.stack.0 (o.level, tt);
  stack = o.stack.1;
  deep = omega (arith, o.deep);
  many = omega (arith, o.many, all_terms_append p (parens f nothing));
}

module _ (r : Draft) (pre : List ℕ) (b : ℕ) where
  abbrev d : ℕ
  d = r.place.depth

  abbrev n : ℕ
  n = r.place.total

  abbrev ar : List Expr
  ar = r.around

  abbrev own : Expr
  own = r.own

  -- the draft, standing elsewhere
  abbrev standing : Stand → Draft
  standing s = record { place = reader s r.place.offset d n; around = ar; own = own }

  After : Stand → Move → Type 0
  After s m = InvOf (takes m (standing s)) (pre ++ b ∷ [])

  stop : (s : Stand) (t : ℕ) → After s (stops t)
  unfolding After
  stop s t = tt

  -- a digit more
  grows_kept : (a : ℕ) → Kept (number a) d n ar own pre → (x : ℕ) → b ≡ 48 + x → x ≤ 9 → IsCode (10 * a + x)
      → Kept (number (10 * a + x)) d n ar own (pre ++ b ∷ [])
  grows_kept a k x c g l = record {
    left = k.left;
    bytes =
        ap (λ (t : List ℕ). behind ar ++ t)
        (text_code own (10 * a + x)
        ∙ ap (λ (t : List ℕ). text own ++ (gap own ++ t))
        (code_more a x (code_range a k.shape).0 g ∙ ap (λ (y : ℕ). decimal a ++ y ∷ []) (sym c)))
        ∙ ((simp append_assoc (ap (λ (t : List ℕ). behind ar ++ t) refl))
        ∙ ap (λ (t : List ℕ). t ++ b ∷ []) (ap (λ (t : List ℕ). behind ar ++ t) (sym (text_code own a)) ∙ k.bytes));
    shape = l;
    level = k.level;
    stack = k.stack;
    deep = k.deep;
    many =
        k.many
        ∙ ap (λ (z : ℕ). z + sizes ar)
        (all_terms_append own (symbol a nothing) ∙ sym (all_terms_append own (symbol (10 * a + x) nothing)));
  }

  judged_kept : (full : Bool) (s : Stand) → Inv s d n ar own pre → After s (judge s d full b)
  unfolding After
  judged_kept full begun k =
      let h : behind ar ++ (text own ++ gap own) ≡ pre = rw k.shape (rw k.shape at k.bytes) in
      let o = so_far begun d n ar own pre k in
      either (After begun) (eqb b 41)
      (λ e. later_cases (After begun) b (stop begun) d (closes_kept d n ar own pre b k.left k.bytes o)
      (λ c. absurd (omega (arith, eqb-true b 41 e, c))))
      (λ e. first_cases (After begun) b (stop begun) d full
      (begins_kept d n ar own pre b k.left h o) (opens_kept d n ar own pre b k.left h o))
  judged_kept full spaced k =
      let h : behind ar ++ (text own ++ gap own) ≡ pre = rw (gap_filled own k.shape) k.bytes in
      let o = so_far spaced d n ar own pre k in
      first_cases (After spaced) b (stop spaced) d full
      (begins_kept d n ar own pre b k.left h o) (opens_kept d n ar own pre b k.left h o)
  judged_kept full (number a) k =
      let f = append own (symbol a nothing) in
      let o = so_far (number a) d n ar own pre k in
      more_cases (After (number a)) b (stop (number a)) a d (grows_kept a k)
      (closes_kept d n ar f pre b k.left k.bytes o)
      (parts_kept d n ar f pre b k.left k.bytes o (omega (arith, terms_append own (symbol a nothing))))
  judged_kept full closed k =
      let o = so_far closed d n ar own pre k in
      later_cases (After closed) b (stop closed) d (closes_kept d n ar own pre b k.left k.bytes o)
      (parts_kept d n ar own pre b k.left k.bytes o k.shape)
  judged_kept full (stopped s) k = tt

  read_inv : InvOf r pre → InvOf (read b r) (pre ++ b ∷ [])
  unfolding After read
  read_inv k = judged_kept (is_full r.place) r.place.stand k

reads_inv : (bs : List ℕ) (r : Draft) (pre : List ℕ) → InvOf r pre → InvOf (reads r bs) (pre ++ bs)
reads_inv [] r pre k = rw (append-nil pre) k
reads_inv (b ∷ bs) r pre k =
    subst (λ (t : List ℕ). InvOf (reads (read b r) bs) t) (append_assoc pre (b ∷ []) bs)
    (reads_inv bs (read b r) (pre ++ b ∷ []) (read_inv r pre b k))

blank_inv : InvOf blank []
unfolding blank at_start
blank_inv = record {
  left = depth_limit;
  bytes = refl;
  shape = refl;
  level = tt;
  stack = refl;
  deep = omega arith;
  many = refl;
}

pub bytes_inv : (bs : List ℕ) → InvOf (reads blank bs) bs
bytes_inv bs = reads_inv bs blank [] blank_inv
