-- A text that is read whole is the text of what it is read as. In order:
--   TextOf         the bytes are the text of an expression that may be read, with so many terms
--   text_of_read   so they are where the reader may end
--   reads_place    the reader of a draft goes its own way
-- Assumes nothing.
use mathlib.Core.Path.{◌≡◌, refl, ap, ◌∙◌, subst}
use mathlib.Core.Bool.{true, false≢true}
use mathlib.Core.List.{List, [], ◌∷◌, ◌++◌}
use Prim.Native.Nat.{ℕ, suc, ◌+◌}
use native.Mathlib.Omega.{arith}
use lib.Dec.{eqb}
use lib.ListN.{length}
use borrow.Author.Tests.{eqb-true}
use Rattle.meaning.specs.Limits.{depth_limit}
use Rattle.meaning.specs.Expr.{Expr, nothing, symbol, append}
use Rattle.meaning.specs.Lay.{all_terms}
use Rattle.meaning.specs.Text.{text, Readable}
use Rattle.meaning.specs.Judge.{Stand, begun, spaced, number, closed, stopped}
use Rattle.meaning.specs.Reader.{advance, advances, may_end, is_whole, Draft, ended, expression, read, reads, blank}
use Rattle.meaning.proofs.Counting.{both_true}
use Rattle.meaning.proofs.reader.Drafts.{behind, Stack, sizes, Open, Inv, so_far}
use Rattle.meaning.proofs.reader.Keeping.{bytes_inv}

stack_long : (left : ℕ) (ar : List Expr) → Stack left ar → left + length ar ≡ depth_limit
stack_long left [] h = omega (arith, h)
stack_long left (p ∷ ps) h = omega (arith, stack_long (suc left) ps h.1)

stack_none : (left : ℕ) (ar : List Expr) → Stack left ar → left ≡ depth_limit → ar ≡ []
stack_none left [] h e = refl
stack_none left (p ∷ ps) h e = absurd (omega (arith, stack_long left (p ∷ ps) h))

pub record TextOf (e : Expr) (total : ℕ) (bs : List ℕ) : Type 0 where
  pub readable : Readable depth_limit e
  pub bytes : text e ≡ bs
  pub need : total ≡ all_terms e

-- with no bracket open
ends_with : (left depth total : ℕ) (ar : List Expr) (f : Expr) (bs : List ℕ) → behind ar ++ text f ≡ bs
    → Open depth total ar f left → depth ≡ 0 → TextOf f total bs
ends_with left depth total ar f bs h o e =
    let l : left ≡ depth_limit = omega (arith, o.deep) in
    let n = stack_none left ar o.stack l in
    record {
      readable = subst (λ (x : ℕ). Readable x f) l o.level;
      bytes = rw n at h;
      need = o.many ∙ (ap (λ (x : List Expr). all_terms f + sizes x) n ∙ plus_none (all_terms f));
    }
  where
    plus_none : (x : ℕ) → x + 0 ≡ x
    plus_none x = omega arith

finish : (s : Stand) (depth total : ℕ) (ar : List Expr) (own : Expr) (bs : List ℕ) → Inv s depth total ar own bs
    → may_end s ≡ true → depth ≡ 0 → TextOf (ended s own) total bs
finish begun depth total ar own bs k w e =
    ends_with k.left depth total ar own bs k.bytes (so_far begun depth total ar own bs k) e
finish spaced depth total ar own bs k w e = absurd (false≢true w)
finish (number a) depth total ar own bs k w e =
    ends_with k.left depth total ar (append own (symbol a nothing)) bs k.bytes
    (so_far (number a) depth total ar own bs k) e
finish closed depth total ar own bs k w e =
    ends_with k.left depth total ar own bs k.bytes (so_far closed depth total ar own bs k) e
finish (stopped s) depth total ar own bs k w e = absurd (false≢true w)

pub text_of_read : (bs : List ℕ) → is_whole (reads blank bs).place ≡ true
    → TextOf (expression (reads blank bs)) (reads blank bs).place.total bs
unfolding is_whole
text_of_read bs w =
    let r = reads blank bs in
    let q = both_true (may_end r.place.stand) (eqb r.place.depth 0) w in
    finish r.place.stand r.place.depth r.place.total r.around r.own bs (bytes_inv bs) q.0
    (eqb-true r.place.depth 0 q.1)

pub reads_place : (bs : List ℕ) (r : Draft) → (reads r bs).place ≡ advances r.place bs
unfolding read advance
reads_place [] r = refl
reads_place (b ∷ bs) r = reads_place bs (read b r)
