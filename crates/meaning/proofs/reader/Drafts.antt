-- What a draft is of the bytes read so far. As long as it is not stopped they are its text: that of the expressions
-- around, each up to its open bracket, then that of the innermost one, up to where the reader stands. In order:
--   behind, own_bytes         the bytes of a draft, around the innermost expression and in it
--   Shape, Stack, sizes      what is open by where the reader stands, the expressions around, and their terms
--   Open, Kept, Inv, InvOf   what is kept, byte by byte (Keeping)
--   so_far                   what a draft means, where its code ends
-- Assumes nothing.
use mathlib.Core.Path.{◌≡◌}
use mathlib.Core.List.{List, [], ◌∷◌, ◌++◌}
use Prim.Native.Nat.{ℕ, suc, ◌+◌, ◌<◌}
use Rattle.meaning.specs.Limits.{depth_limit}
use Rattle.meaning.specs.Expr.{Expr, nothing, symbol, append, terms}
use Rattle.meaning.specs.Sound.{IsCode}
use Rattle.meaning.specs.Lay.{all_terms}
use Rattle.meaning.specs.Text.{gap, text, Readable}
use Rattle.meaning.specs.Judge.{Stand, begun, spaced, number, closed, stopped}
use Rattle.meaning.specs.Reader.{Draft, ended}
use Rattle.meaning.proofs.text.Texts.{readable_append}

-- the text up to the innermost open expression
abbrev pub behind : List Expr → List ℕ
behind [] = []
behind (p ∷ ps) = behind ps ++ (text p ++ (gap p ++ 40 ∷ []))

-- and of that one, up to where the reader stands
abbrev pub own_bytes : Stand → Expr → List ℕ
own_bytes begun e = text e
own_bytes spaced e = text e ++ 32 ∷ []
own_bytes (number a) e = text (append e (symbol a nothing))
own_bytes closed e = text e
own_bytes (stopped s) e = []

-- what is open, by where the reader stands
abbrev pub Shape : Stand → Expr → Type 0
Shape begun e = e ≡ nothing
Shape spaced e = 0 < terms e
Shape (number a) e = IsCode a
Shape closed e = 0 < terms e
Shape (stopped s) e = ⊥

-- the expressions around may be read, each one bracket less deep
abbrev pub Stack : ℕ → List Expr → Type 0
Stack left [] = left ≡ depth_limit
Stack left (p ∷ ps) = Readable (suc left) p × Stack (suc left) ps

-- the terms of the expressions around, each with the bracket that stands open in it
abbrev pub sizes : List Expr → ℕ
sizes [] = 0
sizes (p ∷ ps) = suc (all_terms p + sizes ps)

-- the expression f within those around it, with `left` more brackets that may be open
pub record Open (depth total : ℕ) (ar : List Expr) (f : Expr) (left : ℕ) : Type 0 where
  pub level : Readable left f
  pub stack : Stack left ar
  pub deep : depth + left ≡ depth_limit
  pub many : total ≡ all_terms f + sizes ar

pub record Kept (s : Stand) (depth total : ℕ) (ar : List Expr) (own : Expr) (pre : List ℕ) : Type 0 where
  pub left : ℕ
  pub bytes : behind ar ++ own_bytes s own ≡ pre
  pub shape : Shape s own
  pub level : Readable left own
  pub stack : Stack left ar
  pub deep : depth + left ≡ depth_limit
  pub many : total ≡ all_terms (ended s own) + sizes ar

-- once stopped, nothing is said
abbrev pub Inv : Stand → ℕ → ℕ → List Expr → Expr → List ℕ → Type 0
Inv begun d n ar own pre = Kept begun d n ar own pre
Inv spaced d n ar own pre = Kept spaced d n ar own pre
Inv (number a) d n ar own pre = Kept (number a) d n ar own pre
Inv closed d n ar own pre = Kept closed d n ar own pre
Inv (stopped s) d n ar own pre = Unit {0}

abbrev pub InvOf : Draft → List ℕ → Type 0
InvOf r pre = Inv r.place.stand r.place.depth r.place.total r.around r.own pre

-- what the innermost expression is, where its code ends
level_ended : (left : ℕ) (s : Stand) (own : Expr) → Shape s own → Readable left own → Readable left (ended s own)
level_ended left begun own h l = l
level_ended left spaced own h l = l
level_ended left (number a) own h l = readable_append left own (symbol a nothing) l (h, tt)
level_ended left closed own h l = l
level_ended left (stopped s) own h l = absurd h

module _ (s : Stand) (depth total : ℕ) (ar : List Expr) (own : Expr) (pre : List ℕ) where
  pub so_far : (k : Kept s depth total ar own pre) → Open depth total ar (ended s own) k.left
  so_far k = record {
    level = level_ended k.left s own k.shape k.level;
    stack = k.stack;
    deep = k.deep;
    many = k.many;
  }
