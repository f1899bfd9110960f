-- A text read, a byte at a time (SCOPE 5.8): where it stops, or that it is whole, and the expression that it denotes.
-- Assumes nothing.
use Rattle.std.specs.Prelude.{Bool, true, false, ◌&&◌, List, [], ◌∷◌, ℕ, suc, ◌-◌, leb, eqb}
use Rattle.meaning.specs.Limits.{terms_limit}
use Rattle.meaning.specs.Expr.{Expr, nothing, symbol, parens, append}
use Rattle.meaning.specs.Verdicts.{Verdict, valued}
use Rattle.meaning.specs.Judge.{Stand, begun, spaced, number, closed, stopped}
use Rattle.meaning.specs.Judge.{Move, stops, begins, grows, opens, closes, parts, judge}

-- ---- how far it is read

-- where the reader stands, the offset of the next byte or of the one that stopped it, the brackets that are open, and
-- the terms begun on all levels
pub record Reader : Type 0 where
  pub stand : Stand
  pub offset : ℕ
  pub depth : ℕ
  pub total : ℕ

abbrev pub reader : Stand → ℕ → ℕ → ℕ → Reader
reader s at depth n = record { stand = s; offset = at; depth = depth; total = n }

abbrev pub moved : Move → Reader → Reader
moved (stops s) r = reader (stopped s) r.offset r.depth r.total
moved (begins a) r = reader (number a) (suc r.offset) r.depth (suc r.total)
moved (grows a) r = reader (number a) (suc r.offset) r.depth r.total
moved opens r = reader begun (suc r.offset) (suc r.depth) (suc r.total)
moved closes r = reader closed (suc r.offset) (r.depth - 1) r.total
moved parts r = reader spaced (suc r.offset) r.depth r.total

-- as many terms have begun as a text may have
unfoldable pub is_full : Reader → Bool
is_full r = leb terms_limit r.total

unfoldable pub advance : ℕ → Reader → Reader
advance b r = moved (judge r.stand r.depth (is_full r) b) r

abbrev pub advances : Reader → List ℕ → Reader
advances r [] = r
advances r (b ∷ bs) = advances (advance b r) bs

unfoldable pub at_start : Reader
at_start = reader begun 0 0 0

-- a text may end where the reader stands, with no bracket open
abbrev pub may_end : Stand → Bool
may_end begun = true
may_end spaced = false
may_end (number a) = true
may_end closed = true
may_end (stopped s) = false

unfoldable pub is_whole : Reader → Bool
is_whole r = may_end r.stand && eqb r.depth 0

-- a text's refusal: that of the byte that stopped it, or 23 at the length where it ends too soon
abbrev pub stop_status : Stand → ℕ
stop_status begun = 23
stop_status spaced = 23
stop_status (number a) = 23
stop_status closed = 23
stop_status (stopped s) = s

unfoldable pub stop_verdict : Reader → Verdict
stop_verdict r = valued (stop_status r.stand) r.offset

-- ---- what it denotes: the reader, with the expressions that stand open

-- the expressions around the innermost open one, innermost first; and that one, as far as its terms are whole
pub record Draft : Type 0 where
  pub place : Reader
  pub around : List Expr
  pub own : Expr

-- a code ends where the next byte is none of its digits
abbrev pub ended : Stand → Expr → Expr
ended begun e = e
ended spaced e = e
ended (number a) e = append e (symbol a nothing)
ended closed e = e
ended (stopped s) e = e

abbrev pub expression : Draft → Expr
expression r = ended r.place.stand r.own

-- a bracket closes: it is the next term of the expression around it
abbrev pub shut_own : List Expr → Expr → Expr
shut_own [] e = e
shut_own (p ∷ ps) e = append p (parens e nothing)

abbrev pub shut_around : List Expr → List Expr
shut_around [] = []
shut_around (p ∷ ps) = ps

abbrev pub around_after : Move → Draft → List Expr
around_after (stops s) r = r.around
around_after (begins a) r = r.around
around_after (grows a) r = r.around
around_after opens r = r.own ∷ r.around
around_after closes r = shut_around r.around
around_after parts r = r.around

abbrev pub own_after : Move → Draft → Expr
own_after (stops s) r = r.own
own_after (begins a) r = r.own
own_after (grows a) r = r.own
own_after opens r = nothing
own_after closes r = shut_own r.around (expression r)
own_after parts r = expression r

abbrev pub takes : Move → Draft → Draft
takes m r = record { place = moved m r.place; around = around_after m r; own = own_after m r }

unfoldable pub read : ℕ → Draft → Draft
read b r = takes (judge r.place.stand r.place.depth (is_full r.place) b) r

abbrev pub reads : Draft → List ℕ → Draft
reads r [] = r
reads r (b ∷ bs) = reads (read b r) bs

unfoldable pub blank : Draft
blank = record { place = at_start; around = []; own = nothing }
