-- What a call does, in expressions: the table of SCOPE 4.1, and the order of 4.5. `e` has the expression that
-- each register denotes before the call, `fs` what else it may depend on. Assumes nothing.
use Rattle.std.specs.Prelude.{Bool, true, false, cond, List, ℕ, zero, suc, eqb}
use Rattle.meaning.specs.Expr.{Expr, nothing, symbol, parens, append, terms, first_term, less_first, opened}
use Rattle.meaning.specs.Expr.{first_code}
use Rattle.meaning.specs.Meaning.{meaning}
use Rattle.meaning.specs.Reach.{live}
use Rattle.meaning.specs.Operands.{Op, CLEAR, COPY, SYMBOL, WRAP, JOIN, HEAD, REST, OPEN, LENGTH, FIRST, LIVE}
use Rattle.meaning.specs.Operands.{COLLECT, op_at}
use Rattle.meaning.specs.Lay.{all_terms}
use Rattle.meaning.specs.Call.{join_need, sought_by}

-- what a call may depend on beside the expressions: live
pub record Facts : Type 0 where
  pub live : ℕ

abbrev pub facts : ℕ → List ℕ → ℕ → Facts
facts F ws top = record { live = live F ws top }

-- what is wrong with the expression that the call looks at (14, 15 or 0); the registers when it is done; its value;
-- the new cells that it needs; whether it collects without need
pub record Effect : Type 0 where
  pub unfit : ℕ
  pub registers : ℕ → Expr
  pub value : ℕ
  pub need : ℕ
  pub collects : Bool

-- register d becomes x
unfoldable pub becomes : (ℕ → Expr) → ℕ → Expr → ℕ → Expr
becomes e d x i = cond (eqb i d) x (e i)

abbrev pub sets : ℕ → (ℕ → Expr) → ℕ → Expr → ℕ → Effect
sets u e d x n = record { unfit = u; registers = becomes e d x; value = 0; need = n; collects = false }

-- no register changes
abbrev pub tells : ℕ → (ℕ → Expr) → ℕ → Bool → Effect
tells u e v c = record { unfit = u; registers = e; value = v; need = 0; collects = c }

-- 14 on an empty register; for OPEN also 15 on a symbol, for FIRST 15 on a bracket
abbrev pub on_empty : Expr → ℕ
on_empty nothing = 14
on_empty (symbol s r) = 0
on_empty (parens i r) = 0

abbrev pub on_open : Expr → ℕ
on_open nothing = 14
on_open (symbol s r) = 15
on_open (parens i r) = 0

abbrev pub on_first : Expr → ℕ
on_first nothing = 14
on_first (symbol s r) = 0
on_first (parens i r) = 15

abbrev pub does : Op → (ℕ → Expr) → Facts → ℕ → ℕ → ℕ → Effect
does CLEAR e fs d a b = sets 0 e d nothing 0
does COPY e fs d a b = sets 0 e d (e a) 0
does SYMBOL e fs d a b = sets 0 e d (symbol a nothing) 1
does WRAP e fs d a b = sets 0 e d (parens (e a) nothing) 1
does JOIN e fs d a b = sets 0 e d (append (e a) (e b)) (join_need (terms (e a)) (terms (e b)))
does HEAD e fs d a b = sets (on_empty (e a)) e d (first_term (e a)) 0
does REST e fs d a b = sets (on_empty (e a)) e d (less_first (e a)) 0
does OPEN e fs d a b = sets (on_open (e a)) e d (opened (e a)) 0
does LENGTH e fs d a b = tells 0 e (terms (e a)) false
does FIRST e fs d a b = tells (on_first (e a)) e (first_code (e a)) false
does LIVE e fs d a b = tells 0 e fs.live false
does COLLECT e fs d a b = tells 0 e fs.live true

-- the call o d a b on a store with its `top`: what it does; and live as it counts for the call's room, which is what is
-- reached in the store in which it seeks room
abbrev pub effect : ℕ → List ℕ → ℕ → ℕ → ℕ → ℕ → ℕ → Effect
effect F ws top o d a b = does (op_at o) (meaning ws) (facts F ws top) d a b

abbrev pub live_for_room : ℕ → List ℕ → ℕ → ℕ → ℕ → ℕ → ℕ → ℕ
live_for_room F ws top o d a b = live F (sought_by (op_at o) d a b ws) top

-- a text that denotes x typed into register d: a new cell a term
abbrev pub typing : (ℕ → Expr) → ℕ → Expr → Effect
typing e d x = sets 0 e d x (all_terms x)

-- the first that applies, of two statuses
abbrev pub or_else : ℕ → ℕ → ℕ
or_else zero t = t
or_else (suc f) t = suc f

-- The status of a call: f, 10 to 13 by its own words, then 14 or 15 by its expression, then 16 if it lacks room,
-- else 0.
unfoldable pub call_status : ℕ → Effect → Bool → ℕ
call_status f x lacking = or_else f (or_else x.unfit (cond lacking 16 0))

-- the registers and the value after a call, by its status: a refused call changes no expression and has value 0
abbrev pub after : ℕ → Effect → (ℕ → Expr) → ℕ → Expr
after zero x e = x.registers
after (suc s) x e = e

abbrev pub answer : ℕ → Effect → ℕ
answer zero x = x.value
answer (suc s) x = 0
