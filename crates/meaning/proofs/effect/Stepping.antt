-- Each call without new cells does to the expressions what the table says, with the status and the value that it says.
-- In order:
--   wrapped                                a bracket's term is what is inside it, in parentheses
--   size_terms                             the number of terms of a register is its size
--   clear_acts, copy_acts                  CLEAR and COPY
--   head_at, rest_at, open_at, code_at     HEAD, REST, OPEN and FIRST, by the register's cell
--   length_acts, live_acts, collect_acts   LENGTH, LIVE and COLLECT
--   unfit_small                            the status of what is wrong with an expression is at most 15
-- Assumes nothing.
use mathlib.Core.Path.{◌≡◌, refl, sym, ap, ◌∙◌}
use mathlib.Core.Bool.{Bool, true, false, cond}
use mathlib.Core.List.{List}
use Prim.Native.Nat.{ℕ, zero, suc, ◌+◌, ◌-◌, ◌≤◌, ◌<◌}
use native.Mathlib.Nat.{le_refl, le_trans, suc-sub-suc}
use native.Mathlib.Omega.{arith}
use lib.Dec.{ltb}
use borrow.Author.Tests.{ltb-true, ltb-false}
use Rattle.meaning.specs.Expr.{Expr, nothing, symbol, parens, append, terms, first_term, less_first, opened}
use Rattle.meaning.specs.Expr.{first_code}
use Rattle.meaning.specs.Sound.{Cell, code, empty, ends, at, Sound, size}
use Rattle.meaning.specs.Meaning.{run, inside, term_of, meaning, term_at}
use Rattle.meaning.specs.Verdicts.{done, refused, only}
use Rattle.meaning.specs.Operands.{Op, CLEAR, COPY, SYMBOL, WRAP, JOIN, HEAD, REST, OPEN, LENGTH, FIRST, LIVE}
use Rattle.meaning.specs.Operands.{COLLECT}
use Rattle.meaning.specs.Actions.{put, head, rest, open_term, open_first, code_term, code_first, share}
use Rattle.meaning.specs.Effect.{Facts, Effect, sets, tells, does, on_empty, on_open, on_first}
use Rattle.meaning.proofs.sound.Cells.{TermIn, BracketIn, good}
use Rattle.meaning.proofs.meaning.Terms.{append_nothing, terms_append}
use Rattle.meaning.proofs.actions.Writing.{copy_put, term_law}
use Rattle.meaning.proofs.effect.Effects.{Denote, Acts, meaning_at, set_acts, refuse_acts, tell_acts}

-- ---- one term in front

terms_one : (t : ℕ → Expr) (b : Cell) → terms (term_of t b) ≡ 1
terms_one t (code a) = refl
terms_one t empty = refl
terms_one t (ends l r) = refl

first_front : (t : ℕ → Expr) (b : Cell) (x : Expr) → first_term (append (term_of t b) x) ≡ term_of t b
first_front t (code a) x = refl
first_front t empty x = refl
first_front t (ends l r) x = refl

less_front : (t : ℕ → Expr) (b : Cell) (x : Expr) → less_first (append (term_of t b) x) ≡ x
less_front t (code a) x = refl
less_front t empty x = refl
less_front t (ends l r) x = refl

empty_front : (t : ℕ → Expr) (b : Cell) (x : Expr) → on_empty (append (term_of t b) x) ≡ 0
empty_front t (code a) x = refl
empty_front t empty x = refl
empty_front t (ends l r) x = refl

pub wrapped : (t : ℕ → Expr) (F lim : ℕ) (b : Cell) → BracketIn F lim b → term_of t b ≡ parens (inside t b) nothing
wrapped t F lim (code a) h = absurd h
wrapped t F lim empty h = refl
wrapped t F lim (ends l r) h = refl

-- ---- a sound store

module _ (F : ℕ) (ws : List ℕ) (top : ℕ) (p : 0 < F) (s : Sound F ws top) where
  abbrev T : ℕ → Expr
  T = term_at ws

  front : (l r : ℕ) → F ≤ l → l ≤ r → r < top
      → run T l (suc r - l) ≡ append (term_of T (at ws l)) (run T (suc l) (r - l))
  front l r f h g =
      let e : suc r - l ≡ suc (r - l) = omega arith in
      rw e (ap (λ (x : Expr). append x (run T (suc l) (r - l))) (term_law F ws top p s l f (omega arith)))

  terms_run : (l n : ℕ) → F ≤ l → l + n ≤ top → terms (run T l n) ≡ n
  terms_run l zero f h = refl
  terms_run l (suc n) f h =
      terms_append (T l) (run T (suc l) n)
      ∙ omega (
        arith,
        terms_run (suc l) n (omega arith) (omega arith),
        ap terms (term_law F ws top p s l f (omega arith)),
        terms_one T (at ws l),
      )

  size_inside : (b : Cell) → BracketIn F top b → terms (inside T b) ≡ size b
  size_inside (code a) t = absurd t
  size_inside empty t = refl
  size_inside (ends l r) t = terms_run l (suc r - l) t.0 (omega (arith, t.1, t.2))

  -- the number of terms of a register is its size
  pub size_terms : (a : ℕ) → a < F → size (at ws a) ≡ terms (meaning ws a)
  unfolding meaning
  size_terms a h = sym (size_inside (at ws a) ((good F ws top p s).regs a h))

module _ (F : ℕ) (p : 0 < F) (e : ℕ → Expr) (fs : Facts) (ws : List ℕ) (top : ℕ) (s : Sound F ws top) (d : ℕ)
    (m : Denote F ws e) where
  -- d is set, the call refused, or no register changed
  set : (u : ℕ) → u ≡ 0 → d < F → (k : Cell) → BracketIn F top k → (x : Expr) → inside (T F ws top p s) k ≡ x
      → Acts F e (sets u e d x 0) 0 ws top (done (put ws d k) top 0)
  set u z = set_acts F p e ws top s u 0 d z (λ i l g. m i l)

  refuse : (x : Effect) (u : ℕ) → x.unfit ≡ suc u → Acts F e x 0 ws top (refused ws top (only (suc u)))
  refuse = refuse_acts F p e ws top s m

  tell : (u v w : ℕ) (c : Bool) → u ≡ 0 → v ≡ w → Acts F e (tells u e v c) 0 ws top (done ws top w)
  tell = tell_acts F p e ws top s m

  held : (a : ℕ) → a < F → e a ≡ inside (T F ws top p s) (at ws a)
  held a h = sym (m a h) ∙ meaning_at F ws top p s a

  pub clear_acts : (a b : ℕ) → d < F → Acts F e (does CLEAR e fs d a b) 0 ws top (done (put ws d empty) top 0)
  clear_acts a b l = set 0 refl l empty tt nothing refl

  pub copy_acts : (a b : ℕ) → d < F → a < F → Acts F e (does COPY e fs d a b) 0 ws top (share d a ws top)
  unfolding share
  copy_acts a b l h =
      rw (copy_put F ws top d a p s (le_trans h s.low))
      (set 0 refl l (at ws a) ((good F ws top p s).regs a h) (e a) (sym (held a h)))

  -- ---- by the register's cell k

  -- the expression of a register that is not empty
  front_at : (a l r : ℕ) → BracketIn F top (ends l r) → e a ≡ inside (T F ws top p s) (ends l r)
      → e a ≡ append (term_of (T F ws top p s) (at ws l)) (run (T F ws top p s) (suc l) (r - l))
  front_at a l r t q = q ∙ front F ws top p s l r t.0 t.1 t.2

  pub head_at : (a b : ℕ) → d < F → (k : Cell) → BracketIn F top k → e a ≡ inside (T F ws top p s) k
      → Acts F e (does HEAD e fs d a b) 0 ws top (head ws top d k)
  unfolding head
  head_at a b h (code c) t q = absurd t
  head_at a b h empty t q = refuse (does HEAD e fs d a b) 13 (rw q refl)
  head_at a b h (ends l r) t q =
      let f = front_at a l r t q in
      let one : suc l - l ≡ 1 = omega arith in
      set (on_empty (e a)) (rw (f, empty_front (T F ws top p s) (at ws l) (run (T F ws top p s) (suc l) (r - l))) refl)
      h
      (ends l l) (t.0, le_refl l, omega (arith, t.1, t.2)) (first_term (e a))
      (rw (one, f, first_front (T F ws top p s) (at ws l) (run (T F ws top p s) (suc l) (r - l)))
      (append_nothing (T F ws top p s l) ∙ term_law F ws top p s l t.0 (omega (arith, t.1, t.2))))

  rest_cell : (l r : ℕ) → BracketIn F top (ends l r)
      → BracketIn F top (cond (ltb l r) (ends (suc l) r) empty) ×
      (inside (T F ws top p s) (cond (ltb l r) (ends (suc l) r) empty) ≡ run (T F ws top p s) (suc l) (r - l))
  rest_cell l r t = go (ltb l r) refl
    where
      go : (u : Bool) → ltb l r ≡ u
          → BracketIn F top (cond u (ends (suc l) r) empty) ×
          (inside (T F ws top p s) (cond u (ends (suc l) r) empty) ≡ run (T F ws top p s) (suc l) (r - l))
      go true v = ((omega (arith, t.0), ltb-true l r v, t.2), rw (suc-sub-suc r l) refl)
      go false v = let z : r - l ≡ 0 = omega (arith, ltb-false l r v) in (tt, rw z refl)

  pub rest_at : (a b : ℕ) → d < F → (k : Cell) → BracketIn F top k → e a ≡ inside (T F ws top p s) k
      → Acts F e (does REST e fs d a b) 0 ws top (rest ws top d k)
  unfolding rest
  rest_at a b h (code c) t q = absurd t
  rest_at a b h empty t q = refuse (does REST e fs d a b) 13 (rw q refl)
  rest_at a b h (ends l r) t q =
      let f = front_at a l r t q in
      let c = rest_cell l r t in
      set (on_empty (e a)) (rw (f, empty_front (T F ws top p s) (at ws l) (run (T F ws top p s) (suc l) (r - l))) refl)
      h
      (cond (ltb l r) (ends (suc l) r) empty) c.0 (less_first (e a))
      (c.1 ∙ rw (f, less_front (T F ws top p s) (at ws l) (run (T F ws top p s) (suc l) (r - l))) refl)

  open_term_lem : (a b x : ℕ) → d < F → F ≤ x → x < top → (k : Cell) (y : Expr) → TermIn F x k → at ws x ≡ k
      → e a ≡ append (term_of (T F ws top p s) k) y → Acts F e (does OPEN e fs d a b) 0 ws top (open_term ws top d x k)
  unfolding open_term
  open_term_lem a b x h f g (code c) y t w q = refuse (does OPEN e fs d a b) 14 (rw q refl)
  open_term_lem a b x h f g empty y t w q =
      rw (copy_put F ws top d x p s g, w)
      (set (on_open (e a)) (rw q refl) h empty tt (opened (e a)) (rw q refl))
  open_term_lem a b x h f g (ends l r) y t w q =
      rw (copy_put F ws top d x p s g, w)
      (set (on_open (e a)) (rw q refl) h (ends l r) (t.0, t.1, omega (arith, t.2)) (opened (e a)) (rw q refl))

  pub open_at : (a b : ℕ) → d < F → (k : Cell) → BracketIn F top k → e a ≡ inside (T F ws top p s) k
      → Acts F e (does OPEN e fs d a b) 0 ws top (open_first ws top d k)
  unfolding open_first
  open_at a b h (code c) t q = absurd t
  open_at a b h empty t q = refuse (does OPEN e fs d a b) 13 (rw q refl)
  open_at a b h (ends l r) t q =
      let g : l < top = omega (arith, t.1, t.2) in
      open_term_lem a b l h t.0 g (at ws l) (run (T F ws top p s) (suc l) (r - l))
      ((good F ws top p s).heap l t.0 g) refl (front_at a l r t q)

  code_term_lem : (a b : ℕ) (k : Cell) (y : Expr) → e a ≡ append (term_of (T F ws top p s) k) y
      → Acts F e (does FIRST e fs d a b) 0 ws top (code_term ws top k)
  unfolding code_term
  code_term_lem a b (code c) y q = tell (on_first (e a)) (first_code (e a)) c false (rw q refl) (rw q refl)
  code_term_lem a b empty y q = refuse (does FIRST e fs d a b) 14 (rw q refl)
  code_term_lem a b (ends l r) y q = refuse (does FIRST e fs d a b) 14 (rw q refl)

  pub code_at : (a b : ℕ) (k : Cell) → BracketIn F top k → e a ≡ inside (T F ws top p s) k
      → Acts F e (does FIRST e fs d a b) 0 ws top (code_first ws top k)
  unfolding code_first
  code_at a b (code c) t q = absurd t
  code_at a b empty t q = refuse (does FIRST e fs d a b) 13 (rw q refl)
  code_at a b (ends l r) t q = code_term_lem a b (at ws l) (run (T F ws top p s) (suc l) (r - l)) (front_at a l r t q)

  pub length_acts : (a b : ℕ) → a < F → Acts F e (does LENGTH e fs d a b) 0 ws top (done ws top (size (at ws a)))
  length_acts a b h =
      tell 0 (terms (e a)) (size (at ws a)) false refl (ap terms (sym (m a h)) ∙ sym (size_terms F ws top p s a h))

  pub live_acts : (a b : ℕ) → Acts F e (does LIVE e fs d a b) 0 ws top (done ws top fs.live)
  live_acts a b = tell 0 fs.live fs.live false refl refl

  pub collect_acts : (a b : ℕ) → Acts F e (does COLLECT e fs d a b) 0 ws top (done ws top fs.live)
  collect_acts a b = tell 0 fs.live fs.live true refl refl

-- ---- the statuses of `does`

small_empty : (x : Expr) → on_empty x ≤ 15
small_empty nothing = omega arith
small_empty (symbol c r) = omega arith
small_empty (parens i r) = omega arith

small_open : (x : Expr) → on_open x ≤ 15
small_open nothing = omega arith
small_open (symbol c r) = omega arith
small_open (parens i r) = omega arith

small_first : (x : Expr) → on_first x ≤ 15
small_first nothing = omega arith
small_first (symbol c r) = omega arith
small_first (parens i r) = omega arith

pub unfit_small : (o : Op) (e : ℕ → Expr) (fs : Facts) (d a b : ℕ) → (does o e fs d a b).unfit ≤ 15
unfit_small CLEAR e fs d a b = omega arith
unfit_small COPY e fs d a b = omega arith
unfit_small SYMBOL e fs d a b = omega arith
unfit_small WRAP e fs d a b = omega arith
unfit_small JOIN e fs d a b = omega arith
unfit_small HEAD e fs d a b = small_empty (e a)
unfit_small REST e fs d a b = small_empty (e a)
unfit_small OPEN e fs d a b = small_open (e a)
unfit_small LENGTH e fs d a b = omega arith
unfit_small FIRST e fs d a b = small_first (e a)
unfit_small LIVE e fs d a b = omega arith
unfit_small COLLECT e fs d a b = omega arith
