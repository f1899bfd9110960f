-- The codes of what a sound store's registers denote are codes. In order:
--   coded_append, coded_run      of two expressions side by side, and of a run
--   coded_term, coded_meaning    of a heap cell, and of a register
-- Assumes nothing.
use Prim.Native.Nat.{ℕ, zero, suc, ◌+◌, ◌-◌, ◌≤◌, ◌<◌}
use mathlib.Core.List.{List}
use native.Mathlib.Nat.{add-zero, add-suc, suc-add}
use native.Mathlib.Omega.{arith}
use lib.ListN.{length}
use Rattle.meaning.specs.Expr.{Expr, nothing, symbol, parens, append}
use Rattle.meaning.specs.Sound.{Cell, code, empty, ends, at, Sound}
use Rattle.meaning.specs.Meaning.{run, inside, term_of, term, meaning}
use Rattle.meaning.proofs.sound.Cells.{SoundCells, TermIn, BracketIn, good}
use Rattle.meaning.proofs.lay.Each.{Coded}

coded_append : (e f : Expr) → Coded e → Coded f → Coded (append e f)
coded_append nothing f h k = k
coded_append (symbol a r) f h k = (h.0, coded_append r f h.1 k)
coded_append (parens i r) f h k = (h.0, coded_append r f h.1 k)

coded_run : (t : ℕ → Expr) (l n : ℕ) → ((j : ℕ) → j < n → Coded (t (l + j))) → Coded (run t l n)
coded_run t l zero h = tt
coded_run t l (suc n) h =
    coded_append (t l) (run t (suc l) n) (rw (add-zero l) at (h 0 (omega arith)))
    (coded_run t (suc l) n (λ j k. rw (suc-add l j, ← add-suc l j) (h (suc j) (omega arith))))

module _ (F : ℕ) (k : ℕ → Cell) (top : ℕ) (g : SoundCells F k top) where
  coded_of : (t : ℕ → Expr) (lim : ℕ) → ((c : ℕ) → F ≤ c → c < lim → Coded (t c)) → (b : Cell) → TermIn F lim b
      → Coded (term_of t b)
  coded_of t lim h (code a) q = (q, tt)
  coded_of t lim h empty q = (tt, tt)
  coded_of t lim h (ends l r) q = (
    coded_run t l (suc r - l) (λ j m. h (l + j) (omega (arith, q.0)) (omega (arith, q.1, q.2))),
    tt,
  )

  coded_term : (n c : ℕ) → F ≤ c → c < top → Coded (term k n c)
  coded_term zero c f l = tt
  coded_term (suc n) c f l =
      coded_of (term k n) c (λ x p q. coded_term n x p (omega arith)) (k c) (g.heap c f l)

  coded_inside : (n : ℕ) (b : Cell) → BracketIn F top b → Coded (inside (term k n) b)
  coded_inside n (code a) q = tt
  coded_inside n empty q = tt
  coded_inside n (ends l r) q =
      coded_run (term k n) l (suc r - l)
      (λ j m. coded_term n (l + j) (omega (arith, q.0)) (omega (arith, q.1, q.2)))

pub coded_meaning : (F : ℕ) (ws : List ℕ) (top : ℕ) → 0 < F → Sound F ws top → (i : ℕ) → i < F → Coded (meaning ws i)
unfolding meaning
coded_meaning F ws top p s i h =
    let g = good F ws top p s in coded_inside F (at ws) top g (length ws) (at ws i) (g.regs i h)
