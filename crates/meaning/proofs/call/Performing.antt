-- One call by its operation: which of its words name registers, and which operation the last arm is. In order:
--   d_register, a_register, b_register   d, a or b is a register where the operation uses it as one
--   Missed                               o is none of the first k numbers
--   collects                             an operation past the first eleven is COLLECT
--   step_refused, step_performed         one call, by what is wrong with its words
-- Assumes nothing.
use mathlib.Core.Path.{◌≡◌, refl, subst}
use mathlib.Core.Logic.{◌≢◌}
use mathlib.Core.List.{List, [], ◌∷◌, ◌++◌}
use Prim.Native.Nat.{ℕ, zero, suc, ◌≤◌, ◌<◌}
use native.Mathlib.Omega.{arith}
use lib.ListN.{length, get_or}
use Rattle.meaning.specs.Limits.{first_heap_cell}
use Rattle.meaning.specs.Verdicts.{refused, only}
use Rattle.meaning.specs.Operands.{Op, CLEAR, COPY, SYMBOL, WRAP, JOIN, HEAD, REST, OPEN, LENGTH, FIRST, LIVE}
use Rattle.meaning.specs.Operands.{COLLECT, ops, op_at, use_d, use_a, use_b, fault}
use Rattle.meaning.specs.Call.{perform, step_after, step}
use Rattle.meaning.proofs.operands.Uses.{WordsRight, right, is_register_lem}

module _ (o d a b : ℕ) (q : fault first_heap_cell o d a b ≡ 0) {k : ℕ} (e : o ≡ k) where
  uses_right : WordsRight first_heap_cell (op_at k) d a b
  uses_right = subst (λ (n : ℕ). WordsRight first_heap_cell (op_at n) d a b) e (right first_heap_cell o d a b q)

  pub d_register : use_d (op_at k) ≡ 1 → d < first_heap_cell
  d_register u = is_register_lem first_heap_cell d (rw u at uses_right.d11)

  pub a_register : use_a (op_at k) ≡ 1 → a < first_heap_cell
  a_register u = is_register_lem first_heap_cell a (rw u at uses_right.a11)

  pub b_register : use_b (op_at k) ≡ 1 → b < first_heap_cell
  b_register u = is_register_lem first_heap_cell b (rw u at uses_right.b11)

-- ---- the last operation, which is what is left of the match

-- o is none of the first k numbers
abbrev pub Missed : ℕ → ℕ → Type 0
Missed zero o = Unit {0}
Missed (suc k) o = Missed k o × (o ≡ k → ⊥)

missed : (k o : ℕ) → Missed k o → k ≤ o
missed zero o m = omega arith
missed (suc k) o m = omega (arith, missed k o m.0, m.1)

past : (xs : List Op) (x : Op) (o : ℕ) → length xs ≤ o → get_or (xs ++ (x ∷ [])) o x ≡ x
past [] x zero h = refl
past [] x (suc o) h = refl
past (y ∷ xs) x zero h = absurd (omega arith)
past (y ∷ xs) x (suc o) h = past xs x o (omega arith)

pub collects : (o : ℕ) → Missed 11 o → op_at o ≡ COLLECT
unfolding op_at ops
collects o m =
    let before = CLEAR ∷ COPY ∷ SYMBOL ∷ WRAP ∷ JOIN ∷ HEAD ∷ REST ∷ OPEN ∷ LENGTH ∷ FIRST ∷ LIVE ∷ [] in
    past before COLLECT o (missed 11 o m)

-- ---- one call, by what is wrong with its words

module _ (ws : List ℕ) (top o d a b : ℕ) {f : ℕ} (q : f ≡ fault first_heap_cell o d a b) where
  pub step_refused : f ≢ 0 → step first_heap_cell ws top o d a b ≡ refused ws top (only f)
  unfolding step
  step_refused n = rw (← q) (go f n)
    where
      go : (g : ℕ) → g ≢ 0 → step_after g first_heap_cell ws top o d a b ≡ refused ws top (only g)
      go zero n = absurd (n refl)
      go (suc g) n = unfold step_after in refl

  pub step_performed : f ≡ 0 → step first_heap_cell ws top o d a b ≡ perform (op_at o) first_heap_cell ws top d a b
  unfolding step step_after
  step_performed e = rw (← q, e) refl
