-- The calls of a batch one after the other: after i of them the store, `top` and the answers are those of i calls.
-- In order:
--   Running   i of the calls are done
--   begin     none is;  onward  one more is;  finish  all are
-- Assumes nothing.
use mathlib.Core.Path.{◌≡◌, refl, ap, ◌∙◌}
use mathlib.Core.List.{List, [], ◌∷◌, ◌++◌, append_assoc}
use Prim.Native.Nat.{ℕ, zero, suc, ◌+◌, ◌*◌, ◌/◌, ◌%◌, ◌≤◌, ◌<◌}
use native.Mathlib.Omega.{arith}
use lib.ListN.{length, take, set, get_or, length-set}
use lib.Seq.{take-suc-set, take_all, length-take-le}
use Rattle.meaning.specs.Limits.{first_heap_cell}
use Rattle.meaning.specs.Sound.{Sound}
use Rattle.meaning.specs.Batch.{Ran, runs}
use Rattle.meaning.proofs.effect.Steps.{step_meets}
use Rattle.meaning.proofs.batch.Batches.{fours, runs_cut}
use Rattle.store.proofs.Sounds.{first_heap_cell_pos}
use Rattle.calls.specs.Calling.{call_at, CallDone, ran_to}

-- ---- four more words of a list, and two

take_four : (l : List ℕ) (j : ℕ) → 3 + j < length l
    → take (suc (suc (suc (suc j)))) l
    ≡ take j l ++ (get_or l j 0 ∷ get_or l (suc j) 0 ∷ get_or l (suc (suc j)) 0 ∷ get_or l (suc (suc (suc j))) 0 ∷ [])
take_four [] j h = absurd (omega arith)
take_four (x ∷ []) j h = absurd (omega arith)
take_four (x ∷ y ∷ []) j h = absurd (omega arith)
take_four (x ∷ y ∷ z ∷ []) j h = absurd (omega arith)
take_four (x ∷ y ∷ z ∷ u ∷ l) zero h = refl
take_four (x ∷ y ∷ z ∷ u ∷ l) (suc j) h = ap (λ (r : List ℕ). x ∷ r) (take_four (y ∷ z ∷ u ∷ l) j (omega arith))

take_call : (l : List ℕ) (i : ℕ) → 4 * i + 3 < length l
    → take (4 * (i + 1)) l
    ≡ take (4 * i) l
    ++ (get_or l (4 * i) 0 ∷ get_or l (4 * i + 1) 0 ∷ get_or l (4 * i + 2) 0 ∷ get_or l (4 * i + 3) 0 ∷ [])
take_call l i h =
    let e : 4 * (i + 1) ≡ suc (suc (suc (suc (4 * i)))) = omega arith in
    let e₁ : 4 * i + 1 ≡ suc (4 * i) = omega arith in
    let e₂ : 4 * i + 2 ≡ suc (suc (4 * i)) = omega arith in
    let e₃ : 4 * i + 3 ≡ suc (suc (suc (4 * i))) = omega arith in
    rw (e, e₁, e₂, e₃) (take_four l (4 * i) (omega arith))

take_answer : (l : List ℕ) (i x y : ℕ) → 2 * i + 1 < length l
    → take (2 * (i + 1)) (set (set l (2 * i) x) (2 * i + 1) y) ≡ take (2 * i) l ++ (x ∷ y ∷ [])
take_answer l i x y h =
    let e : 2 * (i + 1) ≡ suc (2 * i + 1) = omega arith in
    let f : 2 * i + 1 ≡ suc (2 * i) = omega arith in
    rw (e, take-suc-set (set l (2 * i) x) (2 * i + 1) y (rw length-set h), f, take-suc-set l (2 * i) x (omega arith))
    (append_assoc (take (2 * i) l) (x ∷ []) (y ∷ []))

-- ---- i of the calls are done

pub record Running (ws₀ : List ℕ) (top₀ : ℕ) (calls out₀ ws : List ℕ) (t : ℕ) (out : List ℕ) (i : ℕ) : Type 0 where
  pub most : i ≤ length calls / 4
  pub sound : Sound first_heap_cell ws t
  pub len : length ws ≡ length ws₀
  pub long : length out ≡ length out₀
  pub ran : runs first_heap_cell ws₀ top₀ (take (4 * i) calls) ≡ ran_to t ws (take (2 * i) out)

module _ {ws₀ : List ℕ} {top₀ : ℕ} {calls out₀ : List ℕ} where
  pub begin : Sound first_heap_cell ws₀ top₀ → Running ws₀ top₀ calls out₀ ws₀ top₀ out₀ 0
  begin s = record { most = omega arith; sound = s; len = refl; long = refl; ran = refl }

  module _ {ws : List ℕ} {t : ℕ} {out : List ℕ} {i : ℕ} (k : Running ws₀ top₀ calls out₀ ws t out i) where
    -- one call more
    after : i < length calls / 4
        → runs first_heap_cell ws₀ top₀ (take (4 * (i + 1)) calls)
        ≡ ran_to (call_at ws t calls i).top (call_at ws t calls i).words
        (take (2 * i) out ++ ((call_at ws t calls i).verdict.status ∷ (call_at ws t calls i).verdict.value ∷ []))
    after h =
        let cs = take (4 * i) calls in
        let c : ℕ → ℕ = λ n. get_or calls n 0 in
        let ds = c (4 * i) ∷ c (4 * i + 1) ∷ c (4 * i + 2) ∷ c (4 * i + 3) ∷ [] in
        let next : Ran → Ran = λ q. runs first_heap_cell q.words q.top ds in
        rw (take_call calls i (omega arith))
        (runs_cut first_heap_cell ws₀ top₀ ds (fours i cs (length-take-le (4 * i) calls (omega arith)))
        ∙ ap (λ (q : Ran). ran_to (next q).top (next q).words (q.answers ++ (next q).answers)) k.ran)

    pub onward : {t' : ℕ} {ws' out' : List ℕ} → i < length calls / 4 → 2 * (length calls / 4) ≤ length out₀
        → CallDone (call_at ws t calls i) i out t' ws' out' → Running ws₀ top₀ calls out₀ ws' t' out' (i + 1)
    onward h g c =
        let m =
        step_meets first_heap_cell ws t first_heap_cell_pos k.sound (get_or calls (4 * i) 0)
        (get_or calls (4 * i + 1) 0)
        (get_or calls (4 * i + 2) 0) (get_or calls (4 * i + 3) 0) in
        let st = (call_at ws t calls i).verdict.status in
        let va = (call_at ws t calls i).verdict.value in
        rw (c.words, c.top, c.answers)
        (record {
          most = omega arith;
          sound = m.sound;
          len = m.len ∙ k.len;
          long = length-set (set out (2 * i) st) (2 * i + 1) va ∙ (length-set out (2 * i) st ∙ k.long);
          ran = rw (take_answer out i st va (omega (arith, k.long))) (after h);
        })

    pub finish : length calls / 4 ≤ i → length calls % 4 ≡ 0
        → runs first_heap_cell ws₀ top₀ calls ≡ ran_to t ws (take (2 * (length calls / 4)) out)
    finish h e =
        let f : i ≡ length calls / 4 = omega (arith, k.most) in
        rw (take_all (4 * i) calls (omega arith)) at
        (k.ran ∙ ap (λ (n : ℕ). ran_to t ws (take (2 * n) out)) f)
