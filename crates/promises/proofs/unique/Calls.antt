-- One outcome of a call: what is said of its status, its value, `top` and its cells leaves no second one.
-- Assumes nothing.
use mathlib.Core.Path.{◌≡◌, refl, sym, ap, ◌∙◌}
use mathlib.Core.Logic.{◌⊎◌, inl, inr}
use mathlib.Core.Bool.{Bool, true, false, cond, false≢true}
use mathlib.Core.List.{List}
use Prim.Native.Nat.{ℕ, ◌+◌, ◌≤◌, ◌<◌}
use native.Mathlib.Omega.{arith}
use lib.Dec.{ltb}
use Rattle.meaning.specs.Sound.{capacity, Sound}
use Rattle.meaning.specs.Reach.{live}
use Rattle.meaning.specs.Collected.{collected}
use Rattle.meaning.specs.Verdicts.{Done}
use Rattle.meaning.specs.Effect.{effect, call_status, live_for_room, answer}
use Rattle.meaning.proofs.Lists.{lt_or_ge}
use Rattle.meaning.proofs.operands.Uses.{all_at}
use Rattle.promises.specs.OwnWords.{Use, register, code, unused, row_of, OwnFault, no_operation, no_register, stray}
use Rattle.promises.specs.OwnWords.{no_code, no_fault}
use Rattle.promises.specs.Cells.{Leaves}
use Rattle.promises.specs.Calls.{lacking, acted_on, acted_top, Called}
use Rattle.promises.specs.Unique.{OneCall}
use Rattle.promises.proofs.Verdicts.{verdict_parts}
use Rattle.promises.proofs.ownwords.Faults.{one_fault}
use Rattle.promises.proofs.calls.Acting.{or_else_zero}
use Rattle.promises.proofs.unique.Words.{laid_once, left_once}

-- ---- an operation below 8 sets a register

is_register_said : Use → Bool
is_register_said register = true
is_register_said code = false
is_register_said unused = false

is_register_lem : (u : Use) → is_register_said u ≡ true → u ≡ register
unfolding is_register_said
is_register_lem register e = refl
is_register_lem code e = absurd (false≢true e)
is_register_lem unused e = absurd (false≢true e)

sets_d : (o : ℕ) → o < 8 → (row_of o).d ≡ register
unfolding is_register_said
sets_d o h = is_register_lem (row_of o).d (all_at (λ x. is_register_said (row_of x).d) 8 o refl h)

d_register : (F o d a b : ℕ) {f : ℕ} → OwnFault F o d a b f → f ≡ 0 → o < 8 → d < F
d_register F o d a b (no_operation h) z k = absurd (omega arith)
d_register F o d a b (no_register h x) z k = absurd (omega arith)
d_register F o d a b (stray h x y) z k = absurd (omega arith)
d_register F o d a b (no_code h x y w) z k = absurd (omega arith)
d_register F o d a b (no_fault h x y w) z k = go (lt_or_ge d F)
  where
    go : (d < F) ⊎ (F ≤ d) → d < F
    go (inl l) = l
    go (inr l) = absurd (x (inl (rw (sets_d o k) l)))

-- ---- two outcomes of one call

module _ (F : ℕ) (p : 0 < F) (ws : List ℕ) (top : ℕ) (s : Sound F ws top) (o d a b n : ℕ) (r q : Done)
    (x : Called F ws top o d a b n r) (y : Called F ws top o d a b n q) where
  same_status : r.verdict.status ≡ q.verdict.status
  same_status =
      x.status
      ∙ ap (λ (f : ℕ). call_status f (effect F ws top o d a b) (lacking F ws top o d a b n))
      (one_fault F o d a b x.wrong y.wrong x.own y.own) ∙ sym y.status

  same_value : r.verdict.value ≡ q.verdict.value
  same_value = x.value ∙ ap (λ (c : ℕ). answer c (effect F ws top o d a b)) same_status ∙ sym y.value

  -- the first new cell is a heap cell
  new_heap : F ≤ acted_top F ws top o d a b n
  new_heap = go (effect F ws top o d a b).collects (ltb (capacity ws) (top + n))
    where
      go : (t u : Bool) → F ≤ cond t (F + live F ws top) (cond u (F + live_for_room F ws top o d a b) top)
      go true u = omega arith
      go false true = omega arith
      go false false = s.low

  module _ (e : r.verdict.status ≡ 0) (f : q.verdict.status ≡ 0) where
    faultless : x.wrong ≡ 0
    unfolding call_status
    faultless = or_else_zero x.wrong _ (sym x.status ∙ e)

    same_words : r.words ≡ q.words
    same_words = go (lt_or_ge o 8)
      where
        v : Leaves o d a b n (acted_on F ws top o d a b n) (acted_top F ws top o d a b n) r.words
        v = x.done_words e

        w : Leaves o d a b n (acted_on F ws top o d a b n) (acted_top F ws top o d a b n) q.words
        w = y.done_words f

        go : (o < 8) ⊎ (8 ≤ o) → r.words ≡ q.words
        go (inl h) =
            laid_once F r q (acted_on F ws top o d a b n) d (acted_top F ws top o d a b n) n
            (d_register F o d a b x.own faultless h) new_heap x.sound y.sound (x.done_top e) (y.done_top f)
            v.others w.others (v.sets h ∙ sym (w.sets h)) (λ j l. v.lays j l ∙ sym (w.lays j l))
            (x.len ∙ sym y.len)
        go (inr h) = x.asked e h ∙ sym (y.asked f h)

  same_left : (r.words ≡ q.words) × (r.top ≡ q.top)
  same_left =
      left_once r q same_status (λ e f. (same_words e f, x.done_top e ∙ sym (y.done_top f))) (collected F ws top)
      (F + live F ws top) x.full y.full ws top (λ k. x.refused k.0 k.1) (λ k. y.refused k.0 k.1)

pub one_call : OneCall
one_call F p ws top s o d a b n r q x y =
    let e = same_status F p ws top s o d a b n r q x y in
    let f = same_value F p ws top s o d a b n r q x y in
    let g = same_left F p ws top s o d a b n r q x y in
    λ j. record {
      verdict = verdict_parts r.verdict q.verdict e f (x.rule ∙ sym y.rule) j;
      words = g.0 j;
      top = g.1 j;
    }
