-- One outcome of a text typed into a sound store: what is said of its status, its value, `top` and its cells leaves no
-- second one. In order:
--   says_once    one status and value
--   typed_once   one outcome
-- Assumes nothing.
use mathlib.Core.Path.{◌≡◌, refl, sym, ap, ◌∙◌}
use mathlib.Core.Bool.{Bool, true, false, cond}
use mathlib.Core.List.{List}
use Prim.Native.Nat.{ℕ, ◌+◌, ◌≤◌, ◌<◌}
use native.Mathlib.Omega.{arith}
use lib.Dec.{ltb}
use Rattle.meaning.specs.Sound.{capacity, Sound}
use Rattle.meaning.specs.Reach.{live}
use Rattle.meaning.specs.Collected.{collected}
use Rattle.meaning.specs.Verdicts.{Verdict, Done}
use Rattle.meaning.specs.Lay.{all_terms}
use Rattle.meaning.specs.Call.{sought}
use Rattle.promises.specs.Typing.{said, TypedAs, no_register, no_text, no_room, has_room, typed_on, typed_from}
use Rattle.promises.specs.Typing.{TypedIn}
use Rattle.promises.proofs.reading.Refusing.{one_refusal}
use Rattle.promises.proofs.unique.Words.{laid_once, left_once}

module _ (F : ℕ) (ws : List ℕ) (top d : ℕ) (bs : List ℕ) where
  pub says_once : (v w : Verdict) → TypedAs F ws top d bs v → TypedAs F ws top d bs w → v ≡ w
  says_once v w (no_register h) (no_register k) = refl
  says_once v w (no_register h) (no_text _ k n t) = absurd (omega arith)
  says_once v w (no_register h) (no_room k n m) = absurd (omega arith)
  says_once v w (no_register h) (has_room k n m) = absurd (omega arith)
  says_once v w (no_text _ h n t) (no_register k) = absurd (omega arith)
  says_once v w (no_text _ h n t) (no_text _ k m u) = one_refusal bs v w t u
  says_once v w (no_text _ h n t) (no_room k m l) = absurd (n m)
  says_once v w (no_text _ h n t) (has_room k m l) = absurd (n m)
  says_once v w (no_room h n l) (no_register k) = absurd (omega arith)
  says_once v w (no_room h n l) (no_text _ k m u) = absurd (m n)
  says_once v w (no_room h n l) (no_room k m i) = refl
  says_once v w (no_room h n l) (has_room k m i) = absurd (omega arith)
  says_once v w (has_room h n l) (no_register k) = absurd (omega arith)
  says_once v w (has_room h n l) (no_text _ k m u) = absurd (m n)
  says_once v w (has_room h n l) (no_room k m i) = absurd (omega arith)
  says_once v w (has_room h n l) (has_room k m i) = refl

  -- a text that is done is typed into a register
  done_register : (v : Verdict) → TypedAs F ws top d bs v → v.status ≡ 0 → d < F
  done_register v (no_register h) e = absurd (omega arith)
  done_register v (no_text _ h n t) e = h
  done_register v (no_room h n l) e = h
  done_register v (has_room h n l) e = h

  module _ (s : Sound F ws top) (r q : Done) (x : TypedIn F ws top d bs r) (y : TypedIn F ws top d bs q) where
    same_verdict : r.verdict ≡ q.verdict
    same_verdict = says_once r.verdict q.verdict x.says y.says

    -- the first new cell is a heap cell
    new_heap : F ≤ typed_from F ws top d bs
    new_heap = go (ltb (capacity ws) (top + all_terms (said bs)))
      where
        go : (t : Bool) → F ≤ cond t (F + live F (sought false d ws) top) top
        go true = omega arith
        go false = s.low

    same_words : r.verdict.status ≡ 0 → q.verdict.status ≡ 0 → r.words ≡ q.words
    same_words e f =
        let v = x.done_words e in
        let w = y.done_words f in
        laid_once F r q (typed_on F ws top d bs) d (typed_from F ws top d bs) (all_terms (said bs))
        (done_register r.verdict x.says e) new_heap x.sound y.sound (x.done_top e) (y.done_top f)
        v.others w.others (v.sets ∙ sym w.sets) (λ j l. v.lays j l ∙ sym (w.lays j l))
        (x.len ∙ sym y.len)

    pub typed_once : r ≡ q
    typed_once =
        let g = left_once r q (ap (λ (v : Verdict). v.status) same_verdict)
        (λ e f. (same_words e f, x.done_top e ∙ sym (y.done_top f))) (collected F ws top) (F + live F ws top) x.full
        y.full ws top (λ k. x.refused k.0 k.1) (λ k. y.refused k.0 k.1) in
        rw (same_verdict, g.0, g.1) refl
