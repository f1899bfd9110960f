-- New cells laid from `top` upward: what was there keeps its meaning, and a copy of a cell means what the cell means.
-- A run copied, and two runs copied one after the other. In order:
--   Extends                        a sound store with the old cells below `top`, and perhaps new ones from there on
--   extends_trans, extends_self    new cells twice, and none;  extends_put  one
--   extends_term, extends_inside   a heap cell, and what is inside a bracket, keeps its meaning
--   extends_meaning                a register does
--   twin                           two cells that are equal have one meaning
--   Both, both                     n cells copied from l on, then k from l₂ on;  both_of  by two brackets
-- Assumes nothing.
use mathlib.Core.Path.{◌≡◌, refl, sym, ap, ◌∙◌}
use mathlib.Core.List.{List}
use Prim.Native.Nat.{ℕ, zero, suc, ◌+◌, ◌-◌, ◌*◌, ◌≤◌, ◌<◌}
use native.Mathlib.Nat.{le_refl, le_trans, le_of_suc-le-suc, not-suc-le-zero, add-zero, add-suc, suc-add, add_assoc}
use native.Mathlib.Omega.{arith}
use lib.ListN.{length}
use Rattle.meaning.specs.Sound.{Cell, ends, at, Sound}
use Rattle.meaning.specs.Meaning.{inside, term_of, term, meaning, term_at}
use Rattle.meaning.specs.Actions.{put, copies}
use Rattle.meaning.proofs.sound.Cells.{TermIn, BracketIn, good}
use Rattle.meaning.proofs.actions.Writing.{length_put, at_put, at_put_other, copy_put, sound_top, term_in_wider}
use Rattle.meaning.proofs.actions.Writing.{term_same, inside_same, term_law}

pub record Extends (F : ℕ) (ws : List ℕ) (top : ℕ) (ws' : List ℕ) (top' : ℕ) : Type 0 where
  pub len : length ws' ≡ length ws
  pub up : top ≤ top'
  pub sound : Sound F ws' top'
  pub old : (c : ℕ) → c < top → at ws' c ≡ at ws c

pub extends_trans : {F : ℕ} {ws : List ℕ} {top : ℕ} {ws' : List ℕ} {top' : ℕ} {ws'' : List ℕ} {top'' : ℕ}
    → Extends F ws top ws' top' → Extends F ws' top' ws'' top'' → Extends F ws top ws'' top''
extends_trans x y = record {
  len = y.len ∙ x.len;
  up = le_trans x.up y.up;
  sound = y.sound;
  old = λ c l. y.old c (le_trans l x.up) ∙ x.old c l;
}

module _ (F : ℕ) (ws : List ℕ) (top : ℕ) (p : 0 < F) (s : Sound F ws top) where
  pub extends_self : Extends F ws top ws top
  extends_self = record { len = refl; up = le_refl top; sound = s; old = λ c l. refl }

  pub extends_put : 2 * suc top ≤ length ws → (b : Cell) → TermIn F top b → Extends F ws top (put ws top b) (suc top)
  extends_put r b t = record {
    len = length_put ws top b;
    up = omega arith;
    sound = sound_top F ws top p s r b t;
    old = λ c l. at_put_other ws top b c (omega arith);
  }

  module _ (ws' : List ℕ) (top' : ℕ) (x : Extends F ws top ws' top') where
    pub extends_term : (c : ℕ) → F ≤ c → c < top → term_at ws c ≡ term (at ws') (length ws') c
    extends_term c f l =
        rw x.len (term_same F (at ws) (at ws') top (good F ws top p s) (λ y g h. x.old y h) (length ws) c f l)

    pub extends_inside : (b : Cell) → BracketIn F top b
        → inside (term_at ws) b ≡ inside (term (at ws') (length ws')) b
    extends_inside b t =
        rw x.len (inside_same F (at ws) (at ws') top (good F ws top p s) (λ y g h. x.old y h) (length ws) b t)

    pub extends_meaning : (i : ℕ) → i < F → meaning ws' i ≡ meaning ws i
    unfolding meaning
    extends_meaning i h =
        rw (x.old i (le_trans h s.low)) (sym (extends_inside (at ws i) ((good F ws top p s).regs i h)))

  -- two cells that are equal have one meaning
  pub twin : (c y : ℕ) → F ≤ c → c < top → F ≤ y → y < top → at ws c ≡ at ws y
      → term_at ws c ≡ term_at ws y
  twin c y f l g h e =
      term_law F ws top p s c f l ∙ (ap (λ (b : Cell). term_of (term_at ws) b) e ∙ sym
      (term_law F ws top p s y g h))

-- n cells copied from x on
record Copied (F : ℕ) (ws : List ℕ) (top x n : ℕ) (ws' : List ℕ) : Type 0 where
  pub more : Extends F ws top ws' (top + n)
  pub new : (j : ℕ) → j < n → at ws' (top + j) ≡ at ws (x + j)

copied_suc : (F : ℕ) (ws : List ℕ) (top x n : ℕ) (ws' : List ℕ) (p : 0 < F) (s : Sound F ws top) → x < top
    → x + suc n ≤ top → 2 * suc top ≤ length ws → (t : TermIn F top (at ws x))
    → Copied F (put ws top (at ws x)) (suc top) (suc x) n ws' → Copied F ws top x (suc n) ws'
copied_suc F ws top x n ws' p s l m r t q = record {
  more = rw (add-suc top n, ← suc-add top n) (extends_trans (extends_put F ws top p s r (at ws x) t) q.more);
  new = new_at;
}
  where
    new_at : (j : ℕ) → j < suc n → at ws' (top + j) ≡ at ws (x + j)
    new_at zero h =
        rw (add-zero top, add-zero x)
        (q.more.old top (omega arith) ∙ at_put ws top (at ws x) F top p (omega arith) t)
    new_at (suc j) h =
        rw (add-suc top j, add-suc x j, ← suc-add top j, ← suc-add x j)
        (q.new j (le_of_suc-le-suc h) ∙ at_put_other ws top (at ws x) (suc x + j) (omega arith))

copied : (F : ℕ) (ws : List ℕ) (top x n : ℕ) → 0 < F → Sound F ws top → F ≤ x → x + n ≤ top
    → 2 * (top + n) ≤ length ws → Copied F ws top x n (copies ws top x n)
copied F ws top x zero p s f l r =
    record { more = rw (add-zero top) (extends_self F ws top p s); new = λ j h. absurd (not-suc-le-zero h) }
copied F ws top x (suc n) p s f l r =
    let h : x < top = omega arith in
    let t = term_in_wider F x top (at ws x) (omega arith) ((good F ws top p s).heap x f h) in
    let q : 2 * suc top ≤ length ws = omega arith in
    rw (copy_put F ws top top x p s h)
    (copied_suc F ws top x n (copies (put ws top (at ws x)) (suc top) (suc x) n) p s h l q t
    (copied F (put ws top (at ws x)) (suc top) (suc x) n p (sound_top F ws top p s q (at ws x) t) (omega arith)
    (omega arith) (omega (arith, length_put ws top (at ws x)))))

-- n cells copied from l on, then k from l₂ on
pub record Both (F : ℕ) (ws : List ℕ) (top l n l₂ k : ℕ) (v : List ℕ) : Type 0 where
  pub more : Extends F ws top v (top + (n + k))
  pub one : (j : ℕ) → j < n → at v (top + j) ≡ at ws (l + j)
  pub two : (j : ℕ) → j < k → at v (top + (n + j)) ≡ at ws (l₂ + j)

pub both : (F : ℕ) (ws : List ℕ) (top l n l₂ k : ℕ) → 0 < F → Sound F ws top → F ≤ l → l + n ≤ top
    → F ≤ l₂ → l₂ + k ≤ top → 2 * (top + (n + k)) ≤ length ws
    → Both F ws top l n l₂ k (copies (copies ws top l n) (top + n) l₂ k)
both F ws top l n l₂ k p s f h g m q =
    let c₁ = copied F ws top l n p s f h (omega arith) in
    let c₂ = copied F (copies ws top l n) (top + n) l₂ k p c₁.more.sound g (omega arith)
    (omega (arith, c₁.more.len)) in
    record {
      more = rw (add_assoc top n k) at (extends_trans c₁.more c₂.more);
      one = λ j z. c₂.more.old (top + j) (omega arith) ∙ c₁.new j z;
      two = λ j z. rw (← add_assoc top n j) (c₂.new j z ∙ c₁.more.old (l₂ + j) (omega arith));
    }

-- the runs of two brackets with contents
pub both_of : (F : ℕ) (ws : List ℕ) (top l r x y : ℕ) → 0 < F → Sound F ws top → BracketIn F top (ends l r)
    → BracketIn F top (ends x y) → 2 * (top + ((suc r - l) + (suc y - x))) ≤ length ws
    → Both F ws top l (suc r - l) x (suc y - x)
    (copies (copies ws top l (suc r - l)) (top + (suc r - l)) x (suc y - x))
both_of F ws top l r x y p s t u q =
    both F ws top l (suc r - l) x (suc y - x) p s t.0 (omega (arith, t.1, t.2)) u.0
    (omega (arith, u.1, u.2)) q
