-- The new cells of a typed text: no new cell refers to an old one, and none is shared. In order:
--   new_holds, d_holds, old_holds   what a new cell, register d and any other cell hold
--   own_alone                       so no new cell is held by two
--   on_sound                        the store in which the text is laid is sound
--   new_cells_only                  the claim
-- Assumes nothing.
use mathlib.Core.Path.{◌≡◌, refl, sym, ◌∙◌, subst}
use mathlib.Core.Logic.{◌⊎◌, inl, inr, ◌≢◌}
use mathlib.Core.Bool.{Bool, true, false, cond}
use mathlib.Core.List.{List}
use Prim.Native.Nat.{ℕ, ◌+◌, ◌-◌, ◌≤◌, ◌<◌}
use native.Mathlib.Decide.{ℕ_discrete}
use native.Mathlib.Omega.{arith}
use lib.Dec.{ltb}
use Rattle.words.specs.Cell.{first_word, second_word}
use Rattle.meaning.specs.Expr.{Expr}
use Rattle.meaning.specs.Sound.{Cell, at, capacity, Sound}
use Rattle.meaning.specs.Reach.{Between, live}
use Rattle.meaning.specs.Collected.{collected}
use Rattle.meaning.specs.Lay.{all_terms, laid}
use Rattle.meaning.specs.Call.{sought}
use Rattle.meaning.specs.Typed.{type_in}
use Rattle.meaning.proofs.Lists.{lt_or_ge}
use Rattle.meaning.proofs.sound.Cells.{good}
use Rattle.meaning.proofs.reach.Reaching.{between_reg, between_term}
use Rattle.meaning.proofs.call.Sought.{sought_sound}
use Rattle.meaning.proofs.lay.Places.{deep_length, laid_length, after}
use Rattle.meaning.proofs.lay.Holding.{holder, Holds, last_holds, laid_holds}
use Rattle.meaning.proofs.lay.Denoting.{each_at}
use Rattle.meaning.proofs.typed.Cases.{type_cases}
use Rattle.promises.specs.Typing.{said, LeavesText, typed_on, typed_from}
use Rattle.promises.specs.Holding.{OwnAlone, NewCellsOnly}
use Rattle.promises.proofs.collecting.Keeping.{collecting_keeps}
use Rattle.promises.proofs.typing.Typing.{types_do}
use Rattle.promises.proofs.typing.Again.{type_done}

-- ---- where an expression is laid in a sound store

at_same : (v w : List ℕ) (x : ℕ) → (first_word v x ≡ first_word w x) × (second_word v x ≡ second_word w x)
    → at v x ≡ at w x
unfolding at
at_same v w x h = rw (h.0, h.1) refl

module _ (F : ℕ) (p : 0 < F) (w : List ℕ) (t : ℕ) (s : Sound F w t) (d : ℕ) (l : d < F) (e : Expr) (v : List ℕ)
    (k : LeavesText d e w t v) where
  abbrev n : ℕ
  n = all_terms e

  new_at : (j z : ℕ) → j < n → Between (at v (t + j)) z
      → (t ≤ z) × (z < after t e) × (t + j ≡ holder t e (after t e) z)
  new_at j z a h =
      each_at (Holds t e (after t e)) t (laid t e) (laid t e) (laid_holds e t) j (omega (arith, a, laid_length t e)) z
      (subst (λ (b : Cell). Between b z) (k.lays j a) h)

  new_holds : (x z : ℕ) → t ≤ x → x < t + n → Between (at v x) z
      → (t ≤ z) × (z < after t e) × (x ≡ holder t e (after t e) z)
  new_holds x z a b =
      let f : t + (x - t) ≡ x = omega arith in
      subst (λ (y : ℕ). Between (at v y) z → (t ≤ z) × (z < after t e) × (y ≡ holder t e (after t e) z)) f
      (new_at (x - t) z (omega arith))

  d_holds : (z : ℕ) → Between (at v d) z → (after t e ≤ z) × (z < t + n)
  d_holds z h = last_holds t e z (subst (λ (b : Cell). Between b z) k.sets h)

  old_holds : (x z : ℕ) → x < t → x ≢ d → Between (at v x) z → z < t
  old_holds x z a b h = go (lt_or_ge x F)
    where
      g : Between (at w x) z
      g = subst (λ (b : Cell). Between b z) (at_same v w x (k.others x b (inl a))) h

      go : (x < F) ⊎ (F ≤ x) → z < t
      go (inl c) = (between_reg F (at w) t (good F w t p s) (at w x) z ((good F w t p s).regs x c) g).1
      go (inr c) =
          omega (arith, a, (between_term F (at w) t (good F w t p s) (at w x) x z ((good F w t p s).heap x c a) g).1)

  -- what holds a new cell is d or new
  holds_new : (x z : ℕ) → t ≤ z → Between (at v x) z → (x ≡ d) ⊎ (t ≤ x)
  holds_new x z a h = go (lt_or_ge x t) (ℕ_discrete x d)
    where
      go : (x < t) ⊎ (t ≤ x) → Dec (x ≡ d) → (x ≡ d) ⊎ (t ≤ x)
      go (inr b) q = inr b
      go (inl b) (yes f) = inl f
      go (inl b) (no f) = absurd (omega (arith, a, old_holds x z b f h))

  d_at : (x z : ℕ) → x ≡ d → Between (at v x) z → (after t e ≤ z) × (z < t + n)
  d_at x z f h = d_holds z (subst (λ (y : ℕ). Between (at v y) z) f h)

  own_alone : OwnAlone d t n v
  own_alone = record { inward = inward; once = once }
    where
      inward : (x c : ℕ) → (x ≡ d) ⊎ ((t ≤ x) × (x < t + n)) → Between (at v x) c → (t ≤ c) × (c < t + n)
      inward x c (inl f) h = let q = d_at x c f h in (omega (arith, q.0), q.1)
      inward x c (inr b) h = let q = new_holds x c b.0 b.1 h in (q.0, omega (arith, q.1, deep_length t e))

      once : (x y c : ℕ) → x < t + n → y < t + n → t ≤ c → Between (at v x) c → Between (at v y) c → x ≡ y
      once x y c a b m h g = go (holds_new x c m h) (holds_new y c m g)
        where
          go : (x ≡ d) ⊎ (t ≤ x) → (y ≡ d) ⊎ (t ≤ y) → x ≡ y
          go (inl f) (inl f') = f ∙ sym f'
          go (inl f) (inr q) = absurd (omega (arith, (d_at x c f h).0, (new_holds y c q b g).1))
          go (inr q) (inl f) = absurd (omega (arith, (d_at y c f g).0, (new_holds x c q a h).1))
          go (inr q) (inr q') = (new_holds x c q a h).2 ∙ sym (new_holds y c q' b g).2

-- ---- the claim

on_sound : (F : ℕ) (p : 0 < F) (ws : List ℕ) (top : ℕ) → Sound F ws top → (d : ℕ) → d < F → (bs : List ℕ)
    → Sound F (typed_on F ws top d bs) (typed_from F ws top d bs)
on_sound F p ws top s d l bs = go (ltb (capacity ws) (top + all_terms (said bs)))
  where
    go : (b : Bool)
        → Sound F (cond b (collected F (sought false d ws) top) ws) (cond b (F + live F (sought false d ws) top) top)
    go true = (collecting_keeps F p (sought false d ws) top (sought_sound F ws top p s false d (λ _. l))).sound
    go false = s

pub new_cells_only : NewCellsOnly
new_cells_only F ws top d bs z =
    let k = type_done F ws top d bs (type_in F ws top d bs) (type_cases F ws top d bs) z in
    let p : 0 < F = omega (arith, k.1) in
    own_alone F p (typed_on F ws top d bs) (typed_from F ws top d bs) (on_sound F p ws top k.0 d k.1 bs) d k.1
    (said bs) (type_in F ws top d bs).words ((types_do F ws top k.0 d bs).done_words z)
