-- What typing a text in answers, by its cases. In order:
--   type_unsound               in words that are no sound store
--   type_none, type_register   in a sound store: into a register that is none, and into one
--   type_stopped, type_whole   then by the text: one that is refused, and one that is whole
--   TypeCases, type_cases      all four
-- Assumes nothing.
use mathlib.Core.Path.{◌≡◌, refl}
use mathlib.Core.Logic.{◌⊎◌, inl, inr, ◌≢◌}
use mathlib.Core.Bool.{Bool, true, false}
use mathlib.Core.List.{List}
use Prim.Native.Nat.{ℕ, zero, suc, ◌≤◌, ◌<◌}
use native.Mathlib.Omega.{arith}
use borrow.Author.Tests.{lt-ltb, le-ltb}
use Rattle.meaning.specs.Sound.{Sound}
use Rattle.meaning.specs.Verdicts.{Done, refused, only}
use Rattle.meaning.specs.Check.{check}
use Rattle.meaning.specs.Call.{carry_out}
use Rattle.meaning.specs.Reader.{reads, blank, is_whole, stop_verdict, expression}
use Rattle.meaning.specs.Typed.{type_plan, typed_of, type_in}
use Rattle.meaning.proofs.Lists.{lt_or_ge}
use Rattle.meaning.proofs.check.Checking.{sound_check, check_sound, on_zero_no}

module _ (F : ℕ) (ws : List ℕ) (top d : ℕ) (bs : List ℕ) where
  pub type_unsound : (check F ws top).status ≢ 0 → type_in F ws top d bs ≡ refused ws top (check F ws top)
  unfolding type_in
  type_unsound h = on_zero_no (check F ws top).status _ _ h

  pub type_none : Sound F ws top → F ≤ d → type_in F ws top d bs ≡ refused ws top (only 20)
  unfolding type_in
  type_none s h = rw (sound_check F ws top s, le-ltb d F h) refl

  pub type_register : Sound F ws top → d < F → type_in F ws top d bs ≡ typed_of F ws top d (reads blank bs)
  unfolding type_in
  type_register s h = rw (sound_check F ws top s, lt-ltb d F h) refl

  pub type_stopped : Sound F ws top → d < F → is_whole (reads blank bs).place ≡ false
      → type_in F ws top d bs ≡ refused ws top (stop_verdict (reads blank bs).place)
  unfolding typed_of
  type_stopped s h e = rw (type_register s h, e) refl

  pub type_whole : Sound F ws top → d < F → is_whole (reads blank bs).place ≡ true
      → type_in F ws top d bs ≡ carry_out F (type_plan d (expression (reads blank bs)) ws) ws top
  unfolding typed_of
  type_whole s h e = rw (type_register s h, e) refl

  pub data TypeCases : Done → Type 0 where
    unsound : (check F ws top).status ≢ 0 → TypeCases (refused ws top (check F ws top))
    none : Sound F ws top → F ≤ d → TypeCases (refused ws top (only 20))
    stopped : Sound F ws top → d < F → is_whole (reads blank bs).place ≡ false
        → TypeCases (refused ws top (stop_verdict (reads blank bs).place))
    whole : Sound F ws top → d < F → is_whole (reads blank bs).place ≡ true
        → TypeCases (carry_out F (type_plan d (expression (reads blank bs)) ws) ws top)

  pub type_cases : TypeCases (type_in F ws top d bs)
  type_cases = by_check (check F ws top).status refl
    where
      by_text : Sound F ws top → d < F → (t : Bool) → is_whole (reads blank bs).place ≡ t
          → TypeCases (type_in F ws top d bs)
      by_text s h true e = rw (type_whole s h e) (whole s h e)
      by_text s h false e = rw (type_stopped s h e) (stopped s h e)

      by_register : Sound F ws top → (d < F) ⊎ (F ≤ d) → TypeCases (type_in F ws top d bs)
      by_register s (inl h) = by_text s h (is_whole (reads blank bs).place) refl
      by_register s (inr h) = rw (type_none s h) (none s h)

      by_check : (c : ℕ) → (check F ws top).status ≡ c → TypeCases (type_in F ws top d bs)
      by_check zero e = by_register (check_sound F ws top e) (lt_or_ge d F)
      by_check (suc c) e =
          let n : (check F ws top).status ≢ 0 = (λ z. omega arith) in rw (type_unsound n) (unsound n)
