-- A text typed into twins answers the same, and leaves twins. Assumes nothing.
use mathlib.Core.Path.{◌≡◌, refl}
use mathlib.Core.Logic.{◌⊎◌, inl, inr}
use mathlib.Core.Bool.{Bool, true, false}
use mathlib.Core.List.{List}
use Prim.Native.Nat.{ℕ, ◌≤◌, ◌<◌}
use Rattle.meaning.specs.Expr.{Expr}
use Rattle.meaning.specs.Verdicts.{Verdict, refused, only}
use Rattle.meaning.specs.Call.{sought, carry_out}
use Rattle.meaning.specs.Lay.{all_terms, new_cells}
use Rattle.meaning.specs.Reader.{reads, blank, is_whole, stop_verdict, expression}
use Rattle.meaning.specs.Typed.{type_plan, type_in}
use Rattle.meaning.proofs.Lists.{lt_or_ge}
use Rattle.meaning.proofs.lay.Each.{Coded}
use Rattle.meaning.proofs.twins.Agree.{Agree}
use Rattle.meaning.proofs.twins.Texts.{text_same}
use Rattle.meaning.proofs.twins.Twins.{Twin, sought_twin, room_twin}
use Rattle.meaning.proofs.typed.Cases.{type_none, type_stopped, type_whole}
use Rattle.meaning.proofs.typed.Meeting.{coded_read}

module _ (F : ℕ) (ws : List ℕ) (top : ℕ) (ws' : List ℕ) (top' : ℕ) (p : 0 < F) (t : Twin F ws top ws' top')
    (d : ℕ) where
  plan_agrees : d < F → (e : Expr) → Coded e
      → Agree F (carry_out F (type_plan d e ws) ws top) (carry_out F (type_plan d e ws') ws' top')
  unfolding carry_out
  plan_agrees l e q =
      room_twin F p (all_terms e) (new_cells d e) ws top ws' top' t (sought false d ws) (sought false d ws')
      (sought_twin F ws top ws' top' p t false d (λ _. l)) (λ x u s f r. text_same F x u p s e q r d l)
      (λ x u s f r. text_same F x u p s e q r d l)

  refusals : (v : Verdict) → Agree F (refused ws top v) (refused ws' top' v)
  refusals v = record { verdict = refl; same = t.same }

  pub type_agrees : (bs : List ℕ) → Agree F (type_in F ws top d bs) (type_in F ws' top' d bs)
  type_agrees bs = by_register (lt_or_ge d F)
    where
      by_text : d < F → (x : Bool) → is_whole (reads blank bs).place ≡ x
          → Agree F (type_in F ws top d bs) (type_in F ws' top' d bs)
      by_text h true e =
          rw (type_whole F ws top d bs t.one h e, type_whole F ws' top' d bs t.two h e)
          (plan_agrees h (expression (reads blank bs)) (coded_read bs e))
      by_text h false e =
          rw (type_stopped F ws top d bs t.one h e, type_stopped F ws' top' d bs t.two h e)
          (refusals (stop_verdict (reads blank bs).place))

      by_register : (d < F) ⊎ (F ≤ d) → Agree F (type_in F ws top d bs) (type_in F ws' top' d bs)
      by_register (inl h) = by_text h (is_whole (reads blank bs).place) refl
      by_register (inr h) =
          rw (type_none F ws top d bs t.one h, type_none F ws' top' d bs t.two h) (refusals (only 20))
