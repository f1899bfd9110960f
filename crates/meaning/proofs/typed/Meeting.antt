-- A whole text typed into a register of a sound store does to expressions what it says. In order:
--   coded_read   the codes of what is read are codes
--   type_does    what the plan's action does, wherever there is room
--   type_meets   what carrying out the plan gives
-- Assumes nothing.
use mathlib.Core.Path.{◌≡◌, refl, ◌∙◌}
use mathlib.Core.Bool.{true, false}
use mathlib.Core.List.{List}
use Prim.Native.Nat.{ℕ, zero, suc, ◌<◌}
use native.Mathlib.Omega.{arith}
use Rattle.meaning.specs.Limits.{depth_limit}
use Rattle.meaning.specs.Expr.{Expr, nothing, symbol, parens}
use Rattle.meaning.specs.Sound.{Sound}
use Rattle.meaning.specs.Meaning.{meaning}
use Rattle.meaning.specs.Call.{carry_out}
use Rattle.meaning.specs.Effect.{typing}
use Rattle.meaning.specs.Text.{Readable}
use Rattle.meaning.specs.Reader.{reads, blank, is_whole, expression}
use Rattle.meaning.specs.Typed.{type_plan}
use Rattle.meaning.proofs.call.Sought.{sought_sound, sought_length, sought_meaning}
use Rattle.meaning.proofs.call.Plans.{PlanMeets, PlanDoes}
use Rattle.meaning.proofs.call.Plans.{carry_meets}
use Rattle.meaning.proofs.lay.Each.{Coded}
use Rattle.meaning.proofs.lay.Denoting.{text_acts}
use Rattle.meaning.proofs.reader.Forth.{text_of_read}

readable_coded : (left : ℕ) (e : Expr) → Readable left e → Coded e
readable_coded left nothing h = tt
readable_coded left (symbol a r) h = (h.0, readable_coded left r h.1)
readable_coded zero (parens i r) h = absurd h
readable_coded (suc left) (parens i r) h = (readable_coded left i h.0, readable_coded (suc left) r h.1)

pub coded_read : (bs : List ℕ) → is_whole (reads blank bs).place ≡ true → Coded (expression (reads blank bs))
coded_read bs w = readable_coded depth_limit (expression (reads blank bs)) (text_of_read bs w).readable

module _ (F : ℕ) (ws : List ℕ) (top : ℕ) (p : 0 < F) (s : Sound F ws top) (d : ℕ) (l : d < F) (e : Expr)
    (q : Coded e) where
  type_does : PlanDoes F ws top (typing (meaning ws) d e) (type_plan d e ws)
  type_does = (
    refl,
    sought_sound F ws top p s false d (λ _. l),
    sought_length false d ws,
    λ u t w f r.
        text_acts F p u t w e q r (meaning ws) d
        (λ i h n. f i h ∙ sought_meaning F ws top p s false d (λ _. l) i h (λ y. absurd (n y))) l,
  )

  pub type_meets : PlanMeets F ws top (typing (meaning ws) d e) (type_plan d e ws)
      (carry_out F (type_plan d e ws) ws top)
  type_meets = carry_meets F ws top p s (typing (meaning ws) d e) (omega arith) (type_plan d e ws) type_does
