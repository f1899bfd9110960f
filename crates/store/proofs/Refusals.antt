-- A rule is got back from its number, and an unsound store's refusal from its numbers; its number is 1, 2 or 3.
-- Assumes nothing.
use mathlib.Core.Path.{◌≡◌, refl, ap}
use mathlib.Core.Logic.{◌≢◌}
use Prim.Native.Nat.{ℕ, zero, suc, ◌-◌}
use native.Mathlib.Omega.{arith}
use Rattle.meaning.specs.Verdicts.{Verdict, on_zero, if_sound}
use Rattle.store.specs.Answers.{rule_number, refusal_of}
use Rattle.store.specs.declared.Rule.{Rule}
use Rattle.store.specs.declared.Rule.TheVariants.{StrayBit, NotBracket, BadEmpty, BadSymbol, BadEnds, BeyondTop}
use Rattle.store.specs.declared.Unsound.{Unsound}
use Rattle.store.specs.declared.Unsound.TheVariants as unsound

-- a rule by its number
abbrev pub rule_of : ℕ → Rule
rule_of zero = StrayBit
rule_of (suc zero) = StrayBit
rule_of (suc (suc zero)) = NotBracket
rule_of (suc (suc (suc zero))) = BadEmpty
rule_of (suc (suc (suc (suc zero)))) = BadSymbol
rule_of (suc (suc (suc (suc (suc zero))))) = BadEnds
rule_of (suc (suc (suc (suc (suc (suc n)))))) = BeyondTop

pub rule_of_back : (q : Rule) → rule_of (rule_number q) ≡ q
rule_of_back StrayBit = refl
rule_of_back NotBracket = refl
rule_of_back BadEmpty = refl
rule_of_back BadSymbol = refl
rule_of_back BadEnds = refl
rule_of_back BeyondTop = refl

pub rule_some : (q : Rule) → rule_number q ≢ 0
rule_some StrayBit e = absurd (omega arith)
rule_some NotBracket e = absurd (omega arith)
rule_some BadEmpty e = absurd (omega arith)
rule_some BadSymbol e = absurd (omega arith)
rule_some BadEnds e = absurd (omega arith)
rule_some BeyondTop e = absurd (omega arith)

-- by the status less one, with the value and the rule
abbrev numbered : ℕ → ℕ → ℕ → Unsound
numbered zero v q = unsound.BadLength
numbered (suc zero) v q = unsound.BadTop
numbered (suc (suc s)) v q = unsound.Damaged v (rule_of q)

abbrev pub unsound_of : Verdict → Unsound
unsound_of v = numbered (v.status - 1) v.value v.rule

pub unsound_of_back : (u : Unsound) → unsound_of (refusal_of u) ≡ u
unsound_of_back unsound.BadLength = refl
unsound_of_back unsound.BadTop = refl
unsound_of_back (unsound.Damaged c q) = ap (unsound.Damaged c) (rule_of_back q)

-- what is said of 1, 2 and 3 is said of the refusal's status
pub refusal_by : {A : Type 0} (f : ℕ → A) (y : A) → f 1 ≡ y → f 2 ≡ y → f 3 ≡ y → (u : Unsound)
    → f (refusal_of u).status ≡ y
refusal_by f y p q r unsound.BadLength = p
refusal_by f y p q r unsound.BadTop = q
refusal_by f y p q r (unsound.Damaged c n) = r

pub if_sound_refusal : {A : Type 0} (u : Unsound) (x y : A) → if_sound (refusal_of u) x y ≡ y
if_sound_refusal u x y = refusal_by (λ (s : ℕ). on_zero s x y) y refl refl refl u
