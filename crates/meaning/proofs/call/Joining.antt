-- JOIN by which of the two registers are empty. Assumes nothing.
use mathlib.Core.Path.{◌≡◌, refl}
use mathlib.Core.Logic.{◌≢◌}
use mathlib.Core.List.{List}
use Prim.Native.Nat.{ℕ, zero, suc, ◌+◌}
use Rattle.meaning.specs.Actions.{share, new_run}
use Rattle.meaning.specs.Call.{with_room, join_plan, carry_out}

module _ (F : ℕ) (v ws : List ℕ) (top d a b : ℕ) where
  pub join_first_empty : (n m : ℕ) → n ≡ 0 → carry_out F (join_plan n m v d a b) ws top ≡ share d b ws top
  unfolding carry_out
  join_first_empty n m e = rw e refl

  pub join_second_empty : (n m : ℕ) → n ≢ 0 → m ≡ 0 → carry_out F (join_plan n m v d a b) ws top ≡ share d a ws top
  unfolding carry_out
  join_second_empty zero m p e = absurd (p refl)
  join_second_empty (suc n) m p e = rw e refl

  pub join_neither_empty : {x y n m : ℕ} → x ≡ n → y ≡ m → x ≢ 0 → y ≢ 0
      → carry_out F (join_plan n m v d a b) ws top ≡ with_room F (x + y) v (new_run d a b) ws top
  join_neither_empty {x} {y} e f p q = rw (← e, ← f) (go x y p q)
    where
      go : (n m : ℕ) → n ≢ 0 → m ≢ 0
          → carry_out F (join_plan n m v d a b) ws top ≡ with_room F (n + m) v (new_run d a b) ws top
      go zero m p q = absurd (p refl)
      go (suc n) zero p q = absurd (q refl)
      go (suc n) (suc m) p q = unfold carry_out in refl
