-- A run turned round, a pair of cells a turn. In order:
--   half, apart              where the last pair is, and that a pair that is still to come is two cells
--   Turning                  i pairs have changed places
--   begin, onward, finish    none has;  one pair more;  as many as the run has cells, or all there are
-- Assumes nothing.
use mathlib.Core.Path.{◌≡◌, refl, sym, ap, ◌∙◌}
use mathlib.Core.Logic.{◌⊎◌, inl, inr}
use mathlib.Core.List.{List}
use Prim.Native.Nat.{ℕ, ◌+◌, ◌-◌, ◌*◌, ◌/◌, ◌≤◌, ◌<◌, min}
use native.Mathlib.Omega.{arith}
use native.Mathlib.Decide.{ℕ_discrete}
use Rattle.meaning.proofs.Lists.{lt_or_ge}
use Rattle.typing.specs.Cells.{two, Swapped, Kept, Turned}
use Rattle.typing.proofs.Twos.{kept_all}

-- where fewer pairs have changed places than the run has cells, all have but one cell in the middle
half : (n m i j : ℕ) → i ≡ min n (m / 2) → i ≤ j → j < n → m ≤ 2 * i + 1
half n m i j e g h = omega arith

-- a pair that is still to change places
pub apart : (low high n swaps i : ℕ) → swaps ≡ min n ((high - low) / 2) → i < swaps → low + i + 1 < high - i
apart low high n swaps i e h = omega arith

-- i pairs have changed places; what lies between is as it was
pub record Turning (ws : List ℕ) (low high : ℕ) (vs : List ℕ) (i : ℕ) : Type 0 where
  pub most : low + i ≤ high - i
  pub fits : i ≤ high
  pub down : (j : ℕ) → j < i → two vs (low + j) ≡ two ws (high - 1 - j)
  pub up : (j : ℕ) → j < i → two vs (high - 1 - j) ≡ two ws (low + j)
  pub between : (c : ℕ) → low + i ≤ c → c + i < high → two vs c ≡ two ws c
  pub kept : Kept ws low high vs

pub begin : (ws : List ℕ) (low high : ℕ) → low ≤ high → Turning ws low high ws 0
begin ws low high h = record {
  most = omega arith;
  fits = omega arith;
  down = λ j l. absurd (omega arith);
  up = λ j l. absurd (omega arith);
  between = λ c p q. refl;
  kept = kept_all ws low high;
}

module _ (ws : List ℕ) (low high : ℕ) (vs : List ℕ) (i : ℕ) (k : Turning ws low high vs i) where
  -- one pair more
  module _ (us : List ℕ) (l : low + i + 1 < high - i) (s : Swapped vs (low + i) (high - 1 - i) us) where
    abbrev a : ℕ
    a = low + i

    abbrev b : ℕ
    b = high - 1 - i

    at_a : two us a ≡ two ws b
    at_a = s.first ∙ k.between b (omega arith) (omega arith)

    at_b : two us b ≡ two ws a
    at_b = s.second ∙ k.between a (omega arith) (omega arith)

    down_more : (j : ℕ) → j < i + 1 → Dec (j ≡ i) → two us (low + j) ≡ two ws (high - 1 - j)
    down_more j h (yes e) = rw e at_a
    down_more j h (no n) =
        s.other (low + j) (λ e. n (omega arith)) (λ e. omega (arith, n)) ∙ k.down j (omega (arith, n))

    up_more : (j : ℕ) → j < i + 1 → Dec (j ≡ i) → two us (high - 1 - j) ≡ two ws (low + j)
    up_more j h (yes e) = rw e at_b
    up_more j h (no n) =
        s.other (high - 1 - j) (λ e. omega (arith, n)) (λ e. n (omega arith)) ∙ k.up j (omega (arith, n))

    pub onward : Turning ws low high us (i + 1)
    onward = record {
      most = omega arith;
      fits = omega arith;
      down = λ j h. down_more j h (ℕ_discrete j i);
      up = λ j h. up_more j h (ℕ_discrete j i);
      between = λ c p q. s.other c (λ e. omega arith) (λ e. omega arith) ∙ k.between c (omega arith) (omega arith);
      kept = record {
        below = λ c h. s.other c (λ e. omega arith) (λ e. omega arith) ∙ k.kept.below c h;
        above = λ c h. s.other c (λ e. omega arith) (λ e. omega arith) ∙ k.kept.above c h;
        long = s.long ∙ k.kept.long;
      };
    }

  middle : (j : ℕ) → low + j < high → i ≤ j → high - low ≤ 2 * i + 1
      → (high - low - 1 - j < i) ⊎ (i ≤ high - low - 1 - j) → two vs (low + j) ≡ two ws (high - 1 - j)
  middle j l g h (inl m) =
      let p : high - 1 - (high - low - 1 - j) ≡ low + j = omega arith in
      let q : low + (high - low - 1 - j) ≡ high - 1 - j = omega arith in
      sym (ap (two vs) p) ∙ (k.up (high - low - 1 - j) m ∙ ap (two ws) q)
  middle j l g h (inr m) =
      let p : low + j ≡ high - 1 - j = omega arith in
      k.between (low + j) (omega arith) (omega arith) ∙ ap (two ws) p

  -- as many pairs as the run has cells, or all there are
  pub finish : (n : ℕ) → low + n ≤ high → i ≡ min n ((high - low) / 2) → Turned ws low high n vs
  finish n l e = record { cells = λ j h. cell j h (lt_or_ge j i); kept = k.kept }
    where
      cell : (j : ℕ) → j < n → (j < i) ⊎ (i ≤ j) → two vs (low + j) ≡ two ws (high - 1 - j)
      cell j h (inl g) = k.down j g
      cell j h (inr g) = middle j (omega arith) g (half n (high - low) i j e g h) (lt_or_ge (high - low - 1 - j) i)
