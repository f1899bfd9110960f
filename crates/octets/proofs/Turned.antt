-- A number's digits, found from the last one on and put into a list from its end. In order:
--   some_digit          a number has a digit
--   drop_set            what stands from a place on where that place is set
--   Turned              the digits found so far, from place f on; those of r are to come
--   turned_room, turned_more, turned_end
-- Assumes nothing.
use mathlib.Core.Path.{◌≡◌, refl, sym, ap, ◌∙◌}
use mathlib.Core.Logic.{◌≢◌}
use mathlib.Core.Bool.{Bool, true, false}
use mathlib.Core.List.{List, [], ◌∷◌, ◌++◌, append_assoc}
use Prim.Native.Nat.{ℕ, zero, suc, ◌+◌, ◌-◌, ◌/◌, ◌%◌, ◌^◌, ◌≤◌, ◌<◌}
use native.Mathlib.Omega.{arith}
use lib.Dec.{ltb}
use lib.ListN.{length, take, drop, set, length-set, length-append, length-drop}
use lib.Seq.{take_all}
use borrow.Author.Tests.{ltb-true, ltb-false}
use Rattle.octets.specs.Decimal.{decimal}
use Rattle.octets.proofs.Decimals.{decimal_one, decimal_more, length_one, length_more, long_digits}

some_digit : (n : ℕ) → 0 < length (decimal n)
some_digit n = go (ltb n 10) refl
  where
    go : (t : Bool) → ltb n 10 ≡ t → 0 < length (decimal n)
    go true e = omega (arith, length_one n (ltb-true n 10 e))
    go false e = omega (arith, length_more n (ltb-false n 10 e))

drop_set : (ds : List ℕ) (k x : ℕ) → k < length ds → drop k (set ds k x) ≡ x ∷ drop (suc k) ds
drop_set [] k x h = absurd (omega arith)
drop_set (d ∷ ds) zero x h = refl
drop_set (d ∷ ds) (suc k) x h = drop_set ds k x (omega arith)

pub record Turned (n : ℕ) (ds : List ℕ) (f r : ℕ) : Type 0 where
  pub many : length ds ≡ 20
  pub found : decimal r ++ drop f ds ≡ decimal n

module _ (n : ℕ) (ds : List ℕ) (f r : ℕ) (t : Turned n ds f r) where
  -- as no number has more than twenty digits, there is a place for one that is to come
  pub turned_room : n < 2 ^ 64 → f ≤ 20 → 0 < f
  turned_room h l =
      omega (
        arith,
        long_digits n h,
        some_digit r,
        ap length t.found,
        length-append (decimal r) (drop f ds),
        length-drop f ds,
        t.many,
      )

  module _ (p : 0 < f) (l : f ≤ 20) where
    abbrev b : ℕ
    b = 48 + r % 10

    next_found : drop (f - 1) (set ds (f - 1) b) ≡ b ∷ drop f ds
    next_found =
        let s : suc (f - 1) ≡ f = omega arith in rw (drop_set ds (f - 1) b (omega (arith, t.many)), s) refl

    pub turned_more : r / 10 ≢ 0 → Turned n (set ds (f - 1) b) (f - 1) (r / 10)
    turned_more m = record {
      many = length-set ds (f - 1) b ∙ t.many;
      found =
          rw next_found
          (sym (append_assoc (decimal (r / 10)) (b ∷ []) (drop f ds))
          ∙ (ap (λ (x : List ℕ). x ++ drop f ds) (sym (decimal_more r (omega (arith, m)))) ∙ t.found));
    }

    -- all are found: the part of the list from there on is the number
    pub turned_end : r / 10 ≡ 0 → take (20 - (f - 1)) (drop (f - 1) (set ds (f - 1) b)) ≡ decimal n
    turned_end z =
        let m : r % 10 ≡ r = omega (arith, z) in
        let ds' = set ds (f - 1) b in
        take_all (20 - (f - 1)) (drop (f - 1) ds')
        (omega (arith, length-drop (f - 1) ds', length-set ds (f - 1) b, t.many))
        ∙ (next_found ∙ (rw m (ap (λ (x : List ℕ). x ++ drop f ds) (sym (decimal_one r (omega (arith, z))))) ∙ t.found))
