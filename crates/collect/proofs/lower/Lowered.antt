-- A cell's words from its fields, and a placed cell lowered. In order:
--   fields_of       a cell's second word as fields
--   bracket_is, code_is  the words of a cell without mark and chains
--   lowered_holder, lowered_other  a placed cell lowered;  lowered_zero  by nothing
-- Assumes nothing.
use mathlib.Core.Path.{◌≡◌, refl, sym, ◌∙◌, ap}
use mathlib.Core.Bool.{Bool, true, false, cond, ◌||◌}
use mathlib.Core.List.{List}
use Prim.Native.Nat.{ℕ, ◌-◌, ◌^◌, ◌<◌}
use native.Mathlib.Nat.{sub-zero}
use native.Mathlib.Omega.{arith}
use lib.Dec.{ltb}
use borrow.Author.Tests.{ne_eqb}
use Rattle.words.specs.Cell.{first_word, second_word}
use Rattle.words.specs.Second.{Second, full}
use Rattle.words.proofs.Plain.{plain_word, plain_code}
use Rattle.meaning.specs.Sound as S
use Rattle.collect.specs.Cells.{ChainCell, cell, val, mk}
use Rattle.collect.specs.Heap.{Heap, holder, place}
use Rattle.collect.specs.Chain.{placed_cell}
use Rattle.collect.specs.Step.{lowered}
use Rattle.collect.proofs.heap.Order.{holder_br, holder_full}

-- its second word's fields
abbrev pub fields_of : ChainCell → Second
fields_of c = record { br = c.br; used = c.used; lc = c.l.tag; rc = c.r.tag; ri = c.r.num }

-- the words of a cell without mark and chains
module _ (v : List ℕ) (d x n : ℕ) (fits : second_word v d < 2 ^ 32) where
  pub bracket_is : cell v d ≡ mk true false (val x) (val n)
      → (first_word v d ≡ x) × (second_word v d ≡ S.snd (S.ends x n))
  bracket_is e = (ap (λ (c : ChainCell). c.l.num) e, plain_word (second_word v d) n fits (ap fields_of e))

  pub code_is : cell v d ≡ mk false false (val x) (val n) → (first_word v d ≡ x) × (second_word v d ≡ n)
  code_is e = (ap (λ (c : ChainCell). c.l.num) e, plain_code (second_word v d) n fits (ap fields_of e))

-- a placed cell lowered by d, of a holder and of any other cell
module _ (g : Heap) (d c : ℕ) (k : (ltb c g.F || g.live c) ≡ true) where
  pub lowered_holder : holder g c ≡ true → 0 < place g (g.ri c)
      → lowered d (placed_cell g c) ≡ mk (g.br c) false (val (place g (g.li c) - d)) (val (place g (g.ri c) - d))
  unfolding lowered placed_cell
  lowered_holder h z = rw (h, holder_br g c h, ne_eqb (place g (g.ri c)) 0 (λ q. omega (arith, q)))

  pub lowered_other : holder g c ≡ false
      → lowered d (placed_cell g c) ≡ mk (g.br c) false (val (g.li c)) (val (g.ri c))
  unfolding lowered placed_cell
  lowered_other h = rw (h, sym (holder_full g c k) ∙ h)

  -- nothing is lower by 0
  pub lowered_zero : lowered 0 (placed_cell g c) ≡ placed_cell g c
  unfolding lowered placed_cell
  lowered_zero =
      let l : ℕ = (placed_cell g c).l.num in
      let r : ℕ = (placed_cell g c).r.num in
      λ i. mk (g.br c) false (val (same (full (g.br c) r) l i)) (val (same (full (g.br c) r) r i))
    where
      same : (b : Bool) (x : ℕ) → cond b (x - 0) x ≡ x
      same true x = sub-zero x
      same false x = refl
