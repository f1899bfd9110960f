-- A call's own words: the definition's table of numbers is the claims' table of rows, and each test says what its rule
-- says. Assumes nothing.
use mathlib.Core.Path.{◌≡◌, refl}
use mathlib.Core.Logic.{◌⊎◌, inl, inr}
use mathlib.Core.Bool.{Bool, true, false, cond, ◌&&◌, ◌||◌, false≢true}
use Prim.Native.Nat.{ℕ, ◌+◌, ◌*◌, ◌≤◌}
use native.Mathlib.Omega.{arith}
use lib.Dec.{eqb}
use lib.ListN.{get_or}
use borrow.Author.Tests.{leb-true, le-leb, ltb-true, lt-ltb, eqb-true}
use Rattle.meaning.specs.Limits.{code_test}
use Rattle.meaning.specs.Operands.{uses, wrong11, wrong12, wrong13, fault}
use Rattle.meaning.proofs.Counting.{both_true, refuted}
use Rattle.meaning.proofs.sound.Cells.{code_range, range_code}
use Rattle.meaning.proofs.operands.Uses.{all_at, three, Faults, ten, eleven, twelve, thirteen, none, faults}
use Rattle.promises.specs.Table.{Not}
use Rattle.promises.specs.OwnWords.{Use, register, code, unused, row_of, NoRegister, Stray, NoCode, Some}
use Rattle.promises.specs.OwnWords.{OwnFault, no_operation, no_register, stray, no_code, no_fault, FaultsInWords}
use Rattle.promises.specs.OwnWords.{CodesInWords, FaultRows, OneFault}

-- ---- the two tables

number : Use → ℕ
number register = 1
number code = 2
number unused = 0

same_row : ℕ → Bool
same_row o =
    eqb (get_or uses (3 * o) 0) (number (row_of o).d) && eqb (get_or uses (3 * o + 1) 0) (number (row_of o).a)
    && eqb (get_or uses (3 * o + 2) 0) (number (row_of o).b)

tables : (o : ℕ) → o ≤ 11
    → (get_or uses (3 * o) 0 ≡ number (row_of o).d) × (get_or uses (3 * o + 1) 0 ≡ number (row_of o).a)
    × (get_or uses (3 * o + 2) 0 ≡ number (row_of o).b)
unfolding same_row uses number
tables o h =
    let s = all_at same_row 12 o refl (omega arith) in
    let x = both_true _ _ s in
    let y = both_true _ _ x.0 in
    (eqb-true _ _ y.0, eqb-true _ _ y.1, eqb-true _ _ x.1)

-- ---- a test of one word, and its rule

module _ (P : Use → ℕ → Type 0) (wrong : ℕ → ℕ → Bool) (says : (u : Use) (w : ℕ) → wrong (number u) w ≡ true → P u w)
    (said : (u : Use) (w : ℕ) → P u w → wrong (number u) w ≡ true) (o d a b : ℕ) (h : o ≤ 11) where
  or_some : (x y z : Bool) → (x || y || z) ≡ true → (x ≡ true) ⊎ ((y ≡ true) ⊎ (z ≡ true))
  or_some true y z e = inl refl
  or_some false true z e = inr (inl refl)
  or_some false false z e = inr (inr e)

  some_of : three wrong o d a b ≡ true → Some P o d a b
  some_of e = go (or_some _ _ _ e)
    where
      t : (get_or uses (3 * o) 0 ≡ number (row_of o).d) × (get_or uses (3 * o + 1) 0 ≡ number (row_of o).a)
          × (get_or uses (3 * o + 2) 0 ≡ number (row_of o).b)
      t = tables o h

      go : (wrong (get_or uses (3 * o) 0) d ≡ true)
          ⊎ ((wrong (get_or uses (3 * o + 1) 0) a ≡ true) ⊎ (wrong (get_or uses (3 * o + 2) 0) b ≡ true))
          → Some P o d a b
      go (inl x) = inl (says (row_of o).d d (rw t.0 at x))
      go (inr (inl x)) = inr (inl (says (row_of o).a a (rw t.1 at x)))
      go (inr (inr x)) = inr (inr (says (row_of o).b b (rw t.2 at x)))

  or_second : (x z : Bool) → (x || true || z) ≡ true
  or_second true z = refl
  or_second false z = refl

  or_third : (x y : Bool) → (x || y || true) ≡ true
  or_third true y = refl
  or_third false true = refl
  or_third false false = refl

  of_some : Some P o d a b → three wrong o d a b ≡ true
  of_some s = go s
    where
      t : (get_or uses (3 * o) 0 ≡ number (row_of o).d) × (get_or uses (3 * o + 1) 0 ≡ number (row_of o).a)
          × (get_or uses (3 * o + 2) 0 ≡ number (row_of o).b)
      t = tables o h

      go : Some P o d a b → three wrong o d a b ≡ true
      go (inl x) = rw (t.0, said (row_of o).d d x) refl
      go (inr (inl x)) = rw (t.1, said (row_of o).a a x)
          (or_second (wrong (get_or uses (3 * o) 0) d) (wrong (get_or uses (3 * o + 2) 0) b))
      go (inr (inr x)) = rw (t.2, said (row_of o).b b x)
          (or_third (wrong (get_or uses (3 * o) 0) d) (wrong (get_or uses (3 * o + 1) 0) a))

module _ (F : ℕ) where
  says11 : (u : Use) (w : ℕ) → wrong11 F (number u) w ≡ true → NoRegister F u w
  unfolding wrong11 number
  says11 register w e = leb-true F w e
  says11 code w e = absurd (false≢true e)
  says11 unused w e = absurd (false≢true e)

  said11 : (u : Use) (w : ℕ) → NoRegister F u w → wrong11 F (number u) w ≡ true
  unfolding wrong11 number
  said11 register w h = le-leb F w h
  said11 code w h = absurd h
  said11 unused w h = absurd h

says12 : (u : Use) (w : ℕ) → wrong12 (number u) w ≡ true → Stray u w
unfolding wrong12 number
says12 register w e = absurd (false≢true e)
says12 code w e = absurd (false≢true e)
says12 unused w e = ltb-true 0 w e

said12 : (u : Use) (w : ℕ) → Stray u w → wrong12 (number u) w ≡ true
unfolding wrong12 number
said12 register w h = absurd h
said12 code w h = absurd h
said12 unused w h = lt-ltb 0 w h

says13 : (u : Use) (w : ℕ) → wrong13 (number u) w ≡ true → NoCode u w
unfolding wrong13 number
says13 register w e = absurd (false≢true e)
says13 code w e = go (code_test w) e
  where
    go : (t : Bool) → cond t false true ≡ true → t ≡ true → ⊥
    go true e f = absurd (false≢true e)
    go false e f = absurd (false≢true f)
says13 unused w e = absurd (false≢true e)

said13 : (u : Use) (w : ℕ) → NoCode u w → wrong13 (number u) w ≡ true
unfolding wrong13 number
said13 register w h = absurd h
said13 code w h = go (code_test w) h
  where
    go : (t : Bool) → (t ≡ true → ⊥) → cond t false true ≡ true
    go true n = absurd (n refl)
    go false n = refl
said13 unused w h = absurd h

-- ---- the claims

pub codes_in_words : CodesInWords
codes_in_words a = (code_range a, λ h. range_code a h.0 h.1)

pub faults_in_words : FaultsInWords
faults_in_words F o d a b = go (faults F o d a b)
  where
    not11 : o ≤ 11 → three (wrong11 F) o d a b ≡ false → Not (Some (NoRegister F) o d a b)
    not11 h e = refuted _ (of_some (NoRegister F) (wrong11 F) (says11 F) (said11 F) o d a b h) e

    not12 : o ≤ 11 → three wrong12 o d a b ≡ false → Not (Some Stray o d a b)
    not12 h e = refuted _ (of_some Stray wrong12 says12 said12 o d a b h) e

    not13 : o ≤ 11 → three wrong13 o d a b ≡ false → Not (Some NoCode o d a b)
    not13 h e = refuted _ (of_some NoCode wrong13 says13 said13 o d a b h) e

    go : {f : ℕ} → Faults F o d a b f → OwnFault F o d a b f
    go (ten h) = no_operation h
    go (eleven h x) = no_register h (some_of (NoRegister F) (wrong11 F) (says11 F) (said11 F) o d a b h x)
    go (twelve h x y) = stray h (not11 h x) (some_of Stray wrong12 says12 said12 o d a b h y)
    go (thirteen h x y z) = no_code h (not11 h x) (not12 h y) (some_of NoCode wrong13 says13 said13 o d a b h z)
    go (none h x y z) = no_fault h (not11 h x) (not12 h y) (not13 h z)

pub fault_rows : FaultRows
unfolding fault uses wrong11 wrong12 wrong13 code_test
fault_rows = record {
  twelfth = refl;
  no_such_register = refl;
  stray_word = refl;
  too_large = refl;
  zero_code = refl;
  eleven_before_twelve = refl;
  twelve_before_thirteen = refl;
  eleven_before_thirteen = refl;
  copy_right = refl;
  least_right = refl;
  most_right = refl;
  rest_right = refl;
  open_right = refl;
}

pub one_fault : OneFault
one_fault F o d a b s t (no_operation h) (no_operation k) = refl
one_fault F o d a b s t (no_operation h) (no_register k x) = absurd (omega arith)
one_fault F o d a b s t (no_operation h) (stray k x y) = absurd (omega arith)
one_fault F o d a b s t (no_operation h) (no_code k x y z) = absurd (omega arith)
one_fault F o d a b s t (no_operation h) (no_fault k x y z) = absurd (omega arith)
one_fault F o d a b s t (no_register h u) (no_operation k) = absurd (omega arith)
one_fault F o d a b s t (no_register h u) (no_register k x) = refl
one_fault F o d a b s t (no_register h u) (stray k x y) = absurd (x u)
one_fault F o d a b s t (no_register h u) (no_code k x y z) = absurd (x u)
one_fault F o d a b s t (no_register h u) (no_fault k x y z) = absurd (x u)
one_fault F o d a b s t (stray h u v) (no_operation k) = absurd (omega arith)
one_fault F o d a b s t (stray h u v) (no_register k x) = absurd (u x)
one_fault F o d a b s t (stray h u v) (stray k x y) = refl
one_fault F o d a b s t (stray h u v) (no_code k x y z) = absurd (y v)
one_fault F o d a b s t (stray h u v) (no_fault k x y z) = absurd (y v)
one_fault F o d a b s t (no_code h u v w) (no_operation k) = absurd (omega arith)
one_fault F o d a b s t (no_code h u v w) (no_register k x) = absurd (u x)
one_fault F o d a b s t (no_code h u v w) (stray k x y) = absurd (v y)
one_fault F o d a b s t (no_code h u v w) (no_code k x y z) = refl
one_fault F o d a b s t (no_code h u v w) (no_fault k x y z) = absurd (z w)
one_fault F o d a b s t (no_fault h u v w) (no_operation k) = absurd (omega arith)
one_fault F o d a b s t (no_fault h u v w) (no_register k x) = absurd (u x)
one_fault F o d a b s t (no_fault h u v w) (stray k x y) = absurd (v y)
one_fault F o d a b s t (no_fault h u v w) (no_code k x y z) = absurd (w z)
one_fault F o d a b s t (no_fault h u v w) (no_fault k x y z) = refl
