-- Demand 2, statuses 10 to 13: what is wrong with a call's own words, by a row for each of the twelve operations (SCOPE
-- 4.1, 4.5). In order:
--   CodesInWords   a code in numbers
--   Use, Row   what a word of a call is for;  rows  the twelve
--   OwnFault   the first of 10 to 13 that applies, else 0
--   FaultsInWords, FaultRows, OneFault   the claims
-- Assumes nothing.
use Rattle.std.specs.Prelude.{◌≡◌, ◌⊎◌, List, [], ◌∷◌, ℕ, ◌≤◌, ◌<◌, get_or}
use Rattle.meaning.specs.Sound.{IsCode}
use Rattle.meaning.specs.Operands.{fault}
use Rattle.promises.specs.Table.{Not}

-- a code is 1 to 268,435,455
abbrev pub CodesInWords : Type 0
CodesInWords = (a : ℕ) → (IsCode a → (1 ≤ a) × (a ≤ 268435455)) × ((1 ≤ a) × (a ≤ 268435455) → IsCode a)

-- a word of a call names a register, is a code, or is not used
pub data Use : Type 0 where
  register code unused : Use

pub record Row : Type 0 where
  pub d : Use
  pub a : Use
  pub b : Use

abbrev pub row : Use → Use → Use → Row
row u v w = record { d = u; a = v; b = w }

abbrev pub rows : List Row
rows =
    row register unused unused ∷  -- 0 CLEAR d
    row register register unused ∷  -- 1 COPY d a
    row register code unused ∷  -- 2 SYMBOL d a
    row register register unused ∷  -- 3 WRAP d a
    row register register register ∷  -- 4 JOIN d a b
    row register register unused ∷  -- 5 HEAD d a
    row register register unused ∷  -- 6 REST d a
    row register register unused ∷  -- 7 OPEN d a
    row unused register unused ∷  -- 8 LENGTH a
    row unused register unused ∷  -- 9 FIRST a
    row unused unused unused ∷  -- 10 LIVE
    row unused unused unused ∷ []  -- 11 COLLECT

abbrev pub row_of : ℕ → Row
row_of o = get_or rows o (row unused unused unused)

-- a word that names a register names none; one that is not used is not 0; one that is a code is none
abbrev pub NoRegister : ℕ → Use → ℕ → Type 0
NoRegister F register w = F ≤ w
NoRegister F code w = ⊥
NoRegister F unused w = ⊥

abbrev pub Stray : Use → ℕ → Type 0
Stray register w = ⊥
Stray code w = ⊥
Stray unused w = 0 < w

abbrev pub NoCode : Use → ℕ → Type 0
NoCode register w = ⊥
NoCode code w = Not (IsCode w)
NoCode unused w = ⊥

-- so with one of the three words of a call
abbrev pub Some : (Use → ℕ → Type 0) → ℕ → ℕ → ℕ → ℕ → Type 0
Some P o d a b = P (row_of o).d d ⊎ (P (row_of o).a a ⊎ P (row_of o).b b)

-- the first that applies
pub data OwnFault (F o d a b : ℕ) : ℕ → Type 0 where
  no_operation : 11 < o → OwnFault F o d a b 10
  no_register : o ≤ 11 → Some (NoRegister F) o d a b → OwnFault F o d a b 11
  stray : o ≤ 11 → Not (Some (NoRegister F) o d a b) → Some Stray o d a b → OwnFault F o d a b 12
  no_code : o ≤ 11 → Not (Some (NoRegister F) o d a b) → Not (Some Stray o d a b) → Some NoCode o d a b
      → OwnFault F o d a b 13
  no_fault : o ≤ 11 → Not (Some (NoRegister F) o d a b) → Not (Some Stray o d a b) → Not (Some NoCode o d a b)
      → OwnFault F o d a b 0

abbrev pub FaultsInWords : Type 0
FaultsInWords = (F o d a b : ℕ) → OwnFault F o d a b (fault F o d a b)

-- with 16 registers: each of 10 to 13 alone, 11 before 12, 12 before 13, and calls that are right
pub record FaultRows : Type 0 where
  pub twelfth : fault 16 12 0 0 0 ≡ 10
  pub no_such_register : fault 16 1 0 16 0 ≡ 11
  pub stray_word : fault 16 6 0 0 1 ≡ 12
  pub too_large : fault 16 2 0 268435456 0 ≡ 13
  pub zero_code : fault 16 2 0 0 0 ≡ 13
  pub eleven_before_twelve : fault 16 0 16 1 0 ≡ 11
  pub twelve_before_thirteen : fault 16 2 0 268435456 1 ≡ 12
  pub eleven_before_thirteen : fault 16 2 16 268435456 0 ≡ 11
  pub copy_right : fault 16 1 15 15 0 ≡ 0
  pub least_right : fault 16 2 15 1 0 ≡ 0
  pub most_right : fault 16 2 15 268435455 0 ≡ 0
  pub rest_right : fault 16 6 15 15 0 ≡ 0
  pub open_right : fault 16 7 15 15 0 ≡ 0

abbrev pub OneFault : Type 0
OneFault = (F o d a b s t : ℕ) → OwnFault F o d a b s → OwnFault F o d a b t → s ≡ t
