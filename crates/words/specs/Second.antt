-- A cell's second word as a record of its five fields, and the two ways between them (SCOPE 1.2; Abramov and
-- Romanenko 1988, 3.1). Assumes nothing.
use Rattle.std.specs.Prelude.{Bool, true, false, not, ◌&&◌, ◌||◌, ℕ, ◌+◌, ◌*◌, ◌/◌, ◌%◌, ◌^◌, eqb}

-- bracket, used, left chain, right chain, right end
pub record Second : Type 0 where
  pub br : Bool
  pub used : Bool
  pub lc : Bool
  pub rc : Bool
  pub ri : ℕ

abbrev pub bit : Bool → ℕ
bit true = 1
bit false = 0

-- bit k of w
unfoldable pub flag : ℕ → ℕ → Bool
flag k w = eqb (w / 2 ^ k % 2) 1

-- Bit 31 says bracket, bit 30 used, bit 29 left chain, bit 28 right chain; the low 28 bits are the right end.
unfoldable pub decode : ℕ → Second
decode w = record { br = flag 31 w; used = flag 30 w; lc = flag 29 w; rc = flag 28 w; ri = w % 2 ^ 28 }

abbrev pub encode : Second → ℕ
encode s = bit s.br * 2 ^ 31 + bit s.used * 2 ^ 30 + bit s.lc * 2 ^ 29 + bit s.rc * 2 ^ 28 + s.ri

-- one field replaced
abbrev pub with_ri : ℕ → Second → Second
with_ri n s = record { br = s.br; used = s.used; lc = s.lc; rc = s.rc; ri = n }

abbrev pub with_lc : Bool → Second → Second
with_lc b s = record { br = s.br; used = s.used; lc = b; rc = s.rc; ri = s.ri }

abbrev pub with_rc : Bool → Second → Second
with_rc b s = record { br = s.br; used = s.used; lc = s.lc; rc = b; ri = s.ri }

-- a word between calls: no mark and no chain
abbrev pub plain : Bool → ℕ → Second
plain b n = record { br = b; used = false; lc = false; rc = false; ri = n }

-- a mark or a chain flag is set, as it never is between calls
abbrev pub stray : Second → Bool
stray s = s.used || s.lc || s.rc

-- a bracket with contents, by its flag and its right end; and by its second word
abbrev pub full : Bool → ℕ → Bool
full b r = b && not (eqb r 0)

abbrev pub full_word : ℕ → Bool
full_word w = full (decode w).br (decode w).ri

-- the second word of a bracket whose right end is r; 0 means empty
abbrev pub bracket_to : ℕ → ℕ
bracket_to r = 2147483648 + r
