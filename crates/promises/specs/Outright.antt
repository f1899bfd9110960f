-- Demand 2, the twelve outright: on a sound store each operation, by its number and with operands that are right, does
-- to expressions what SCOPE 4.1 says, where there is room as 4.4 says. In order:
--   Sets, SetsInRoom, Refuses   what may come of a call
--   Outright                    the twelve
-- Assumes nothing.
use Rattle.std.specs.Prelude.{◌≡◌, ◌⊎◌, ◌≢◌, List, ℕ, ◌+◌, ◌≤◌, ◌<◌}
use Rattle.meaning.specs.Expr.{Expr, nothing, symbol, parens, append, terms}
use Rattle.meaning.specs.Sound.{IsCode, capacity, Sound}
use Rattle.meaning.specs.Meaning.{meaning}
use Rattle.meaning.specs.Reach.{live}
use Rattle.meaning.specs.Collected.{collected}
use Rattle.meaning.specs.Verdicts.{Done, done, refused, only}
use Rattle.meaning.specs.Call.{step}
use Rattle.promises.specs.Room.{without}

-- done, with value 0: register d denotes x, and every other register what it denoted
pub record Sets (F : ℕ) (ws : List ℕ) (d : ℕ) (x : Expr) (r : Done) : Type 0 where
  pub status : r.verdict.status ≡ 0
  pub value : r.verdict.value ≡ 0
  pub here : meaning r.words d ≡ x
  pub others : (i : ℕ) → i < F → i ≢ d → meaning r.words i ≡ meaning ws i

-- the same where there is room for n new cells beside live, and else 16
pub record SetsInRoom (F : ℕ) (ws : List ℕ) (live d n : ℕ) (x : Expr) (r : Done) : Type 0 where
  pub room : F + live + n ≤ capacity ws → Sets F ws d x r
  pub no_room : capacity ws < F + live + n → r.verdict.status ≡ 16

-- refused with s, and nothing changed
abbrev pub Refuses : List ℕ → ℕ → ℕ → Done → Type 0
Refuses ws top s r = r ≡ refused ws top (only s)

pub record Outright (F : ℕ) (ws : List ℕ) (top : ℕ) : Type 0 where
  -- CLEAR d, COPY d a
  pub clear : (d : ℕ) → d < F → Sets F ws d nothing (step F ws top 0 d 0 0)
  pub copy : (d a : ℕ) → d < F → a < F → Sets F ws d (meaning ws a) (step F ws top 1 d a 0)
  -- SYMBOL d a: one new cell; live is taken with d empty
  pub symbols : (d a : ℕ) → d < F → IsCode a
      → SetsInRoom F ws (live F (without d ws) top) d 1 (symbol a nothing) (step F ws top 2 d a 0)
  -- WRAP d a: one new cell; live is taken with d empty unless a is d
  pub wrap : (d a : ℕ) → d < F → a < F → d ≢ a
      → SetsInRoom F ws (live F (without d ws) top) d 1 (parens (meaning ws a) nothing) (step F ws top 3 d a 0)
  pub wrap_own : (d : ℕ) → d < F
      → SetsInRoom F ws (live F ws top) d 1 (parens (meaning ws d) nothing) (step F ws top 3 d d 0)
  -- JOIN d a b: no new cell where one of the two is empty, else as many as both have terms; live is taken with d empty
  -- unless a or b is d
  pub join_shares : (d a b : ℕ) → d < F → a < F → b < F
      → (terms (meaning ws a) ≡ 0) ⊎ (terms (meaning ws b) ≡ 0)
      → Sets F ws d (append (meaning ws a) (meaning ws b)) (step F ws top 4 d a b)
  pub join_copies : (d a b : ℕ) → d < F → a < F → b < F → terms (meaning ws a) ≢ 0 → terms (meaning ws b) ≢ 0
      → d ≢ a → d ≢ b
      → SetsInRoom F ws (live F (without d ws) top) d (terms (meaning ws a) + terms (meaning ws b))
      (append (meaning ws a) (meaning ws b)) (step F ws top 4 d a b)
  pub join_own : (d a b : ℕ) → d < F → a < F → b < F → terms (meaning ws a) ≢ 0 → terms (meaning ws b) ≢ 0
      → (d ≡ a) ⊎ (d ≡ b)
      → SetsInRoom F ws (live F ws top) d (terms (meaning ws a) + terms (meaning ws b))
      (append (meaning ws a) (meaning ws b)) (step F ws top 4 d a b)
  -- HEAD d a: the first term
  pub head_none : (d a : ℕ) → d < F → a < F → meaning ws a ≡ nothing → Refuses ws top 14 (step F ws top 5 d a 0)
  pub head_symbol : (d a c : ℕ) (e : Expr) → d < F → a < F → meaning ws a ≡ symbol c e
      → Sets F ws d (symbol c nothing) (step F ws top 5 d a 0)
  pub head_bracket : (d a : ℕ) (i e : Expr) → d < F → a < F → meaning ws a ≡ parens i e
      → Sets F ws d (parens i nothing) (step F ws top 5 d a 0)
  -- REST d a: all but the first term
  pub rest_none : (d a : ℕ) → d < F → a < F → meaning ws a ≡ nothing → Refuses ws top 14 (step F ws top 6 d a 0)
  pub rest_symbol : (d a c : ℕ) (e : Expr) → d < F → a < F → meaning ws a ≡ symbol c e
      → Sets F ws d e (step F ws top 6 d a 0)
  pub rest_bracket : (d a : ℕ) (i e : Expr) → d < F → a < F → meaning ws a ≡ parens i e
      → Sets F ws d e (step F ws top 6 d a 0)
  -- OPEN d a: what is inside the first term
  pub open_none : (d a : ℕ) → d < F → a < F → meaning ws a ≡ nothing → Refuses ws top 14 (step F ws top 7 d a 0)
  pub open_symbol : (d a c : ℕ) (e : Expr) → d < F → a < F → meaning ws a ≡ symbol c e
      → Refuses ws top 15 (step F ws top 7 d a 0)
  pub open_bracket : (d a : ℕ) (i e : Expr) → d < F → a < F → meaning ws a ≡ parens i e
      → Sets F ws d i (step F ws top 7 d a 0)
  -- LENGTH a, FIRST a, LIVE, COLLECT
  pub lengths : (a : ℕ) → a < F → step F ws top 8 0 a 0 ≡ done ws top (terms (meaning ws a))
  pub first_none : (a : ℕ) → a < F → meaning ws a ≡ nothing → Refuses ws top 14 (step F ws top 9 0 a 0)
  pub first_symbol : (a c : ℕ) (e : Expr) → a < F → meaning ws a ≡ symbol c e → step F ws top 9 0 a 0 ≡ done ws top c
  pub first_bracket : (a : ℕ) (i e : Expr) → a < F → meaning ws a ≡ parens i e
      → Refuses ws top 15 (step F ws top 9 0 a 0)
  pub lives : step F ws top 10 0 0 0 ≡ done ws top (live F ws top)
  pub collects : step F ws top 11 0 0 0 ≡ done (collected F ws top) (F + live F ws top) (live F ws top)

abbrev pub CallsOutright : Type 0
CallsOutright = (F : ℕ) → 0 < F → (ws : List ℕ) (top : ℕ) → Sound F ws top → Outright F ws top
