-- Demand 1: whatever words are handed in, each public function answers with a number from its table (SCOPE 4.5, 5),
-- in the table's order, and a refusal leaves everything as it was lent.
-- Assumes nothing.
use Rattle.std.specs.Prelude.{◌≡◌, ◌⊎◌, ◌≢◌, ◌↔◌, true, List, [], ◌∷◌, ℕ, zero, suc, ◌+◌, ◌-◌, ◌*◌, ◌/◌, ◌≤◌, ◌<◌}
use Rattle.std.specs.Prelude.{length, get_or}
use Rattle.words.specs.Cell.{first_word, second_word}
use Rattle.words.specs.Second.{decode, bracket_to}
use Rattle.meaning.specs.Limits.{limit}
use Rattle.meaning.specs.Expr.{nothing}
use Rattle.meaning.specs.Sound.{empty, ends, at, capacity, IsCode, Allowed, CellRule, Sound}
use Rattle.meaning.specs.Meaning.{meaning}
use Rattle.meaning.specs.Reach.{live}
use Rattle.meaning.specs.Collected.{collected}
use Rattle.meaning.specs.Verdicts.{Verdict, only, damaged_at, Done}
use Rattle.meaning.specs.Check.{broken_rule, check, collect_in}
use Rattle.meaning.specs.Fresh.{fresh, fresh_in}
use Rattle.meaning.specs.Look.{look}
use Rattle.meaning.specs.Call.{step}
use Rattle.meaning.specs.Batch.{Outcome, as_lent, AllowedCalls, batch}

-- n is one of these numbers
abbrev pub OneOf : ℕ → List ℕ → Type 0
OneOf n [] = ⊥
OneOf n (m ∷ ms) = (n ≡ m) ⊎ OneOf n ms

abbrev pub Not : Type 0 → Type 0
Not A = A → ⊥

-- `top` lies between the registers and the end
abbrev pub TopRule : ℕ → List ℕ → ℕ → Type 0
TopRule F ws top = (F ≤ top) × (top ≤ capacity ws)

-- ---- the rules of a cell (SCOPE 1.6): what each says of the words a and b of cell c, whatever other rule they break

-- 1: a mark or a chain flag is set
abbrev pub StrayBit : ℕ → Type 0
StrayBit b = ((decode b).used ≡ true) ⊎ ((decode b).lc ≡ true) ⊎ ((decode b).rc ≡ true)

-- 2: a register without the bracket bit
abbrev pub NotBracket : ℕ → ℕ → ℕ → ℕ → Type 0
NotBracket F top c b = (c < top) × (c < F) × (b < bracket_to 0)

-- 3: the second word is that of an empty bracket, and the first is not
abbrev pub BadEmpty : ℕ → ℕ → ℕ → ℕ → Type 0
BadEmpty top c a b = (c < top) × (b ≡ bracket_to 0) × (a ≢ 0)

-- 4: without the bracket bit, and no symbol
abbrev pub BadSymbol : ℕ → ℕ → ℕ → ℕ → Type 0
BadSymbol top c a b = (c < top) × (b < bracket_to 0) × Not (IsCode a × (b ≡ 0))

-- 5: a bracket that is not empty, with ends out of order or range: a register's lie below `top`, those of a heap cell
-- below itself
abbrev pub EndsRight : ℕ → ℕ → ℕ → ℕ → ℕ → Type 0
EndsRight F top c l r = (F ≤ l) × (l ≤ r) × (c < F → r < top) × (F ≤ c → r < c)

abbrev pub BadEnds : ℕ → ℕ → ℕ → ℕ → ℕ → Type 0
BadEnds F top c a b =
    (c < top) × ((r : ℕ) × (b ≡ bracket_to r) × Not ((a ≡ 0) × (r ≡ 0)) × Not (EndsRight F top c a r))

-- 6: a cell beyond `top` that is not two zero words
abbrev pub BeyondTop : ℕ → ℕ → ℕ → ℕ → Type 0
BeyondTop top c a b = (top ≤ c) × Not ((a ≡ 0) × (b ≡ 0))

abbrev pub rules : ℕ → ℕ → ℕ → ℕ → ℕ → List (Type 0)
rules F top c a b =
    StrayBit b ∷ NotBracket F top c b ∷ BadEmpty top c a b ∷ BadSymbol top c a b ∷ BadEnds F top c a b ∷
    BeyondTop top c a b ∷ []

-- q is the number of the first of these that holds, counted from 1, or 0 where none does
abbrev pub FirstOf : List (Type 0) → ℕ → Type 0
FirstOf [] zero = Unit {0}
FirstOf [] (suc q) = ⊥
FirstOf (A ∷ As) zero = Not A × FirstOf As zero
FirstOf (A ∷ As) (suc zero) = A
FirstOf (A ∷ As) (suc (suc q)) = Not A × FirstOf As (suc q)

-- the judgement gives a rule's number exactly where that rule is the first that the cell breaks
abbrev pub RulesInWords : Type 0
RulesInWords = (F top c a b q : ℕ) → (broken_rule F top c a b ≡ q) ↔ FirstOf (rules F top c a b) q

-- and 0 exactly where the cell keeps the rule that makes a store sound
abbrev pub NoneBroken : Type 0
NoneBroken =
    (F : ℕ) (ws : List ℕ) (top c : ℕ) → F ≤ top → top ≤ limit
    → (broken_rule F top c (first_word ws c) (second_word ws c) ≡ 0) ↔ CellRule F ws top c

-- ---- the check: 0 exactly for a sound store, 3 with the lowest cell that breaks its rule, and which rule it is

pub data Judged (F : ℕ) (ws : List ℕ) (top : ℕ) : Verdict → Type 0 where
  bad_length : Not (Allowed F (length ws)) → Judged F ws top (only 1)
  bad_top : Allowed F (length ws) → Not (TopRule F ws top) → Judged F ws top (only 2)
  bad_cell : (c q : ℕ) → Allowed F (length ws) → TopRule F ws top → c < capacity ws → Not (CellRule F ws top c)
      → FirstOf (rules F top c (first_word ws c) (second_word ws c)) q
      → ((x : ℕ) → x < c → CellRule F ws top x) → Judged F ws top (damaged_at c q)
  is_sound : Sound F ws top → Judged F ws top (only 0)

pub record CheckTable (F : ℕ) (ws : List ℕ) (top : ℕ) (v : Verdict) : Type 0 where
  pub number : OneOf v.status (0 ∷ 1 ∷ 2 ∷ 3 ∷ [])
  pub value : v.status ≢ 3 → v.value ≡ 0
  pub rule : v.status ≢ 3 → v.rule ≡ 0
  pub broken : v.status ≡ 3 → OneOf v.rule (1 ∷ 2 ∷ 3 ∷ 4 ∷ 5 ∷ 6 ∷ [])
  pub sound : (v.status ≡ 0 → Sound F ws top) × (Sound F ws top → v.status ≡ 0)
  pub judged : Judged F ws top v

abbrev pub CheckAnswers : Type 0
CheckAnswers = (F : ℕ) (ws : List ℕ) (top : ℕ) → CheckTable F ws top (check F ws top)

-- ---- a fresh store: 0 with `top` F, or 1 with `top` 0 and the slice unchanged

pub record FreshTable (F : ℕ) (ws : List ℕ) (r : Done) : Type 0 where
  pub number : OneOf r.verdict.status (0 ∷ 1 ∷ [])
  pub value : r.verdict.value ≡ 0
  pub rule : r.verdict.rule ≡ 0
  pub made : Allowed F (length ws) → (r.verdict.status ≡ 0) × (r.words ≡ fresh F (capacity ws)) × (r.top ≡ F)
  pub sound : Allowed F (length ws) → Sound F r.words r.top × ((i : ℕ) → i < F → meaning r.words i ≡ nothing)
  pub refused : Not (Allowed F (length ws)) → (r.verdict.status ≡ 1) × (r.words ≡ ws) × (r.top ≡ 0)

abbrev pub FreshAnswers : Type 0
FreshAnswers = (F : ℕ) (ws : List ℕ) → FreshTable F ws (fresh_in F ws)

-- ---- collecting alone: 1 to 3 with everything as it came, or 0 with live and the new `top`

pub record CollectTable (F : ℕ) (ws : List ℕ) (top : ℕ) (r : Done) : Type 0 where
  pub number : OneOf r.verdict.status (0 ∷ 1 ∷ 2 ∷ 3 ∷ [])
  pub rule : r.verdict.status ≢ 3 → r.verdict.rule ≡ 0
  pub collects : Sound F ws top
      → (r.verdict.status ≡ 0) × (r.verdict.value ≡ live F ws top)
      × (r.words ≡ collected F ws top) × (r.top ≡ F + live F ws top)
  pub refused : Not (Sound F ws top)
      → Judged F ws top r.verdict × (r.verdict.status ≢ 0) × (r.words ≡ ws) × (r.top ≡ top)

abbrev pub CollectAnswers : Type 0
CollectAnswers = (F : ℕ) (ws : List ℕ) (top : ℕ) → CollectTable F ws top (collect_in F ws top)

-- ---- the look: the words of the register's cells, from its left end to its right end; nothing for an empty register,
-- a register that is none, or an unsound store

pub record LookTable (F : ℕ) (ws : List ℕ) (top i : ℕ) (part : List ℕ) : Type 0 where
  pub unsound : Not (Sound F ws top) → part ≡ []
  pub none : F ≤ i → part ≡ []
  pub no_contents : at ws i ≡ empty → part ≡ []
  pub cells : (l r : ℕ) → Sound F ws top → i < F → at ws i ≡ ends l r
      → (length part ≡ 2 * (suc r - l)) × ((j : ℕ) → j < length part → get_or part j 0 ≡ get_or ws (2 * l + j) 0)

abbrev pub LookAnswers : Type 0
LookAnswers = (F : ℕ) → 0 < F → (ws : List ℕ) (top i : ℕ) → LookTable F ws top i (look F ws top i)

-- ---- a batch: 1 to 5 leave the store and the answers as lent and give `top` back as it came

-- two words a call
abbrev pub SpaceRule : List ℕ → List ℕ → Type 0
SpaceRule calls out = 2 * (length calls / 4) ≤ length out

pub data Batched (F : ℕ) (ws : List ℕ) (top : ℕ) (calls out : List ℕ) : Outcome → Type 0 where
  unsound : (v : Verdict) → Judged F ws top v → v.status ≢ 0 → Batched F ws top calls out (as_lent v ws top out)
  bad_calls : Sound F ws top → Not (AllowedCalls (length calls))
      → Batched F ws top calls out (as_lent (only 4) ws top out)
  bad_space : Sound F ws top → AllowedCalls (length calls) → Not (SpaceRule calls out)
      → Batched F ws top calls out (as_lent (only 5) ws top out)
  runs : (r : Outcome) → Sound F ws top → AllowedCalls (length calls) → SpaceRule calls out → r.verdict ≡ only 0
      → Batched F ws top calls out r

pub record BatchTable (F : ℕ) (ws : List ℕ) (top : ℕ) (calls out : List ℕ) (r : Outcome) : Type 0 where
  pub number : OneOf r.verdict.status (0 ∷ 1 ∷ 2 ∷ 3 ∷ 4 ∷ 5 ∷ [])
  pub value : r.verdict.status ≢ 3 → r.verdict.value ≡ 0
  pub rule : r.verdict.status ≢ 3 → r.verdict.rule ≡ 0
  pub kept : r.verdict.status ≢ 0 → (r.words ≡ ws) × (r.top ≡ top) × (r.answers ≡ out)
  pub batched : Batched F ws top calls out r
  -- a batch of no calls is 0 and changes no store word
  pub no_calls : Sound F ws top → calls ≡ [] → (r.verdict.status ≡ 0) × (r.words ≡ ws) × (r.top ≡ top)

abbrev pub BatchAnswers : Type 0
BatchAnswers =
    (F : ℕ) (ws : List ℕ) (top : ℕ) (calls out : List ℕ) → BatchTable F ws top calls out (batch F ws top calls out)

-- ---- one call of a batch: 10 to 15 change no store word; no refusal changes a register's expression

pub record CallTable (F : ℕ) (ws : List ℕ) (top : ℕ) (r : Done) : Type 0 where
  pub number : OneOf r.verdict.status (0 ∷ 10 ∷ 11 ∷ 12 ∷ 13 ∷ 14 ∷ 15 ∷ 16 ∷ [])
  pub value : r.verdict.status ≢ 0 → r.verdict.value ≡ 0
  pub rule : r.verdict.rule ≡ 0
  pub kept : OneOf r.verdict.status (10 ∷ 11 ∷ 12 ∷ 13 ∷ 14 ∷ 15 ∷ []) → (r.words ≡ ws) × (r.top ≡ top)
  pub expressions : r.verdict.status ≢ 0 → (i : ℕ) → i < F → meaning r.words i ≡ meaning ws i
  pub sound : Sound F r.words r.top
  pub len : length r.words ≡ length ws

abbrev pub CallAnswers : Type 0
CallAnswers =
    (F : ℕ) → 0 < F → (ws : List ℕ) (top : ℕ) → Sound F ws top → (o d a b : ℕ)
    → CallTable F ws top (step F ws top o d a b)
