-- A batch of calls as it is lent: the store, `top`, the call list and the answer space (SCOPE 5.1, 5.6).
-- Assumes nothing.
use Rattle.std.specs.Prelude.{◌≡◌, Bool, false, cond, List, [], ◌∷◌, ◌++◌, ℕ, ◌-◌, ◌*◌, ◌/◌, ◌%◌, ◌≤◌, leb, eqb, length}
use Rattle.std.specs.Prelude.{replicate}
use Rattle.meaning.specs.Limits.{calls_limit}
use Rattle.meaning.specs.Verdicts.{Verdict, only, if_sound, Done}
use Rattle.meaning.specs.Check.{check}
use Rattle.meaning.specs.Call.{step}

-- the calls one after the other, later ones after a refused one too: the store and `top` after the last, and all
-- answers, a status and a value each
pub record Ran : Type 0 where
  pub words : List ℕ
  pub top : ℕ
  pub answers : List ℕ

abbrev pub then : Done → Ran → Ran
then c q = record {
  words = q.words;
  top = q.top;
  answers = c.verdict.status ∷ c.verdict.value ∷ q.answers;
}

abbrev pub runs : ℕ → List ℕ → ℕ → List ℕ → Ran
runs F ws top [] = record { words = ws; top = top; answers = [] }
runs F ws top (o ∷ []) = record { words = ws; top = top; answers = [] }
runs F ws top (o ∷ d ∷ []) = record { words = ws; top = top; answers = [] }
runs F ws top (o ∷ d ∷ a ∷ []) = record { words = ws; top = top; answers = [] }
runs F ws top (o ∷ d ∷ a ∷ b ∷ cs) = let c = step F ws top o d a b in then c (runs F c.words c.top cs)

pub record Outcome : Type 0 where
  pub verdict : Verdict
  pub words : List ℕ
  pub top : ℕ
  pub answers : List ℕ

-- refused: everything as it was lent
abbrev pub as_lent : Verdict → List ℕ → ℕ → List ℕ → Outcome
as_lent v ws top out = record { verdict = v; words = ws; top = top; answers = out }

-- run to its end: the answers, and zeros after them
unfoldable pub ended : Ran → List ℕ → Outcome
ended r out = record {
  verdict = only 0;
  words = r.words;
  top = r.top;
  answers = r.answers ++ replicate (length out - length r.answers) 0;
}

-- how many words a call list may have: whole calls, no more than the limit
pub record AllowedCalls (n : ℕ) : Type 0 where
  pub short : n ≤ calls_limit
  pub whole : n % 4 ≡ 0

unfoldable pub calls_test : ℕ → Bool
calls_test n = cond (leb n calls_limit) (eqb (n % 4) 0) false

-- 4 and 5, where the store is sound
unfoldable pub batch_of : ℕ → List ℕ → ℕ → List ℕ → List ℕ → Outcome
batch_of F ws top calls out =
    cond (calls_test (length calls))
    (cond (leb (2 * (length calls / 4)) (length out)) (ended (runs F ws top calls) out) (as_lent (only 5) ws top out))
    (as_lent (only 4) ws top out)

-- 1 to 3 first
unfoldable pub batch : ℕ → List ℕ → ℕ → List ℕ → List ℕ → Outcome
batch F ws top calls out =
    if_sound (check F ws top) (batch_of F ws top calls out) (as_lent (check F ws top) ws top out)
