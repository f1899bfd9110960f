-- The calls of a batch, one by one: call number i of a list, and what it leaves.
-- Assumes nothing.
use Rattle.std.specs.Prelude.{◌≡◌, List, ℕ, ◌+◌, ◌*◌, get_or, set}
use Rattle.meaning.specs.Limits.{first_heap_cell}
use Rattle.meaning.specs.Verdicts.{Done}
use Rattle.meaning.specs.Call.{step}
use Rattle.meaning.specs.Batch.{Ran}

-- call number i of a list
abbrev pub call_at : List ℕ → ℕ → List ℕ → ℕ → Done
call_at ws top calls i =
    step first_heap_cell ws top (get_or calls (4 * i) 0) (get_or calls (4 * i + 1) 0) (get_or calls (4 * i + 2) 0)
    (get_or calls (4 * i + 3) 0)

-- what it leaves: the words, `top`, and the answers with its own two
pub record CallDone (c : Done) (i : ℕ) (out : List ℕ) (t : ℕ) (ws out' : List ℕ) : Type 0 where
  pub words : ws ≡ c.words
  pub top : t ≡ c.top
  pub answers : out' ≡ set (set out (2 * i) c.verdict.status) (2 * i + 1) c.verdict.value

-- calls run: `top`, the words and the answers
abbrev pub ran_to : ℕ → List ℕ → List ℕ → Ran
ran_to top ws out = record { words = ws; top = top; answers = out }
