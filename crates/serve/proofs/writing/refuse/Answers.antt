-- `serve::writing::refuse` meets its contract. Assumes nothing.
use Rattle.std.proofs.Common.{ℕ, List, [], ◌∷◌}
use Rattle.meaning.specs.Program.{lines_of, refusal}
use Rattle.serve.proofs.Spacing.{first_ok, both_front}
use Rattle.serve.proofs.writing.refuse.Goals as goal

-- `refused `, and the line of the number s
abbrev name : List ℕ
name = 114 ∷ 101 ∷ 102 ∷ 117 ∷ 115 ∷ 101 ∷ 100 ∷ 32 ∷ []

abbrev rest : ℕ → List ℕ
rest s = lines_of (s ∷ 0 ∷ [])

pub unwrap-name-requires : goal.unwrap-name-requires
unfolding refusal
unwrap-name-requires c = first_ok name (rest c.args.s) c.args.out.now c.requires _ _ c.put_bytes.ensures

pub returns : goal.returns
unfolding refusal
returns c =
    rw c.unwrap_or.ensures
    (both_front name (rest c.args.s) c.args.out.now c.requires _ _ c.put_bytes.ensures _ c.unwrap-name.ensures _ _
    c.line.ensures)
