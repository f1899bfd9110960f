-- What a judgement says of a byte. In order:
--   judge_suits   a bracket that closes is one that is open
--   judged        a byte is judged by whether as many terms have begun as may
-- Assumes nothing.
use mathlib.Core.Path.{◌≡◌, sym, subst}
use mathlib.Core.Bool.{Bool}
use Prim.Native.Nat.{ℕ}
use lib.Dec.{leb}
use Rattle.std.specs.Prelude.{Result}
use Rattle.meaning.specs.Limits.{terms_limit}
use Rattle.meaning.specs.Judge.{Stand, Move, judge}
use Rattle.meaning.specs.Reader.{is_full}
use Rattle.meaning.proofs.reader.Moves.{judge_cases}
use Rattle.reader.specs.Readers.{stand_of, judgement_of, Suits, Judged}
use Rattle.reader.specs.declared.judging.Fault.{Fault}
use Rattle.reader.specs.declared.judging.Move as code
use Rattle.reader.specs.declared.Reader.{Reader}

judge_suits : (s : Stand) (depth : ℕ) (full : Bool) (b : ℕ) → Suits (judge s depth full b) depth
judge_suits s depth full b =
    judge_cases (λ (m : Move). Suits m depth) b depth full (λ s. tt)
    (λ d e h k n. tt) (λ e h n. tt) (λ a d e h l. tt) (λ e h. h) (λ e. tt) s

pub judged : (r : Reader) (b : ℕ) (m : Result code.Move Fault)
    → judgement_of m ≡ judge (stand_of r.stand) r.depth (leb 65536 r.total) b → Judged r b m
unfolding is_full terms_limit
judged r b m e =
    (e, subst (λ (x : Move). Suits x r.depth) (sym e) (judge_suits (stand_of r.stand) r.depth (leb 65536 r.total) b))
