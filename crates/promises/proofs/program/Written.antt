-- The program: its tests by the rules of its input, its lines by the answers of its batch; and the rows, computed.
-- Assumes nothing.
use mathlib.Core.Path.{◌≡◌, refl, sym, ap, ◌∙◌}
use mathlib.Core.Logic.{◌⊎◌, inl, inr}
use mathlib.Core.List.{List, [], ◌∷◌, ◌++◌}
use Prim.Native.Nat.{ℕ, ◌-◌, ◌*◌, ◌/◌, ◌%◌, ◌≤◌, ◌<◌}
use native.Mathlib.Omega.{arith}
use lib.ListN.{length, get_or, drop, replicate, length-drop, length-replicate}
use Rattle.octets.specs.Little.{words_of}
use Rattle.octets.specs.Decimal.{decimal}
use Rattle.octets.proofs.Endian.{words_length}
use Rattle.meaning.specs.Limits.{limit, code_test, calls_limit, program_cells, program_bytes}
use Rattle.meaning.specs.Sound.{at, Sound}
use Rattle.meaning.specs.Reach.{reached, live}
use Rattle.meaning.specs.Fresh.{fresh}
use Rattle.meaning.specs.Operands.{ops, op_at, uses, names, is_operand, wrong11, wrong12, wrong13, fault}
use Rattle.meaning.specs.Actions.{put, code_term, code_first, new_symbol}
use Rattle.meaning.specs.Call.{keeps, sought, plan_of, lacks, room_words, room_top, with_room, carry_out, perform}
use Rattle.meaning.specs.Call.{step_after}
use Rattle.meaning.specs.Call.{step}
use Rattle.meaning.specs.Batch.{Outcome, runs as calling, ended, AllowedCalls}
use Rattle.meaning.specs.Program.{lines_of, written, refusal, output, input_fault, program}
use Rattle.meaning.specs.Rows.{row_test}
use Rattle.meaning.proofs.Lists.{lt_or_ge}
use Rattle.meaning.proofs.fresh.Fresh.{fresh_sound}
use Rattle.meaning.proofs.batch.Batches.{runs_length}
use Rattle.meaning.proofs.batch.Cases.{batch_run, batch_answers, batch_top}
use Rattle.meaning.proofs.program.Tests.{too_short, too_small, too_large, too_long, broken, right}
use Rattle.meaning.proofs.program.Tests.{program_refused, program_output, program_take, program_cells_lem}
use Rattle.promises.specs.Table.{Not}
use Rattle.promises.specs.Requests.{verdicts}
use Rattle.promises.specs.Program.{capacity_in, CapacityRule, BytesRule, calls_in, batch_in, refused_one, refused_four}
use Rattle.promises.specs.Program.{lines_for, top_line, BatchWritten, ProgramWrites, ProgramReads}
use Rattle.promises.specs.ProgramRows.{ProgramRows}
use Rattle.promises.specs.Unique.{OneProgram}

-- ---- the words of an input are the capacity and the calls

capacity_word : (bs : List ℕ) → 4 ≤ length bs → capacity_in bs ≡ get_or (words_of bs) 0 0
capacity_word [] h = absurd (omega arith)
capacity_word (a ∷ []) h = absurd (omega arith)
capacity_word (a ∷ b ∷ []) h = absurd (omega arith)
capacity_word (a ∷ b ∷ c ∷ []) h = absurd (omega arith)
capacity_word (a ∷ b ∷ c ∷ d ∷ bs) h = refl

calls_words : (bs : List ℕ) → drop 1 (words_of bs) ≡ calls_in bs
calls_words [] = refl
calls_words (a ∷ []) = refl
calls_words (a ∷ b ∷ []) = refl
calls_words (a ∷ b ∷ c ∷ []) = refl
calls_words (a ∷ b ∷ c ∷ d ∷ bs) = refl

-- ---- a rule holds or it does not

capacity_or : (F : ℕ) (input : List ℕ) → CapacityRule F input ⊎ Not (CapacityRule F input)
capacity_or F input =
    go (lt_or_ge (length input) 4) (lt_or_ge (capacity_in input) F) (lt_or_ge program_cells (capacity_in input))
  where
    go : (length input < 4) ⊎ (4 ≤ length input) → (capacity_in input < F) ⊎ (F ≤ capacity_in input)
        → (program_cells < capacity_in input) ⊎ (capacity_in input ≤ program_cells)
        → CapacityRule F input ⊎ Not (CapacityRule F input)
    go (inl a) b c = inr (λ r. omega (arith, r.0))
    go (inr a) (inl b) c = inr (λ r. omega (arith, r.1))
    go (inr a) (inr b) (inl c) = inr (λ r. omega (arith, r.2))
    go (inr a) (inr b) (inr c) = inl (a, b, c)

bytes_or : (input : List ℕ) → BytesRule input ⊎ Not (BytesRule input)
bytes_or input = go (lt_or_ge program_bytes (length input)) (lt_or_ge 0 ((length input - 4) % 16))
  where
    go : (program_bytes < length input) ⊎ (length input ≤ program_bytes)
        → (0 < (length input - 4) % 16) ⊎ ((length input - 4) % 16 ≤ 0) → BytesRule input ⊎ Not (BytesRule input)
    go (inl d) f = inr (λ r. omega (arith, r.0))
    go (inr d) (inl f) = inr (λ r. omega (arith, r.1))
    go (inr d) (inr f) = inl (d, omega arith)

-- ---- the two refusals

module _ (F : ℕ) (input : List ℕ) where
  refused_one_lem : Not (CapacityRule F input) → program F input ≡ refused_one
  unfolding refusal decimal
  refused_one_lem n =
      program_refused F input 1 (sym (go (lt_or_ge (length input) 4) (lt_or_ge (capacity_in input) F)
      (lt_or_ge program_cells (capacity_in input)))) (omega arith)
    where
      go : (length input < 4) ⊎ (4 ≤ length input) → (capacity_in input < F) ⊎ (F ≤ capacity_in input)
          → (program_cells < capacity_in input) ⊎ (capacity_in input ≤ program_cells) → input_fault F input ≡ 1
      go (inl a) b c = too_short F input a
      go (inr a) (inl b) c = too_small F input a (capacity_in input) (capacity_word input a) b
      go (inr a) (inr b) (inl c) = too_large F input a (capacity_in input) (capacity_word input a) b c
      go (inr a) (inr b) (inr c) = absurd (n (a, b, c))

  refused_four_lem : CapacityRule F input → Not (BytesRule input) → program F input ≡ refused_four
  unfolding refusal decimal
  refused_four_lem (a, b, c) n =
      program_refused F input 4 (sym (go (lt_or_ge program_bytes (length input))
      (lt_or_ge 0 ((length input - 4) % 16))))
      (omega arith)
    where
      go : (program_bytes < length input) ⊎ (length input ≤ program_bytes)
          → (0 < (length input - 4) % 16) ⊎ ((length input - 4) % 16 ≤ 0) → input_fault F input ≡ 4
      go (inl d) f = too_long F input a (capacity_in input) (capacity_word input a) b c d
      go (inr d) (inl f) = broken F input a (capacity_in input) (capacity_word input a) b c d f
      go (inr d) (inr f) = absurd (n (d, omega arith))

-- ---- a batch that is run

-- a line for each two answer words
lines_for_lem : (answers : List ℕ) → lines_of answers ≡ lines_for (verdicts answers)
lines_for_lem [] = refl
lines_for_lem (s ∷ []) = refl
lines_for_lem (s ∷ v ∷ answers) =
    ap (λ (bs : List ℕ). decimal s ++ (32 ∷ decimal v ++ (10 ∷ bs))) (lines_for_lem answers)

verdicts_length : (answers : List ℕ) → length (verdicts answers) ≡ length answers / 2
verdicts_length [] = refl
verdicts_length (s ∷ []) = refl
verdicts_length (s ∷ v ∷ answers) = omega (arith, verdicts_length answers)

calls_length : (input : List ℕ) → length (calls_in input) ≡ (length input - 4) / 4
calls_length input = words_length (drop 4 input) ∙ ap (λ (n : ℕ). n / 4) (length-drop 4 input)

module _ (F : ℕ) (input : List ℕ) (r : CapacityRule F input) (b : BytesRule input) where
  abbrev cells : ℕ
  cells = capacity_in input

  abbrev calls : List ℕ
  calls = calls_in input

  abbrev space : List ℕ
  space = replicate (2 * (length calls / 4)) 0

  sound : Sound F (fresh F cells) F
  sound = fresh_sound F cells r.1 (omega (arith, r.2, program_cells_lem))

  list : AllowedCalls (length calls)
  unfolding program_bytes calls_limit
  list = record { short = omega (arith, calls_length input, b.0); whole = omega (arith, calls_length input, b.1) }

  just : length space ≡ 2 * (length calls / 4)
  just = length-replicate {A = ℕ} (2 * (length calls / 4)) 0

  answers : (batch_in F input).answers ≡ (calling F (fresh F cells) F calls).answers
  answers = batch_answers F (fresh F cells) F calls space sound list just

  top : (batch_in F input).top ≡ (calling F (fresh F cells) F calls).top
  top = batch_top F (fresh F cells) F calls space sound list just

  is_output : program F input ≡ output F cells calls
  is_output =
      program_output F input (right F input r.0 cells (capacity_word input r.0) r.1 r.2 b.0
      (omega (arith, b.1)))
      ∙ rw (← capacity_word input r.0, calls_words input) refl

  batch_written : BatchWritten F input (program F input)
  unfolding output written ended
  batch_written = record {
    ended =
        ap (λ (o : Outcome). o.verdict) (batch_run F (fresh F cells) F calls space sound list (omega (arith, just)));
    many = rw answers
        (let v = verdicts_length (calling F (fresh F cells) F calls).answers in
        let n = runs_length F (fresh F cells) F calls in
        omega (arith, v, n, calls_length input, b.1));
    lines = is_output ∙ rw (answers, top)
        (ap (λ (bs : List ℕ). bs ++ top_line (calling F (fresh F cells) F calls).top)
        (lines_for_lem (calling F (fresh F cells) F calls).answers));
  }

-- ---- the claims

pub program_writes : ProgramWrites
program_writes F input =
    record { one = refused_one_lem F input; four = refused_four_lem F input; runs = batch_written F input }

pub program_reads : ProgramReads
program_reads = program_take

pub program_rows_lem : ProgramRows
unfolding limit code_test program_cells program_bytes at reached live fresh ops op_at uses wrong11 wrong12 wrong13 fault
    put code_term code_first new_symbol names is_operand keeps sought plan_of lacks room_words room_top with_room
    carry_out perform step_after step decimal written refusal output input_fault program row_test
program_rows_lem = tt

pub one_program : OneProgram
one_program F input x y a b = go (capacity_or F input) (bytes_or input)
  where
    go : CapacityRule F input ⊎ Not (CapacityRule F input) → BytesRule input ⊎ Not (BytesRule input) → x ≡ y
    go (inr n) w = a.one n ∙ sym (b.one n)
    go (inl c) (inr n) = a.four c n ∙ sym (b.four c n)
    go (inl c) (inl w) = (a.runs c w).lines ∙ sym (b.runs c w).lines
