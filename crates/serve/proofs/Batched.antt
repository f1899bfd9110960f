-- A batch on a fresh store is not refused, and what it leaves is what the program has to write. In order:
--   made_top, ran_top                  the `top` that an answer says, whatever the words and the answers are
--   run_output                         what the calls leave in the fresh store is what the program has to write
--   cells_fit, calls_fit               the store and the answers fit the program's buffers
--   part, part_length, part_capacity   a part of a buffer of zeros, its words and its cells
--   lent_parts                         what the program lends is enough for the batch and its lines
-- Assumes nothing.
use mathlib.Core.Path.{◌≡◌, refl, sym, ap, ap₂, ◌∙◌}
use mathlib.Core.List.{List, ◌++◌}
use Rattle.std.specs.Prelude.{Result, Ok, Err}
use Rattle.std.specs.Result.{result_unwrap_or}
use Prim.Native.Nat.{ℕ, ◌+◌, ◌*◌, ◌/◌, ◌≤◌}
use native.Mathlib.Omega.{arith}
use lib.ListN.{length, take, replicate, length-replicate}
use lib.Seq.{length-take-le}
use Rattle.meaning.specs.Limits.{first_heap_cell, calls_limit, program_cells, program_bytes}
use Rattle.meaning.specs.Sound.{Sound, capacity}
use Rattle.meaning.specs.Verdicts.{Done, done}
use Rattle.meaning.specs.Fresh.{fresh, fresh_in}
use Rattle.meaning.specs.Batch.{runs, Outcome, batch}
use Rattle.meaning.specs.Program.{lines_of, written, output}
use Rattle.meaning.proofs.fresh.Fresh.{fresh_sound}
use Rattle.meaning.proofs.check.Checking.{yes_length}
use Rattle.meaning.proofs.batch.Cases.{batch_answers, batch_top}
use Rattle.meaning.proofs.program.Tests.{program_cells_lem}
use Rattle.serve.specs.Lines.{top_line}
use Rattle.serve.specs.Needs.{BatchFits, CallsFit, program_answers}
use Rattle.store.specs.Answers.{made_in}
use Rattle.calls.specs.Answers.{ran_in}
use Rattle.store.specs.declared.BadLength.{BadLength}
use Rattle.calls.specs.declared.NotRun.{NotRun}
use Rattle.calls.specs.declared.NotRun.TheVariants as not_run

-- ---- what an answer's case says apart from the words and the answers

made_top : (m : Result ℕ BadLength) (ws : List ℕ) → (made_in m ws).top ≡ result_unwrap_or m 0
made_top (Ok t) ws = refl
made_top (Err e) ws = refl

made_words : (m : Result ℕ BadLength) (ws : List ℕ) → (made_in m ws).words ≡ ws
made_words (Ok t) ws = refl
made_words (Err e) ws = refl

ran_top : (r : Result ℕ NotRun) (ws : List ℕ) (top : ℕ) (answers : List ℕ)
    → (ran_in r ws top answers).top ≡ result_unwrap_or r top
ran_top (Ok t) ws top answers = refl
ran_top (Err (not_run.Unsound u)) ws top answers = refl
ran_top (Err not_run.BadCalls) ws top answers = refl
ran_top (Err not_run.ShortAnswers) ws top answers = refl

ran_answers : (r : Result ℕ NotRun) (ws : List ℕ) (top : ℕ) (answers : List ℕ)
    → (ran_in r ws top answers).answers ≡ answers
ran_answers (Ok t) ws top answers = refl
ran_answers (Err (not_run.Unsound u)) ws top answers = refl
ran_answers (Err not_run.BadCalls) ws top answers = refl
ran_answers (Err not_run.ShortAnswers) ws top answers = refl

-- ---- the whole

module _ (ws cs out : List ℕ) (l : BatchFits ws cs out) where
  fresh_done : fresh_in first_heap_cell ws ≡ done (fresh first_heap_cell (capacity ws)) first_heap_cell 0
  unfolding fresh_in
  fresh_done = rw (yes_length first_heap_cell (length ws) l.store)

  module _ (m : Result ℕ BadLength) (ws' : List ℕ) (e : made_in m ws' ≡ fresh_in first_heap_cell ws) where
    fresh_words : ws' ≡ fresh first_heap_cell (capacity ws)
    fresh_words = sym (made_words m ws') ∙ ap (λ (d : Done). d.words) (e ∙ fresh_done)

    fresh_top : result_unwrap_or m 0 ≡ first_heap_cell
    fresh_top = sym (made_top m ws') ∙ ap (λ (d : Done). d.top) (e ∙ fresh_done)

    -- what is left by the calls, run where the fresh store is
    pub run_output : (r : Result ℕ NotRun) (ws'' out' : List ℕ) (t t' : ℕ) → t ≡ result_unwrap_or m 0
        → ran_in r ws'' t out' ≡ batch first_heap_cell ws' t cs out → t' ≡ result_unwrap_or r t
        → lines_of out' ++ top_line t' ≡ output first_heap_cell (capacity ws) cs
    unfolding output written
    run_output r ws'' out' t t' p q u =
        let s : Sound first_heap_cell (fresh first_heap_cell (capacity ws)) first_heap_cell =
        fresh_sound first_heap_cell (capacity ws) (omega (arith, l.store.large)) (omega (arith, l.store.small)) in
        let b : batch first_heap_cell ws' t cs out
        ≡ batch first_heap_cell (fresh first_heap_cell (capacity ws)) first_heap_cell cs out =
        ap₂ (λ (w : List ℕ) (n : ℕ). batch first_heap_cell w n cs out) fresh_words (p ∙ fresh_top) in
        let a : out' ≡ (runs first_heap_cell (fresh first_heap_cell (capacity ws)) first_heap_cell cs).answers =
        sym (ran_answers r ws'' t out') ∙ ap (λ (o : Outcome). o.answers) (q ∙ b)
        ∙ batch_answers first_heap_cell (fresh first_heap_cell (capacity ws)) first_heap_cell cs out s l.list l.space in
        let n : t' ≡ (runs first_heap_cell (fresh first_heap_cell (capacity ws)) first_heap_cell cs).top =
        u ∙ sym (ran_top r ws'' t out') ∙ ap (λ (o : Outcome). o.top) (q ∙ b)
        ∙ batch_top first_heap_cell (fresh first_heap_cell (capacity ws)) first_heap_cell cs out s l.list l.space in
        rw (a, n)

-- ---- what the program lends

pub cells_fit : (n : ℕ) → n ≤ program_cells → 2 * n ≤ 2 * program_cells
cells_fit n h = omega arith

pub calls_fit : (n : ℕ) → n ≤ calls_limit → n / 4 * 2 ≤ program_answers
unfolding calls_limit program_bytes
calls_fit n h = omega arith

lends : (cells : ℕ) (cs : List ℕ) (room : ℕ) → CallsFit cells cs room → (ws out : List ℕ) → length ws ≡ 2 * cells
    → length out ≡ length cs / 4 * 2 → BatchFits ws cs out
lends cells cs room s ws out e f = record {
  store = record { even = omega arith; large = omega (arith, s.low); small = omega (arith, s.high, program_cells_lem) };
  list = s.list;
  space = omega arith;
}

-- a part of a buffer of zeros
abbrev pub part : ℕ → ℕ → List ℕ
part n m = take n (replicate m 0)

pub part_length : (n m : ℕ) → n ≤ m → n ≡ length (part n m)
part_length n m h = sym (length-take-le n (replicate m 0) (rw (length-replicate {A = ℕ} m 0) h))

pub part_capacity : (n m : ℕ) → 2 * n ≤ m → capacity (part (2 * n) m) ≡ n
part_capacity n m h = omega (arith, part_length (2 * n) m h)

-- the store and the answers that the program lends, with the room that the lines of so many answers take
pub lent_parts : (cells : ℕ) (cs : List ℕ) (room : ℕ) → CallsFit cells cs room
    → BatchFits (part (2 * cells) (2 * program_cells)) cs (part (length cs / 4 * 2) program_answers)
    × (11 * length (part (length cs / 4 * 2) program_answers) + 25 ≤ room)
lent_parts cells cs room s =
    let a = part_length (2 * cells) (2 * program_cells) (cells_fit cells s.high) in
    let b = part_length (length cs / 4 * 2) program_answers (calls_fit (length cs) s.list.short) in
    (lends cells cs room s _ _ (sym a) (sym b), omega (arith, calls_fit (length cs) s.list.short))
