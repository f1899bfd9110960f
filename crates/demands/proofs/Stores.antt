-- The example, computed: one computation for all that the premises ask for. Assumes nothing.
use Rattle.std.specs.Prelude.{Ok}
use mathlib.Core.Path.{◌≡◌, refl, ap}
use mathlib.Core.List.{List}
use Prim.Native.Nat.{ℕ, ◌+◌, ◌*◌}
use native.Mathlib.Omega.{arith}
use lib.ListN.{get_or}
use Rattle.words.specs.Second.{flag, decode}
use Rattle.meaning.specs.Limits.{limit, code_test, depth_limit, terms_limit, calls_limit}
use Rattle.meaning.specs.Sound.{at}
use Rattle.meaning.specs.Reach.{reached, live}
use Rattle.meaning.specs.Collected.{new_address, collected_of, collected}
use Rattle.meaning.specs.Check.{bracket_rule, below_rule, broken_rule, cell_test, length_test, top_test, verdict_at}
use Rattle.meaning.specs.Check.{check}
use Rattle.meaning.specs.Check.{collect_in}
use Rattle.meaning.specs.Operands.{ops, op_at, uses, names, is_operand, wrong11, wrong12, wrong13, fault}
use Rattle.meaning.specs.Actions.{put, copy, share, head, rest, open_term, open_first, code_term, code_first}
use Rattle.meaning.specs.Actions.{new_symbol, new_bracket, new_run_of, new_run}
use Rattle.meaning.specs.Call.{keeps, sought, plan_of, lacks, room_words, room_top, with_room, carry_out, perform}
use Rattle.meaning.specs.Call.{step_after}
use Rattle.meaning.specs.Call.{step}
use Rattle.meaning.specs.Batch.{ended, calls_test, batch_of, batch}
use Rattle.meaning.specs.Judge.{is_digit, with_digit, first_move, later_move, more_move}
use Rattle.meaning.specs.Reader.{is_full, at_start, is_whole, stop_verdict, read, blank}
use Rattle.meaning.specs.Lay.{new_cells}
use Rattle.meaning.specs.Typed.{typed_of, type_in}
use Rattle.promises.proofs.Final.{check_answers, alike_is_collected}
use Rattle.collect.specs.Answers.{Collects}
use Rattle.demands.specs.Runs.{Happened, words_after, top_after}
use Rattle.demands.specs.Example.{F, first, second, first_history, second_history, Met, PremisesMet}
use Rattle.demands.specs.Example.{HistoriesUnseen, OneMoreCollection}
use Rattle.demands.proofs.Histories.{runs_never_show}

record Computed : Type 0 where
  sound : (check F first (F + 2)).status ≡ 0
  sound' : (check F second (F + 1)).status ≡ 0
  alike : collect_in F first (F + 2) ≡ collect_in F second (F + 1)
  happened : Happened first (F + 2) first_history
  happened' : Happened second (F + 1) second_history
  again : Collects (words_after second second_history) (top_after (F + 1) second_history) (Ok (record { live = 2; top = F + 2 }))
      (words_after second second_history)

computed : Computed
unfolding limit code_test depth_limit terms_limit calls_limit at reached live new_address collected_of collected decode
    flag bracket_rule below_rule broken_rule cell_test length_test top_test verdict_at check collect_in ops op_at uses
    wrong11 wrong12 wrong13 fault put copy share head rest open_term open_first code_term code_first new_symbol
    new_bracket new_run_of new_run names is_operand keeps sought plan_of lacks room_words room_top with_room carry_out
    perform step_after step ended calls_test batch_of batch is_digit with_digit first_move later_move more_move is_full
    at_start is_whole stop_verdict read blank new_cells typed_of type_in
computed = record {
  sound = refl;
  sound' = refl;
  alike = refl;
  happened = (refl, (refl, refl, (refl, (refl, (refl, tt)))));
  happened' = (refl, (refl, refl, (refl, (refl, (refl, (refl, tt))))));
  again = refl;
}

-- ---- the premises, and that the stores differ: in register 0 before, in cell F + 2 after

met : Met
met =
    let s = (check_answers F first (F + 2)).sound.0 computed.sound in
    let s' = (check_answers F second (F + 1)).sound.0 computed.sound' in
    record {
      sound = s;
      sound' = s';
      capacities = refl;
      alike = (alike_is_collected F (omega arith) first (F + 2) second (F + 1) s s' refl).1 computed.alike;
      happened = computed.happened;
      happened' = computed.happened';
      struck = refl;
    }

pub premises_met : PremisesMet
premises_met = (
  met,
  λ e. let z : ◌≡◌ {A = ℕ} (F + 1) F = ap (λ (l : List ℕ). get_or l 0 0) e in omega (arith, z),
  λ e. let z : ◌≡◌ {A = ℕ} 66 0 = ap (λ (l : List ℕ). get_or l (2 * (F + 2)) 0) e in omega (arith, z),
)

-- ---- the demand, of these two

pub histories_unseen : HistoriesUnseen
histories_unseen =
    runs_never_show first (F + 2) second (F + 1) met.sound met.sound' met.capacities met.alike first_history
    second_history met.happened met.happened' met.struck

pub one_more_collection : OneMoreCollection
one_more_collection r v h =
    let e = histories_unseen.equal r (Ok (record { live = 2; top = F + 2 })) v (words_after second second_history) h computed.again in
    (e.1, e.2)
