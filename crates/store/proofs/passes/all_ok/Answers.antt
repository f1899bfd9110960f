-- `store::passes::all_ok` meets its contract. Assumes nothing.
use mathlib.Core.Path.{sym, ◌∙◌}
use mathlib.Core.Bool.{false≢true}
use Rattle.meaning.specs.Limits.{first_heap_cell}
use Rattle.store.proofs.Damage.{all_keep}
use Rattle.store.proofs.passes.all_ok.Goals as goal
use Rattle.store.proofs.passes.all_ok.Goals.{then-registers_ok, else-registers_ok}

pub returns-then-heap_ok : goal.returns-then-heap_ok
returns-then-heap_ok c =
    elim c.if-registers_ok.branch [
      | then-registers_ok w ↦
          all_keep first_heap_cell c.args.ws.now c.args.top w.if-registers_ok.true
          (sym w.value-is ∙ c.if-heap_ok.true) c.registers_ok.ensures w.heap_ok.ensures c.free_ok.ensures
      | else-registers_ok w ↦ absurd (false≢true (sym w.if-registers_ok.false ∙ sym w.value-is ∙ c.if-heap_ok.true))
    ]
