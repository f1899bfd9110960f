use Rattle.store.proofs.Damage.{clear_more, gathered}
use Rattle.store.proofs.passes.all_pass.Goals as goal

pub loop-c-preserved : goal.loop-c-preserved
loop-c-preserved g c =
    clear_more _ _ c.loop-c.invariant (gathered (λ t. goal.F-post g c.args.test c.loop-c.c t) c.test.ensures)
