-- `serve::running::run_fresh` meets its contract. Assumes nothing.
use Rattle.serve.proofs.Batched.{run_output}
use Rattle.serve.proofs.running.run_fresh.Goals as goal

pub returns : goal.returns
returns c =
    run_output c.args.ws.now c.args.calls.now c.args.answers.now c.requires c.fresh.result c.fresh.new.ws
    c.fresh.ensures c.run.result c.run.new.ws c.run.new.answers c.unwrap_or-top.result c.unwrap_or.result
    c.unwrap_or-top.ensures c.run.ensures c.unwrap_or.ensures
