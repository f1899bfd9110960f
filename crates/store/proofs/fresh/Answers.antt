-- `store::fresh` meets its contract. Assumes nothing.
use mathlib.Core.Path.{◌≡◌, sym}
use mathlib.Core.Bool.{true}
use native.Mathlib.Omega.{arith}
use lib.ListN.{length}
use borrow.Author.Rules.{rules}
use Rattle.meaning.specs.Limits.{first_heap_cell}
use Rattle.meaning.specs.Check.{length_test}
use Rattle.meaning.proofs.check.Checking.{length_yes}
use Rattle.meaning.proofs.fresh.Making.{fresh_refused, fresh_done}
use Rattle.store.proofs.fresh.Goals as goal
use Rattle.store.proofs.fresh.Goals.{Else-not-length_ok}

long : (c : Else-not-length_ok) → length_test first_heap_cell (length c.args.ws.now) ≡ true
long c = sym c.if-not-length_ok.ensures

pub returns-then-not-length_ok : goal.returns-then-not-length_ok
returns-then-not-length_ok c =
    sym (fresh_refused first_heap_cell _ (sym c.if-not-length_ok.ensures))

pub empty_registers-requires : goal.empty_registers-requires
empty_registers-requires c =
    (length_yes first_heap_cell _ (long (goal.at.empty_registers-requires c).Else-not-length_ok)).large

pub zero_from-requires : goal.zero_from-requires
zero_from-requires c =
    omega (arith, (length_yes first_heap_cell _ (long (goal.at.zero_from-requires c).Else-not-length_ok)).large)

pub returns : goal.returns
returns c =
    sym (fresh_done first_heap_cell c.args.ws.now (long (goal.at.returns c).Else-not-length_ok)
    c.empty_registers.new.ws (search rules) c.empty_registers.ensures
    c.zero_from.ensures)
