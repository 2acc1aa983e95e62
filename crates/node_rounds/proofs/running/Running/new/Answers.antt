use Rattle.std.proofs.Common.{None}
use Rattle.node_rounds.specs.state.Node.{state}
use Rattle.node_rounds.proofs.GoesOn.{starts_as, starts_kept}
use Rattle.node_rounds.proofs.running.Running.new.Goals as goal

pub invariant_of-result : goal.invariant_of-result
invariant_of-result g c =
    starts_kept
    (state c.args.config c.new-signals.result c.new-pods.result c.new.result c.new-2.result.items c.args.book
    None)
    (starts_as c.args.config c.new-signals.result c.new-pods.result c.new.result c.new-2.result.items c.args.book
    c.new-pods.ensures c.new.ensures c.new-2.ensures.items c.requires c.new-signals.ensures)
    c.requires

pub returns-clause-taken : goal.returns-clause-taken
returns-clause-taken g c =
    starts_as c.args.config c.new-signals.result c.new-pods.result c.new.result c.new-2.result.items c.args.book
    c.new-pods.ensures c.new.ensures c.new-2.ensures.items c.requires c.new-signals.ensures
