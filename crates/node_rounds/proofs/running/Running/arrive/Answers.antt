use Rattle.std.proofs.Common.{sym}
use Rattle.node_rounds.specs.state.Node.{state}
use Rattle.node_rounds.proofs.Arrives.{arrives_as, arrived_kept}
use Rattle.node_rounds.proofs.running.Running.arrive.Goals as goal

pub invariant_of-self-2 : goal.invariant_of-self-2
invariant_of-self-2 g c =
    let i = c.self.inside in
    arrived_kept c.args.self.now (state i.config i.signals i.pods i.evictions i.events.items i.book i.last)
    c.args.pod c.arrive.new.self (sym c.self.view_is) c.in_ok-arrive.ensures.ok c.requires
    c.as_slice-containers.ensures.containers.few c.self.invariant

pub returns-clause-taken : goal.returns-clause-taken
returns-clause-taken g c = λ pods ticks taken.
    let i = c.self.inside in
    arrives_as pods ticks c.args.self.now
    (state i.config i.signals i.pods i.evictions i.events.items i.book i.last)
    c.args.pod c.arrive.new.self (sym c.self.view_is) c.in_ok-arrive.ensures.ok c.requires taken
