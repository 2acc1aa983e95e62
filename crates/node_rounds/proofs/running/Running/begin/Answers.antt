use Rattle.std.proofs.Common.{[], refl, subst}
use Rattle.node_rounds.specs.state.Node.{State, state}
use Rattle.node_rounds.specs.state.Stretch.{IsOpen}
use Rattle.node_rounds.proofs.Opens.{first_open}
use Rattle.node_rounds.proofs.running.Running.begin.Goals as goal

pub returns-in-Ok-clause-is_open : goal.returns-in-Ok-clause-is_open
returns-in-Ok-clause-is_open g c =
    let i = c.self.inside in
    subst (λ (s : State). IsOpen s [] c.args.tick c.take_tick.new.self) c.self.view_is
    (first_open (state i.config i.signals i.pods i.evictions i.events.items i.book i.last) c.args.tick _
    c.take_tick.new.self (record {
      config = refl;
      signals = refl;
      ticks = c.new.ensures.items;
      evictions = refl;
      events = refl;
      pods = c.open.ensures;
    }) c.in-Ok.ensures)
