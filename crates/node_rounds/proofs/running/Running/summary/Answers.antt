use Rattle.node_rounds.specs.state.Node.{state}
use Rattle.node_rounds.proofs.Summaries.{shows_as, summarizes}
use Rattle.node_rounds.proofs.running.Running.summary.Goals as goal

pub returns : goal.returns
returns g c = λ config pods ticks is taken.
    let i = c.self.inside in
    summarizes config pods ticks c.args.self.now _ is taken
    (shows_as (state i.config i.signals i.pods i.evictions i.events.items i.book i.last) c.args.self.now _
    c.self.view_is (record {
      name = c.as_str.ensures;
      pods = c.pieces.ensures.same;
      conditions = c.conditions_of.ensures;
      events = c.deref.ensures.value;
      evictions = c.as_slice.ensures;
      ticks = c.len.ensures;
      totals = c.totals.ensures;
    }))
