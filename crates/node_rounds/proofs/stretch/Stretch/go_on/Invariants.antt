use Rattle.std.proofs.Common.{List}
use Rattle.observations.specs.declared.tick.TickObs.{TickObs}
use Rattle.node_rounds.specs.state.Node.{State}
use Rattle.node_rounds.specs.state.Stretch.{IsOpen, MayGoOn, GoesOnWith}
use Rattle.node_rounds.proofs.stretch.Stretch.go_on.Given as goal

abbrev pub invariant-loop : goal.invariant-loop
invariant-loop l = record {
  may : MayGoOn l.self l.more.rest.items;
  goes : (s : State) (calm : List TickObs) (tick : TickObs) → IsOpen s calm tick l.fn.self
      → GoesOnWith s calm tick l.fn.more.rest.items l.self l.more.rest.items;
}
