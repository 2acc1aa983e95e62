use Rattle.std.proofs.Common.{List, [], ◌∷◌, ◌++◌, take}
use Rattle.observations.specs.declared.tick.TickObs.{TickObs}
use Rattle.observations.specs.rule.Observations.{judged_of}
use Rattle.node_signals.specs.rule.Keys.{serving_order}
use Rattle.node_signals.specs.rule.Events.{Reclaims}
use Rattle.node_signals.specs.state.Events.{Adds}
use Rattle.node_signals.specs.state.Node.{AreWatches}
use Rattle.node_signals.proofs.events.add_reclaim_events.Given as goal

abbrev pub invariant-loop-place : goal.invariant-loop-place
invariant-loop-place l = (before : List TickObs) → AreWatches l.eviction (judged_of (before ++ l.tick ∷ [])) l.watches
    → Adds (Reclaims l.eviction before l.tick) (take l.place serving_order) l.fn.events.items l.events.items
