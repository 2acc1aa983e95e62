use Rattle.std.proofs.Common.{List, [], ◌∷◌, ◌++◌, take}
use Rattle.node_config.specs.rule.EvictionConfig.{EvictionConfig}
use Rattle.observations.specs.declared.tick.TickObs.{TickObs}
use Rattle.observations.specs.rule.Observations.{judged_of}
use Rattle.node_signals.specs.rule.Keys.{serving_order}
use Rattle.node_signals.specs.rule.Events.{ChangesThreshold}
use Rattle.node_signals.specs.state.Events.{Adds}
use Rattle.node_signals.specs.state.Node.{AreWatches}
use Rattle.node_signals.proofs.events.add_threshold_events.Given as goal

abbrev pub invariant-loop-place : goal.invariant-loop-place
invariant-loop-place l = (eviction : EvictionConfig) (before : List TickObs) (tick : TickObs)
    → AreWatches eviction (judged_of before) l.old → AreWatches eviction (judged_of (before ++ tick ∷ [])) l.new
    → Adds (ChangesThreshold eviction before tick) (take l.place serving_order) l.fn.events.items l.events.items
