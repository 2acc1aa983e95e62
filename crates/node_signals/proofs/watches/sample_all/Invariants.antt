use Rattle.std.proofs.Common.{List}
use Rattle.node_config.specs.rule.EvictionConfig.{EvictionConfig}
use Rattle.observations.specs.declared.tick.TickObs.{TickObs}
use Rattle.node_signals.specs.state.Node.{AreWatches}
use Rattle.node_signals.proofs.WatchLemmas.{AreSampled}
use Rattle.node_signals.proofs.watches.sample_all.Given as goal

abbrev pub invariant-loop-place : goal.invariant-loop-place
invariant-loop-place l = (eviction : EvictionConfig) (before : List TickObs)
    → AreWatches eviction before l.fn.watches → AreSampled eviction before l.tick l.place l.watches
