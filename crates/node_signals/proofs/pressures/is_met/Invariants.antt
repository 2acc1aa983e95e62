use Rattle.std.proofs.Common.{List}
use Rattle.node_config.specs.rule.EvictionConfig.{EvictionConfig}
use Rattle.observations.specs.declared.tick.TickObs.{TickObs}
use Rattle.node_signals.specs.rule.Conditions.{Meets}
use Rattle.node_signals.specs.state.Node.{AreWatches}
use Rattle.node_signals.proofs.ServedLemmas.{NoneBelow}
use Rattle.node_signals.proofs.pressures.is_met.Given as goal

abbrev pub invariant-loop-place : goal.invariant-loop-place
invariant-loop-place l = (eviction : EvictionConfig) (ticks : List TickObs) → AreWatches eviction ticks l.watches
    → NoneBelow (Meets eviction l.condition ticks) l.place
