use Rattle.std.proofs.Common.{refl}
use Rattle.node_rounds.proofs.summary.ConditionStatus.of.Goals as goal

pub returns : goal.returns
returns c = λ config ticks is. record {
  named = refl;
  value = c.is_true.ensures config.eviction config.eviction_pressure_transition_period ticks is;
  since = c.since.ensures config.eviction config.eviction_pressure_transition_period ticks is;
}
