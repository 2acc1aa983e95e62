-- What a node has come to. (Kubernetes, "Pod Lifecycle" and "Node-pressure Eviction".)
use Rattle.std.specs.Prelude.{◌≡◌, List, length}
use Rattle.manifest.specs.declared.pod.PodSpec.{PodSpec}
use Rattle.node_config.specs.declared.node.NodeConfig.{NodeConfig}
use Rattle.observations.specs.declared.tick.TickObs.{TickObs}
use Rattle.eviction.specs.rule.Replay.{IsReplay}
use Rattle.event_list.specs.rule.Events.{AreEvents}
use Rattle.event_list.specs.rule.Totals.{totals_of}
use Rattle.node_rounds.specs.declared.summary.Summary.{Summary}
use Rattle.node_rounds.specs.state.Node.{ArePieces}
use Rattle.node_rounds.specs.rule.Summary.{AreConditionsAfter}

-- what a node of this configuration has come to, where these pods have arrived and these ticks were taken
pub record IsSummary (config : NodeConfig) (arrived : List PodSpec) (taken : List TickObs)
    (s : Summary) : Type 0 where
  pub evictions : IsReplay config arrived taken s.evictions.now
  pub name : s.name.now ≡ config.name
  pub pods : ArePieces config arrived taken s.evictions.now s.pods.now
  pub conditions : AreConditionsAfter config taken s.conditions
  pub events : AreEvents config arrived taken s.evictions.now s.events.now
  pub ticks : s.ticks ≡ length taken
  pub totals : s.totals ≡ totals_of taken s.events.now
