-- The statements of the laws.
use Rattle.std.specs.Prelude.{◌≡◌, ℕ, List, All}
use Rattle.manifest.specs.declared.pod.PodSpec.{PodSpec}
use Rattle.node_config.specs.declared.node.NodeConfig.{NodeConfig}
use Rattle.observations.specs.declared.tick.TickObs.{TickObs}
use Rattle.event_list.specs.state.Laws.{ShowsKnownPods, HaveProbesInRange}
use Rattle.node_report.specs.rule.Report.{IsReport}

-- a node's ticks have a report, where each shows none but the pods that there are, and the numbers of the
-- probes of each container are in their ranges
abbrev pub SomeReport : Type 0
SomeReport =
    (config : NodeConfig) (ticks : List TickObs) (pods : List PodSpec)
    → All (ShowsKnownPods pods) ticks → HaveProbesInRange pods
    → (bytes : List ℕ) × IsReport config ticks pods bytes

-- a node's ticks have at most one report
abbrev pub OneReport : Type 0
OneReport =
    (config : NodeConfig) (ticks : List TickObs) (pods : List PodSpec) (one other : List ℕ)
    → IsReport config ticks pods one → IsReport config ticks pods other → one ≡ other
