use Rattle.std.proofs.Common.{List, Option, take, string_bytes}
use Rattle.manifest.specs.declared.pod.PodSpec.{PodSpec}
use Rattle.node_config.specs.declared.node.NodeConfig.{NodeConfig}
use Rattle.observations.specs.declared.tick.TickObs.{TickObs}
use Rattle.eviction.specs.declared.eviction.Eviction.{Eviction}
use Rattle.node_rounds.specs.state.Node.{ArePieces}
use Rattle.node_report.specs.rule.Report.{AreLines}
use Rattle.node_report.specs.state.Added.{AreAdded}
use Rattle.node_report.proofs.report.add_all_lines.Given as goal

abbrev pub invariant-loop-number : goal.invariant-loop-number
invariant-loop-number l = (config : NodeConfig) (ticks : List TickObs) (evictions : List (Option Eviction))
    (pods : List PodSpec)
    → ArePieces config pods ticks evictions l.pieces
    → AreAdded (AreLines ticks evictions (take l.number pods)) (string_bytes l.fn.text) (string_bytes l.text)
