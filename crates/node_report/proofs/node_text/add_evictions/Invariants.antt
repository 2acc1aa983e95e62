use Rattle.std.proofs.Common.{◌≡◌, ◌++◌, drop, string_bytes}
use Rattle.std.specs.List.{flat_map}
use Rattle.pod_piece.specs.state.Piece.{pods_in}
use Rattle.node_report.specs.rule.Lines.{eviction_text}
use Rattle.node_report.proofs.node_text.add_evictions.Given as goal

abbrev pub invariant-loop-eviction : goal.invariant-loop-eviction
invariant-loop-eviction l =
    string_bytes l.text ++ flat_map (eviction_text (pods_in l.names.pods.now)) (drop l.eviction-index l.evictions)
    ≡ string_bytes l.fn.text ++ flat_map (eviction_text (pods_in l.names.pods.now)) l.evictions
