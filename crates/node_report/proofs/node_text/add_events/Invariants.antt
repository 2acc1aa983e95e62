use Rattle.std.proofs.Common.{◌≡◌, ◌++◌, drop, string_bytes}
use Rattle.std.specs.List.{flat_map}
use Rattle.pod_piece.specs.state.Piece.{pods_in}
use Rattle.event_list.specs.rule.Text.{event_line}
use Rattle.node_report.proofs.node_text.add_events.Given as goal

abbrev pub invariant-loop-event : goal.invariant-loop-event
invariant-loop-event l =
    string_bytes l.text ++ flat_map (event_line (pods_in l.names.pods.now)) (drop l.event-index l.events)
    ≡ string_bytes l.fn.text ++ flat_map (event_line (pods_in l.names.pods.now)) l.events
