use Rattle.std.proofs.Common.{◌≡◌, ◌++◌, drop, string_bytes}
use Rattle.std.specs.List.{flat_map}
use Rattle.node_report.specs.rule.Lines.{node_condition_line}
use Rattle.node_report.proofs.node_text.add_conditions_of_node.Given as goal

abbrev pub invariant-loop-status : goal.invariant-loop-status
invariant-loop-status l =
    string_bytes l.text ++ flat_map node_condition_line (drop l.status-index l.conditions)
    ≡ string_bytes l.fn.text ++ flat_map node_condition_line l.conditions
