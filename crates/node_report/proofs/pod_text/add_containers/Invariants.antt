use Rattle.std.proofs.Common.{◌≡◌, ◌++◌, drop, string_bytes}
use Rattle.node_report.specs.rule.Lines.{containers_text}
use Rattle.node_report.proofs.pod_text.add_containers.Given as goal

abbrev pub invariant-loop-place : goal.invariant-loop-place
invariant-loop-place l =
    string_bytes l.text ++ containers_text l.number (drop l.place l.containers)
    (drop l.place l.statuses) ≡ string_bytes l.fn.text ++ containers_text l.number l.containers l.statuses
