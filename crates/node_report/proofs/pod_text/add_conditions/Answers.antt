use Rattle.std.proofs.Common.{string_bytes, codes}
use Rattle.node_report.specs.rule.Lines.{condition_line}
use Rattle.node_report.proofs.Parts.{four_parts}
use Rattle.node_report.proofs.pod_text.add_conditions.Goals as goal

pub returns : goal.returns
returns c =
    let line = condition_line c.args.number in
    four_parts (string_bytes c.args.text.now) (string_bytes c.add_condition.new.text)
    (string_bytes c.add_condition-2.new.text) (string_bytes c.add_condition-3.new.text)
    (string_bytes c.add_ready.new.text)
    (line (codes "PodScheduled") c.args.conditions.pod_scheduled)
    (line (codes "Initialized") c.args.conditions.initialized)
    (line (codes "ContainersReady") c.args.conditions.containers_ready)
    (line (codes "Ready") c.args.conditions.ready)
    c.in_ok-add_condition.ensures c.in_ok-add_condition-2.ensures c.in_ok-add_condition-3.ensures
    c.in_ok-add_ready.ensures
