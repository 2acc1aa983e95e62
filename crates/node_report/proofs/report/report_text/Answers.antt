use Rattle.std.proofs.Common.{◌∙◌, ◌++◌, ℕ, List, ap, string_bytes}
use Rattle.node_report.proofs.Summary.{report_is}
use Rattle.node_report.proofs.report.report_text.Goals as goal

pub returns : goal.returns
returns c = λ config pods ticks is.
    let pods_lines = c.in_ok-add_all_lines.ensures config ticks c.args.summary.now.evictions.now pods is.pods in
    let bytes = λ (text : List ℕ) (more : List ℕ). text ++ more in
    report_is config pods ticks c.args.summary.now (string_bytes c.in_ok-text.text)
    (string_bytes c.add_events.new.text) pods_lines.lines (string_bytes c.add_all_lines.new.text)
    (string_bytes c.add_conditions_of_node.new.text) (string_bytes c.add_evictions.new.text)
    (string_bytes c.in_ok-totals.totals) (string_bytes c.add.new.text)
    _ c.names-names.ensures is c.in_ok-text.ensures c.in_ok-add_events.ensures
    pods_lines.are pods_lines.added
    c.in_ok-add_conditions_of_node.ensures c.in_ok-add_evictions.ensures c.in_ok-totals.ensures
    (c.in_ok-add.ensures ∙ ap (bytes (string_bytes c.add_evictions.new.text)) c.as_str.ensures.value)
