use Rattle.std.proofs.Common.{◌∙◌, ◌++◌, List, [], ℕ, refl, sym, ap, append-nil, append_assoc, string_bytes, arith}
use Rattle.node_report.proofs.Parts.{no_report, report_next}
use Rattle.node_report.proofs.Pieces.{piece_here, whole_report}
use Rattle.node_report.proofs.report.add_all_lines.Goals as goal

pub loop-number-init : goal.loop-number-init
loop-number-init c = λ config ticks evictions pods are. record {
  lines = [];
  are = no_report ticks evictions;
  added = sym (append-nil (string_bytes c.args.text.now));
}

pub loop-number-preserved : goal.loop-number-preserved
loop-number-preserved c = λ config ticks evictions pods are.
    let n = c.loop-number.number in
    let here = piece_here config pods ticks evictions c.args.pieces.now n c.index-pieces-number.result are
    c.loop-number-test.true c.index-pieces-number.is in
    let so_far = c.loop-number.invariant config ticks evictions pods are in
    let next = c.in_ok-add_pod_lines.ensures config ticks evictions here.0 here.3 in
    record {
      lines = so_far.lines ++ next.lines;
      are = report_next ticks evictions pods n here.0 so_far.lines next.lines (so_far.lines ++ next.lines)
          here.1 here.2 so_far.are next.are refl;
      added = next.added ∙ (ap (λ (bytes : List ℕ). bytes ++ next.lines) so_far.added
          ∙ append_assoc (string_bytes c.args.text.now) so_far.lines next.lines);
    }

pub returns : goal.returns
returns c = λ config ticks evictions pods are.
    let all = c.loop-number.invariant config ticks evictions pods are in
    record {
      lines = all.lines;
      are = whole_report config ticks evictions pods c.args.pieces.now c.loop-number.number all.lines are
          (omega (arith, c.loop-number-test.false, c.loop-number.auto.number-end)) all.are;
      added = all.added;
    }
