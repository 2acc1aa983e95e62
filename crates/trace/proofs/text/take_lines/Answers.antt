use Rattle.std.proofs.Common.{[], arith}
use Rattle.trace.specs.rule.TraceSoFar.{heeds}
use Rattle.trace.proofs.TakenAhead.{blank_passed, first_ahead, none_missing}
use Rattle.trace.proofs.text.take_lines.Goals as goal

pub unreachable-requires : goal.unreachable-requires
unreachable-requires c =
    none_missing (heeds c.args.so_far) c.args.so_far.roll c.args.lines.now c.loop-line.line-index
    (record { ref_ptr = (0, 0); now = [] }) _ c.loop-line-test.true c.loop-line.invariant.2 (c.in_default.ensures.none)

pub take_next-requires : goal.take_next-requires
take_next-requires c = (
  heeds c.args.so_far,
  c.args.so_far.roll,
  first_ahead (heeds c.args.so_far) c.args.so_far.roll c.args.lines.now c.loop-line.line-index
      (record { ref_ptr = (0, 0); now = [] }) _ _ c.in-Some.read c.loop-line-test.true c.loop-line.invariant.2
      c.in-Some.ensures.some,
  c.loop-line.invariant.3,
)

pub loop-line-preserved-then-was_blank : goal.loop-line-preserved-then-was_blank
loop-line-preserved-then-was_blank c =
    let ahead = first_ahead (heeds c.args.so_far) c.args.so_far.roll c.args.lines.now c.loop-line.line-index
    (record { ref_ptr = (0, 0); now = [] }) _ _ c.in-Some.read c.loop-line-test.true c.loop-line.invariant.2
    c.in-Some.ensures.some in
    let blank = c.was_blank.ensures c.if-was_blank.true (heeds c.args.so_far) c.args.so_far.roll _ ahead in
    let passed = blank_passed (heeds c.args.so_far) c.args.so_far.roll _ c.args.lines.now c.loop-line.line-index
    c.loop-line.number (record { ref_ptr = (0, 0); now = [] }) c.loop-line.so_far _ _ c.in-Some.read
    c.loop-line-test.true c.loop-line.invariant.1 c.loop-line.invariant.2 c.in-Some.ensures.some blank in
    (omega (arith, c.loop-line.invariant.0), passed.0, passed.1, c.loop-line.invariant.3)
