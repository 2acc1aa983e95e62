use Rattle.std.proofs.lemmas.Bool.{iff_false}
use Rattle.histories.specs.rule.Histories.{recorded}
use Rattle.pressure.specs.rule.Pressures.{IsUnderPressure}
use Rattle.pressure.proofs.Since.{since_changed, since_unchanged}
use Rattle.pressure.proofs.pressure.Pressure.since_after.Goals as goal

pub returns-then-changes : goal.returns-then-changes
returns-then-changes c = λ period h met st value.
    since_changed (IsUnderPressure period) h (recorded c.args.at met) c.args.self.now.is_true c.args.is_true
    c.args.self.now.since st.is_true value st.since
    (c.changes.ensures.0 c.if-changes.true)

pub returns-else-changes : goal.returns-else-changes
returns-else-changes c = λ period h met st value.
    since_unchanged (IsUnderPressure period) h (recorded c.args.at met) c.args.self.now.is_true c.args.is_true
    c.args.self.now.since st.is_true value st.since
    (iff_false c.changes.ensures c.if-changes.false)
