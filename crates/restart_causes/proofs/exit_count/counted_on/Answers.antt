use Rattle.std.proofs.Common.{◌≡◌, ◌+◌, ◌≤◌, length, arith}
use Rattle.restart_causes.proofs.CountLemmas.{number_within, short_exit, long_exit}
use Rattle.restart_causes.proofs.exit_count.counted_on.Goals as goal

pub returns-then-run_seconds-lt-LONG_RUN : goal.returns-then-run_seconds-lt-LONG_RUN
returns-then-run_seconds-lt-LONG_RUN c = λ attempts exits same many is.
    let few : c.args.before.number ≤ length attempts = number_within attempts exits c.args.before same is in
    short_exit attempts exits c.args.attempt c.args.at c.args.run_seconds c.saturating_add.result c.args.before
    c.if-run_seconds-lt-LONG_RUN.true is (omega (arith, few, many, c.ranges.attempt.fits, c.saturating_add.ensures))

pub returns-else-run_seconds-lt-LONG_RUN : goal.returns-else-run_seconds-lt-LONG_RUN
returns-else-run_seconds-lt-LONG_RUN c = λ attempts exits same many is.
    long_exit attempts exits c.args.attempt c.args.at c.args.run_seconds c.args.before same
    c.if-run_seconds-lt-LONG_RUN.false is
