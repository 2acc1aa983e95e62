use Rattle.std.proofs.Common.{◌≡◌, true, arith}
use Rattle.histories.specs.rule.Histories.{recorded}
use Rattle.restarts.proofs.CountLemmas.{count_long, count_short, count_full}
use Rattle.restarts.proofs.backoff.count_after.Goals as goal

pub returns-then-is_long-clause-counts : goal.returns-then-is_long-clause-counts
returns-then-is_long-clause-counts c = λ exits at of.
    count_long exits (recorded at c.args.run_seconds) c.args.count (c.is_long.ensures.0 c.if-is_long.true)

pub returns-then-count-lt-LAST_COUNT-clause-counts : goal.returns-then-count-lt-LAST_COUNT-clause-counts
returns-then-count-lt-LAST_COUNT-clause-counts c = λ exits at of.
    count_short exits (recorded at c.args.run_seconds) c.args.count (λ long. let yes : c.is_long.result ≡ true =
    c.is_long.ensures.1 long in cc) (omega arith) of

pub returns-else-count-lt-LAST_COUNT-clause-counts : goal.returns-else-count-lt-LAST_COUNT-clause-counts
returns-else-count-lt-LAST_COUNT-clause-counts c = λ exits at of.
    count_full exits (recorded at c.args.run_seconds) c.args.count (λ long. let yes : c.is_long.result ≡ true =
    c.is_long.ensures.1 long in cc) (omega arith) of
