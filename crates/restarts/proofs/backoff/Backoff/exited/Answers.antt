use Rattle.std.proofs.Common.{[], refl}
use Rattle.histories.specs.rule.Histories.{recorded}
use Rattle.restarts.proofs.Places.{last_moment-after}
use Rattle.restarts.proofs.DelayLemmas.{IsDelay-of_count}
use Rattle.restarts.proofs.backoff.Backoff.exited.Goals as goal

pub returns-clause-state : goal.returns-clause-state
returns-clause-state c = λ max_restart_delay exits st.
    let count = c.count_after-self.ensures.counts exits c.args.at st.count in
    record {
      kept = st.kept;
      count = count;
      due = (
        c.args.at,
        c.delay_after-delay.result,
        last_moment-after exits (recorded c.args.at c.args.run_seconds)
            [],
        IsDelay-of_count _ _ _ _ _ c.args.self.now.within st.kept count c.delay_after-delay.ensures,
        refl,
      );
    }

pub returns-clause-delay : goal.returns-clause-delay
returns-clause-delay c = λ max_restart_delay exits st.
    IsDelay-of_count _ _ _ _ _ c.args.self.now.within st.kept
    (c.count_after-self.ensures.counts exits c.args.at st.count) c.delay_after-delay.ensures
