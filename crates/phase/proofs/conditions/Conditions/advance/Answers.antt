use Rattle.std.proofs.Common.{true}
use Rattle.histories.specs.rule.Histories.{recorded}
use Rattle.histories.proofs.Places.{project-append}
use Rattle.phase.proofs.conditions.Conditions.advance.Goals as goal

pub returns : goal.returns
returns c = λ has_init h st. record {
  pod_scheduled = rw (project-append (λ values. true) h (recorded c.args.at c.args.values))
      (c.advance.ensures _ _ st.pod_scheduled);
  initialized = rw (project-append (λ values. values.initialized) h (recorded c.args.at c.args.values))
      (c.advance-2.ensures _ _ st.initialized);
  containers_ready = rw (project-append (λ values. values.containers_ready) h (recorded c.args.at c.args.values))
      (c.advance-3.ensures _ _ st.containers_ready);
  ready = rw (project-append (λ values. values.ready) h (recorded c.args.at c.args.values))
      (c.advance-4.ensures _ _ st.ready);
}
