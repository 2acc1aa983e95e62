use Rattle.std.proofs.Common.{◌∙◌, Option, ap, subst}
use Rattle.std.specs.Prelude.{◌↔◌, IsTrue, IsSome}
use Rattle.manifest.specs.rule.Probe.{Probe, Probes}
use Rattle.probes.specs.rule.Ticks.{IsStarted as IsStartedBy}
use Rattle.probes.specs.rule.Container.{IsInstanceReady}
use Rattle.containers.specs.rule.Ticks.{listings}
use Rattle.container_causes.proofs.LackingLemmas.{start_lacked, probe_lacked}
use Rattle.container_causes.proofs.watched_container.WatchedContainer.lacks.Goals as goal

pub returns : goal.returns
returns c = λ spec max_restart_delay h a is role newest.
    let differ = c.differ-differ.ensures spec max_restart_delay h is.container in
    let exited_at = c.exited_at-exited_at.result in
    let status = c.status-status.result in
    let exits = (c.exited_at-exited_at.ensures (listings h) differ).some a newest in
    let starts = (c.first_running.ensures (listings h) differ).some a newest in
    let shown = c.status-status.ensures spec max_restart_delay h is.container in
    record {
      start = start_lacked h a exited_at c.first_running.result c.lacks_start.result exits starts c.lacks_start.ensures;
      startup = probe_lacked (IsStartedBy spec.probes.startup) spec h a exited_at (IsSome spec.probes.startup)
          status.started c.lacks_probe.result is.runs_on role newest exits shown.started
          (subst (λ (p : Option Probe). IsTrue c.lacks_probe.result
          ↔ ((IsSome exited_at → ⊥) × IsSome p × (IsTrue status.started → ⊥)))
          (c.startup.ensures.value ∙ ap (λ (ps : Probes). ps.startup) is.follows) c.lacks_probe.ensures);
      readiness = probe_lacked (IsInstanceReady spec.probes) spec h a exited_at (IsSome spec.probes.readiness)
          status.ready c.lacks_probe-2.result is.runs_on role newest exits shown.ready
          (subst (λ (p : Option Probe). IsTrue c.lacks_probe-2.result
          ↔ ((IsSome exited_at → ⊥) × IsSome p × (IsTrue status.ready → ⊥)))
          (c.readiness.ensures.value ∙ ap (λ (ps : Probes). ps.readiness) is.follows) c.lacks_probe-2.ensures);
    }
