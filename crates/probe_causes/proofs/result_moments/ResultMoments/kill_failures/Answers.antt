use Rattle.std.proofs.Common.{◌∙◌, ap, subst}
use Rattle.std.proofs.lemmas.Result.{IfOk-weaker}
use Rattle.manifest.specs.declared.outcome.Outcome.TheVariants.{Failure}
use Rattle.manifest.specs.rule.Probe.{Probe, Probes}
use Rattle.probe_causes.specs.rule.Moments.{liveness_in}
use Rattle.probe_causes.specs.rule.Causes.{AreKillFailures}
use Rattle.probe_causes.proofs.Kept.{last_kept}
use Rattle.probe_causes.proofs.result_moments.ResultMoments.kill_failures.Goals as goal

pub returns-in-Liveness : goal.returns-in-Liveness
returns-in-Liveness c = λ probes start ticks moments kept are.
    let w = subst (λ k. AreKillFailures probes start k ticks moments) c.in-Liveness.is are in
    IfOk-weaker c.last_of.result _ _
    (λ last is. is ∙ last_kept liveness_in Failure (λ (p : Probe). p.failure_threshold) _ probes.startup probes.liveness
    start ticks w.0 moments _ (c.deref-in-Liveness.ensures.value ∙ kept.liveness)
    (λ p e. c.failures_of-in-Liveness.ensures p
    (c.liveness.ensures.value ∙ ap (λ (of : Probes). of.liveness) kept.follows ∙ e)) w.1 w.2)
    c.last_of.ensures
