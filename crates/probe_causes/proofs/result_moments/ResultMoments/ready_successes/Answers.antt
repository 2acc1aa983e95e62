use Rattle.std.proofs.Common.{◌∙◌, ap}
use Rattle.std.proofs.lemmas.Result.{IfOk-weaker}
use Rattle.manifest.specs.declared.outcome.Outcome.TheVariants.{Success}
use Rattle.manifest.specs.rule.Probe.{Probe, Probes}
use Rattle.probe_causes.specs.rule.Moments.{readiness_in}
use Rattle.probe_causes.proofs.Kept.{last_kept}
use Rattle.probe_causes.proofs.result_moments.ResultMoments.ready_successes.Goals as goal

pub returns : goal.returns
returns c = λ probes start ticks moments kept are.
    IfOk-weaker c.last_of.result _ _
    (λ last is. is ∙ last_kept readiness_in Success (λ (p : Probe). p.success_threshold) _ probes.startup
    probes.readiness start ticks are.0 moments _ (c.deref.ensures.value ∙ kept.readiness)
    (λ p e. c.successes_of.ensures p
    (c.readiness.ensures.value ∙ ap (λ (of : Probes). of.readiness) kept.follows ∙ e)) are.1 are.2)
    c.last_of.ensures
