use Rattle.std.proofs.Common.{◌∙◌, ap}
use Rattle.probes.specs.rule.Ticks.{tick}
use Rattle.probe_causes.specs.rule.Moments.{startup_in, liveness_in, readiness_in}
use Rattle.probe_causes.proofs.Kept.{taken}
use Rattle.probe_causes.proofs.Startup.{pass_more}
use Rattle.probe_causes.proofs.result_moments.ResultMoments.take.Goals as goal

pub returns : goal.returns
returns c = λ probes start ticks passes kept.
    let next = tick c.args.at c.args.results in
    record {
      follows = kept.follows;
      begins = kept.begins;
      passes = pass_more probes.startup start ticks next c.args.passes _ _ passes kept.passes c.pass_moment-self.ensures;
      startup = taken startup_in probes.startup start ticks next _ _ _ _ kept.begins
          (c.startup.ensures.value ∙ ap (λ of. of.startup) kept.follows) kept.startup c.in_ok-take_result.ensures;
      liveness = taken liveness_in probes.liveness start ticks next _ _ _ _ kept.begins
          (c.liveness.ensures.value ∙ ap (λ of. of.liveness) kept.follows) kept.liveness c.in_ok-take_result-2.ensures;
      readiness = taken readiness_in probes.readiness start ticks next _ _ _ _ kept.begins
          (c.readiness.ensures.value ∙ ap (λ of. of.readiness) kept.follows) kept.readiness
          c.in_ok-take_result-3.ensures;
    }
