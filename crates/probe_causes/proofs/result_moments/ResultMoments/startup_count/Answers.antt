use Rattle.std.proofs.Common.{◌∙◌, length, ap}
use Rattle.probe_causes.proofs.Kept.{kept_count}
use Rattle.probe_causes.proofs.result_moments.ResultMoments.startup_count.Goals as goal

pub returns : goal.returns
returns c = λ probes start ticks probe kept some.
    ap length c.as_slice.ensures.value ∙ kept_count probes.startup start ticks probe _ kept.startup some
