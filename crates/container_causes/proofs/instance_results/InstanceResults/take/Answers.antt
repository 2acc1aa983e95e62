use Rattle.std.proofs.Common.{refl}
use Rattle.std.proofs.lemmas.Result.{on_ok_weaker}
use Rattle.container_causes.proofs.KeptLemmas.{passes_same}
use Rattle.container_causes.proofs.instance_results.InstanceResults.take.Goals as goal

pub returns : goal.returns
returns c = on_ok_weaker c.take.result
    (λ taken. record {
      same = refl;
      moments = λ probes start ticks passes are.
          taken probes start ticks (passes_same c.is_pass_of-passes.ensures passes) are;
    })
    c.take.ensures
