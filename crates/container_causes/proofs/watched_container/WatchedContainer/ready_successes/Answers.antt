use Rattle.std.proofs.Common.{◌++◌, ◌∷◌, []}
use Rattle.std.proofs.lemmas.Result.{IfOk-weaker}
use Rattle.probe_causes.specs.rule.Causes.{AreReadySuccesses}
use Rattle.container_causes.proofs.ReadinessLemmas.{ready_has_successes, became_ready}
use Rattle.container_causes.proofs.LookedUpLemmas.{found_by}
use Rattle.container_causes.proofs.watched_container.WatchedContainer.ready_successes.Goals as goal

pub returns : goal.returns
returns c = λ spec max_restart_delay h x before was accepts is changes some.
    let ready = became_ready spec h x changes in
    let found = ready_has_successes spec h x before.container.differ is.container.follows.in_range was.container.differ
    accepts was.runs_on some ready.0 ready.1 in
    IfOk-weaker c.ready_successes_of.result _ _ (λ v says. (found.0, found.1, says))
    (found_by (λ v. v.items) c.ready_successes_of.result spec (h ++ x ∷ []) found.0 c.args.self.now.instance
    (λ probes moments start ticks. AreReadySuccesses probes start ticks moments) found.2.0 is.results found.1 found.2.1
    c.ready_successes_of.ensures)
