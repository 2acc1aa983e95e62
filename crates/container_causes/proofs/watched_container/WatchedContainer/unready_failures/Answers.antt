use Rattle.std.proofs.Common.{◌++◌, ◌∷◌, []}
use Rattle.probe_causes.specs.rule.Causes.{AreUnreadyFailures}
use Rattle.container_causes.proofs.ReadinessLemmas.{unready_has_failures, became_unready}
use Rattle.container_causes.proofs.LookedUpLemmas.{found_by}
use Rattle.container_causes.proofs.watched_container.WatchedContainer.unready_failures.Goals as goal

pub returns : goal.returns
returns c = λ spec max_restart_delay h x before a was accepts is changes newest never.
    let ended = became_unready spec h x changes in
    let found = unready_has_failures spec h x before.container.differ _ is.container.follows.in_range
    was.container.differ accepts is.container.differ ended.0 ended.1 a newest never in
    found_by (λ v. v.items) c.unready_failures_of.result spec (h ++ x ∷ []) a c.args.self.now.instance
    (λ probes moments start ticks. AreUnreadyFailures probes start ticks moments) found.1.0 is.results found.0 found.1.1
    c.unready_failures_of.ensures
