use Rattle.std.proofs.Common.{◌++◌, ◌∷◌, []}
use Rattle.probe_causes.specs.rule.Causes.{AreKillFailures}
use Rattle.container_causes.proofs.CauseLemmas.{killed_failures}
use Rattle.container_causes.proofs.LookedUpLemmas.{found_by, killed_newest}
use Rattle.container_causes.proofs.watched_container.WatchedContainer.kill_failures.Goals as goal

pub returns : goal.returns
returns c = λ spec max_restart_delay h x a is killed.
    let range = is.container.follows.in_range in
    let found = killed_failures spec h x a c.args.cause range killed in
    found_by (λ v. v.items) c.kill_failures_of.result spec (h ++ x ∷ []) a c.args.self.now.instance
    (λ probes moments start ticks. AreKillFailures probes start c.args.cause ticks moments) found.0 is.results
    (killed_newest spec h x _ a c.args.cause range is.container.differ killed) found.1 c.kill_failures_of.ensures
