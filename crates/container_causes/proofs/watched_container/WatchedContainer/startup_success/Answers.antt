use Rattle.container_causes.proofs.LookedUpLemmas.{startup_found}
use Rattle.container_causes.proofs.watched_container.WatchedContainer.startup_success.Goals as goal

pub returns : goal.returns
returns c = λ spec max_restart_delay h x a is passes.
    startup_found spec h x _ a _ c.args.self.now.instance is.container.differ is.results passes
    c.startup_count_of.ensures
