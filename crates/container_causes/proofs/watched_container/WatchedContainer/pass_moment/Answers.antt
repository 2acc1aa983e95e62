use Rattle.container_causes.proofs.LookedUpLemmas.{pass_found}
use Rattle.container_causes.proofs.watched_container.WatchedContainer.pass_moment.Goals as goal

pub returns : goal.returns
returns c = λ spec max_restart_delay h a start is newest starts.
    pass_found spec h a start c.pass_moment_of.result c.args.self.now.instance (is.results a start newest starts) starts
    c.pass_moment_of.ensures
