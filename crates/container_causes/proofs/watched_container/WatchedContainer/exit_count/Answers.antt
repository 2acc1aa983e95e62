use Rattle.container_causes.proofs.CountedLemmas.{some_counted}
use Rattle.container_causes.proofs.watched_container.WatchedContainer.exit_count.Goals as goal

pub returns : goal.returns
returns c = λ spec max_restart_delay h a t is exit. some_counted h c.args.self.now.count a t is.count exit
