use Rattle.containers.specs.rule.Ticks.{listings}
use Rattle.container_causes.proofs.watched_container.WatchedContainer.start.Goals as goal

pub returns : goal.returns
returns c = λ spec max_restart_delay h a is newest.
    (c.first_running.ensures (listings h) (c.differ.ensures spec max_restart_delay h is.container)).some a newest
