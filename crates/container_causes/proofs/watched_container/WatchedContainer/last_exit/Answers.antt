use Rattle.std.specs.Prelude.{IsSomeAnd}
use Rattle.containers.specs.rule.Ticks.{listings}
use Rattle.container_causes.proofs.CountedLemmas.{last_found}
use Rattle.container_causes.proofs.watched_container.WatchedContainer.last_exit.Goals as goal

pub returns : goal.returns
returns c = λ spec max_restart_delay h a code is newest exited.
    let differ = c.differ-differ.ensures spec max_restart_delay h is.container in
    rw (c.last_exit_of.ensures) (last_found h c.newest.result c.exited_at.result a code
    (c.newest.ensures (listings h) differ) (c.exited_at.ensures (listings h) differ) newest exited)
