use Rattle.containers.proofs.container.Container.accepts.Goals as goal

pub returns-clause-acceptable : goal.returns-clause-acceptable
returns-clause-acceptable c = λ spec max_restart_delay h is. c.accepts.ensures.acceptable _ is.differ
