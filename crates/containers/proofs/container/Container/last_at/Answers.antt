use Rattle.std.proofs.Common.{◌∙◌}
use Rattle.containers.proofs.StepLemmas.{last_listed}
use Rattle.containers.proofs.container.Container.last_at.Goals as goal

pub returns-clause-moment : goal.returns-clause-moment
returns-clause-moment c = λ spec max_restart_delay h is. c.last_at.ensures.moment _ is.differ ∙ last_listed h
