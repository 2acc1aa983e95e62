use Rattle.containers.proofs.ViewLemmas.{serves_by}
use Rattle.containers.proofs.container.Container.serves.Goals as goal

pub returns : goal.returns
returns c = λ spec h is. serves_by spec h c.args.self.now.role c.newest.result c.is_up.result is.role
    (c.newest.ensures _ is.differ) c.is_up.ensures
