use Rattle.containers.proofs.FirstLemmas.{first_is}
use Rattle.containers.proofs.container.Container.new.Goals as goal

pub returns : goal.returns
returns c = first_is c.args.spec.now c.args.max_restart_delay c.role.result c.new.result c.new-2.result c.new-3.result
    c.role.ensures c.new.ensures c.new-2.ensures.follows c.new-3.ensures
