use Rattle.std.proofs.Common.{◌++◌}
use Rattle.containers.specs.state.Step.{exits_at}
use Rattle.containers.proofs.ExitLemmas.{last_delay, none_more_exits}
use Rattle.containers.proofs.exits.count_both.Goals as goal

pub returns-clause-state : goal.returns-clause-state
returns-clause-state c = λ max_restart_delay exits is. c.count.ensures.state max_restart_delay _
    (c.count-first.ensures.state max_restart_delay exits is)

pub returns-clause-delay : goal.returns-clause-delay
returns-clause-delay c = λ max_restart_delay exits is some.
    last_delay _ _ c.args.gone c.args.died c.count-first.result c.count.result c.or.result
    (c.count-first.ensures.delay max_restart_delay exits is)
    (c.count.ensures.delay max_restart_delay _ (c.count-first.ensures.state max_restart_delay exits is))
    c.count.ensures.none
    (none_more_exits max_restart_delay c.args.at (exits ++ exits_at c.args.at c.args.gone) c.args.died) some
    c.or.ensures
