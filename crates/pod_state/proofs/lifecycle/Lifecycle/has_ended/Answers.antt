use Rattle.pod_state.proofs.EndLemmas.{ended_is}
use Rattle.pod_state.proofs.lifecycle.Lifecycle.has_ended.Goals as goal

pub returns-clause-ended : goal.returns-clause-ended
returns-clause-ended c = λ pod evicted h is.
    let e = ended_is pod evicted h c.args.self.now.phase is.phase in
    ((λ t. e.0 (c.is_terminal.ensures.0 t)), (λ w. c.is_terminal.ensures.1 (e.1 w)))
