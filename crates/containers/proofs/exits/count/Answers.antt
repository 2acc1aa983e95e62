use Rattle.std.proofs.Common.{◌++◌, ℕ, Option, subst, sym}
use Rattle.restarts.specs.rule.Delays.{IsDelay}
use Rattle.restarts.specs.state.Backoff.{IsStateOf}
use Rattle.containers.specs.state.Step.{exits_at}
use Rattle.containers.proofs.exits.count.Goals as goal

pub returns-in-Some-clause-state : goal.returns-in-Some-clause-state
returns-in-Some-clause-state c = λ max_restart_delay exits is.
    let P : Option ℕ → Type 0 = λ r. IsStateOf max_restart_delay (exits ++ exits_at c.args.at r) c.exited.new.self in
    subst P (sym c.in-Some.is) (c.exited.ensures.state max_restart_delay exits is)

pub returns-in-Some-clause-delay : goal.returns-in-Some-clause-delay
returns-in-Some-clause-delay c = λ max_restart_delay exits is some.
    let P : Option ℕ → Type 0 = λ r. IsDelay max_restart_delay (exits ++ exits_at c.args.at r) c.exited.result in
    subst P (sym c.in-Some.is) (c.exited.ensures.delay max_restart_delay exits is)
