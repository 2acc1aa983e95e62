use Rattle.std.proofs.Common.{◌∷◌, ◌++◌, ℕ, [], length, subst, sym}
use Rattle.histories.specs.rule.Histories.{recorded}
use Rattle.observations.specs.declared.container.ContainerObs.{ContainerObs}
use Rattle.containers.specs.state.Container.{Accepts, IsStateOf}
use Rattle.containers.specs.rule.Events.{AreEvents}
use Rattle.pod_state.proofs.ContainerLemmas.{next_is, made_is}
use Rattle.pod_state.proofs.following.step.Goals as goal

pub step-requires-clause-accepted : goal.step-requires-clause-accepted
step-requires-clause-accepted c =
    subst (λ (o : ContainerObs). Accepts c.args.container.now o.seen) (sym c.shown_of-shown.ensures) c.requires.accepted

pub returns-clause-state : goal.returns-clause-state
returns-clause-state c = λ pod max_restart_delay h is.
    let observed = c.args.observed.now in
    let next = c.step.new.self in
    next_is pod max_restart_delay c.args.number h observed c.args.container.now next
    (λ spec k st. subst (λ (o : ContainerObs). IsStateOf spec max_restart_delay (k ++ recorded observed.at o ∷ []) next)
    c.shown_of-shown.ensures
    (subst (λ (m : ℕ). IsStateOf spec max_restart_delay (k ++ recorded m c.shown_of-shown.result ∷ []) next)
    c.at.ensures
    (c.step.ensures.state spec max_restart_delay k st))) is

pub returns-clause-made : goal.returns-clause-made
returns-clause-made c = λ max_restart_delay h is.
    let observed = c.args.observed.now in
    let pod = c.args.pod.now in
    let made = c.step.result in
    made_is pod max_restart_delay c.args.number h observed _ c.args.container.now made c.own_restarts_of-own.ensures
    (λ spec k own st. subst (λ (o : ContainerObs). AreEvents pod.policy max_restart_delay spec
    (k ++ recorded observed.at o ∷ []) (length k) made) c.shown_of-shown.ensures
    (subst (λ (m : ℕ). AreEvents pod.policy max_restart_delay spec (k ++ recorded m c.shown_of-shown.result ∷ [])
    (length k)
    made) c.at.ensures
    (c.step.ensures.events spec max_restart_delay k own st))) is
