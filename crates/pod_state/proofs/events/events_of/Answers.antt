use Rattle.std.proofs.Common.{◌∙◌, ◌++◌, Some, ap}
use Rattle.containers.specs.declared.events.ContainerEvents.{ContainerEvents}
use Rattle.pod_state.specs.rule.Events.{places, events_at}
use Rattle.pod_state.proofs.PodEventLemmas.{containers_more}
use Rattle.pod_state.proofs.events.events_of.Goals as goal

pub loop-number-preserved : goal.loop-number-preserved
loop-number-preserved c =
    let at = c.loop-number in
    containers_more c.args.phase c.args.leaving c.args.made.now at.number _ _ _ c.loop-number-test.true at.invariant
    (c.in_ok-add_events.ensures
    ∙ ap (λ (e : ContainerEvents). at.events.items ++ events_at (Some at.number) (places e)) c.coming_in.ensures)
