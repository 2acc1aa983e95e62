use Rattle.std.proofs.Common.{◌≡◌, drop}
use Rattle.std.specs.List.{list_all}
use Rattle.observations.specs.declared.container.ContainerObs.{ContainerObs}
use Rattle.eviction.specs.rule.Replay.{has_ended}
use Rattle.eviction.proofs.over.have_ended.Given as goal

-- those that were looked at have ended
abbrev pub invariant-loop-number : goal.invariant-loop-number
invariant-loop-number l =
    list_all (λ (c : ContainerObs). has_ended c.seen) l.shown.containers
    ≡ list_all (λ (c : ContainerObs). has_ended c.seen) (drop l.number l.shown.containers)
