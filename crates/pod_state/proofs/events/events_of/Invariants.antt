use Rattle.std.proofs.Common.{◌≡◌, take}
use Rattle.pod_state.specs.rule.Events.{events_from}
use Rattle.pod_state.proofs.events.events_of.Given as goal

abbrev pub invariant-loop-number : goal.invariant-loop-number
invariant-loop-number l = l.events.items ≡ events_from l.phase l.leaving 0 (take l.number l.made)
