use Rattle.kubelet_replay.specs.state.Ticks.{HaveArrived}
use Rattle.kubelet_replay.proofs.replayed.arrive.Given as goal

abbrev pub invariant-loop : goal.invariant-loop
invariant-loop g l = HaveArrived l.fn.arriving.rest.items l.counter l.fn.node l.node l.arriving.rest.items
