use Rattle.std.proofs.Common.{◌≡◌, [], length}
use Rattle.node_config.specs.declared.node.NodeConfig.{NodeConfig}
use Rattle.tick_round.specs.state.Node.{IsAfter}
use Rattle.kubelet_replay.proofs.NodeLemmas.{IsSoFar}
use Rattle.kubelet_replay.proofs.replayed.take_by_steps.Given as goal

abbrev pub invariant-loop-tick : goal.invariant-loop-tick
invariant-loop-tick g l = record {
  so_far : (config : NodeConfig) → IsAfter config [] [] l.fn.node → IsSoFar config l.fn.pods.items l.fn.ticks.items
      l.yielded l.tick-iterator.rest.items l.arriving.rest.items l.node;
  count : l.count ≡ length l.fn.pods.items;
}
