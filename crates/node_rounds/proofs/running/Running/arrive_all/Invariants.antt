use Rattle.std.proofs.Common.{◌≡◌, ◌++◌, []}
use Rattle.node_rounds.specs.state.Node.{HasTaken}
use Rattle.node_rounds.proofs.running.Running.arrive_all.Given as goal

abbrev pub invariant-loop-pod : goal.invariant-loop-pod
invariant-loop-pod g l = record {
  config : l.self.config ≡ l.fn.self.config;
  taken : HasTaken l.yielded [] l.self;
  rest : l.fn.pods.items ≡ l.yielded ++ l.pod-iterator.rest.items;
}
