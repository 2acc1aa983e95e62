use Rattle.std.proofs.Common.{List, [], sym, subst}
use Rattle.manifest.specs.declared.pod.PodSpec.{PodSpec}
use Rattle.observations.specs.declared.tick.TickObs.{TickObs}
use Rattle.tick_round.specs.state.Node.{IsAfter, MayTakeAll}
use Rattle.kubelet_replay.proofs.AllTicks.{may_take_all}
use Rattle.kubelet_replay.proofs.Replayable.{are_replayable}
use Rattle.case_runner.proofs.several.node_and_ticks.Goals as goal

pub returns : goal.returns
returns g c =
    let trace = c.in_ok-trace.trace in
    let node = c.in_ok-node.node in
    let new = subst (λ (ps : List PodSpec). IsAfter trace.node ps [] node) c.into_vec.ensures c.in_ok-node.ensures in
    subst (λ (ts : List TickObs). MayTakeAll node ts) (sym c.into_vec-2.ensures)
    (may_take_all trace.node trace.pods trace.ticks node
    (are_replayable trace.pods trace.arrivals trace.departures trace.ticks c.in_ok-trace.ensures.acceptable
    c.in_ok-trace.ensures.shape) new)
