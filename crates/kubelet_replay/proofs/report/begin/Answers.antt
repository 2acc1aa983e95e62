use Rattle.std.proofs.Common.{◌≡◌, ◌∙◌, List, [], Option, Some, None, sym, subst}
use Rattle.manifest.specs.declared.pod.PodSpec.{PodSpec}
use Rattle.node_config.specs.declared.node.NodeConfig.{NodeConfig}
use Rattle.node_rounds.specs.state.Node.{State}
use Rattle.tick_round.specs.state.Node.{IsAfter}
use Rattle.observations.specs.declared.tick.TickObs.{TickObs}
use Rattle.kubelet_replay.specs.state.Ticks.{AreReplayable, AreWhole}
use Rattle.kubelet_replay.proofs.Replayable.{are_replayable, are_whole}
use Rattle.kubelet_replay.proofs.report.begin.Goals as goal

-- a node after no ticks has one configuration
one_config : (one other : NodeConfig) (node : Option State) → IsAfter one [] [] node → IsAfter other [] [] node
    → one ≡ other
one_config one other None after same = absurd after
one_config one other (Some s) after same = sym after.0 ∙ same.0

pub returns-in-Ok-clause-whole : goal.returns-in-Ok-clause-whole
returns-in-Ok-clause-whole g c = λ config after.
    let trace = c.args.trace in
    let new =
    subst (λ (ps : List PodSpec). IsAfter trace.node ps [] c.in-Ok.node) c.new.ensures.items c.in-Ok.ensures in
    subst (λ (ts : List TickObs). AreWhole config.version ts) (sym c.into_vec-in-Ok.ensures)
    (subst (λ (of : NodeConfig). AreWhole of.version trace.ticks) (one_config _ config _ new after)
    (are_whole trace.node.version trace.pods trace.arrivals trace.departures trace.ticks c.requires.shape
    c.requires.leaving))

pub returns-in-Ok-clause-replayable : goal.returns-in-Ok-clause-replayable
returns-in-Ok-clause-replayable g c =
    let trace = c.args.trace in
    subst (λ (ts : List TickObs). AreReplayable c.into_vec.result.items ts) (sym c.into_vec-in-Ok.ensures)
    (subst (λ (ps : List PodSpec). AreReplayable ps trace.ticks) (sym c.into_vec.ensures)
    (are_replayable trace.pods trace.arrivals trace.departures trace.ticks c.requires.acceptable c.requires.shape))
