use Rattle.std.proofs.Common.{[]}
use Rattle.kubelet_replay.proofs.AllTicks.{may_all_arrive, may_take_all, have_all}
use Rattle.kubelet_replay.proofs.NodeLemmas.{for_memory}
use Rattle.kubelet_replay.proofs.replayed.take_by_workers.Goals as goal

pub arrive-requires : goal.arrive-requires
arrive-requires g c =
    let new = c.requires.new in
    may_all_arrive new.config c.args.pods.items c.into_iter.result.rest.items c.args.ticks.items c.args.node.now
    c.into_iter.ensures.rest c.requires.replayable new.after

pub ticks-requires-clause-fits : goal.ticks-requires-clause-fits
ticks-requires-clause-fits g c κs within =
    let new = c.requires.new in
    may_take_all new.config c.args.pods.items c.args.ticks.items c.arrive.new.node c.requires.replayable
    (have_all new.config c.args.pods.items c.into_iter.result.rest.items c.args.node.now c.arrive.new.node
    c.arrive.new.arriving.rest.items c.into_iter.ensures.rest new.after c.in_ok-arrive.ensures.arrived)

pub returns-clause-after : goal.returns-clause-after
returns-clause-after g c = λ config is.
    c.ticks.ensures.taken config c.args.pods.items []
    (have_all config c.args.pods.items c.into_iter.result.rest.items c.args.node.now c.arrive.new.node
    c.arrive.new.arriving.rest.items c.into_iter.ensures.rest is c.in_ok-arrive.ensures.arrived)

pub returns-clause-gated : goal.returns-clause-gated
returns-clause-gated g c =
    let new = c.requires.new in
    c.ticks.ensures.gated new.config c.args.pods.items []
    (have_all new.config c.args.pods.items c.into_iter.result.rest.items c.args.node.now c.arrive.new.node
    c.arrive.new.arriving.rest.items c.into_iter.ensures.rest new.after c.in_ok-arrive.ensures.arrived)

pub returns-clause-err : goal.returns-clause-err
returns-clause-err g c =
    let new = c.requires.new in
    for_memory new.config c.args.pods.items [] c.arrive.new.node c.ticks.result
    (have_all new.config c.args.pods.items c.into_iter.result.rest.items c.args.node.now c.arrive.new.node
    c.arrive.new.arriving.rest.items c.into_iter.ensures.rest new.after c.in_ok-arrive.ensures.arrived)
    c.ticks.ensures.halted
