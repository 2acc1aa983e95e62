use Rattle.std.proofs.Common.{◌-◌, ◌∷◌, Err, length, rules, arith}
use Rattle.std.proofs.lemmas.Result.{err_from_is_err_and}
use Rattle.kubelet_replay.proofs.NodeLemmas.{so_far_next, may_arrive, may_take_shown, one_more_shown, none_taken}
use Rattle.kubelet_replay.proofs.NodeLemmas.{for_memory}
use Rattle.kubelet_replay.proofs.replayed.take_by_steps.Goals as goal

pub loop-tick-init : goal.loop-tick-init
loop-tick-init g c = record {
  so_far = λ config is. none_taken config c.args.pods.items _ c.args.ticks.items _ c.args.node.now (search rules)
      (search rules) is;
  count = search rules;
}

pub tick_play-requires-clause-fits : goal.tick_play-requires-clause-fits
tick_play-requires-clause-fits g c =
    let new = c.requires.new in
    may_take_shown new.config c.args.pods.items c.args.ticks.items c.loop-tick.yielded c.in-Some.tick
    c.next.new.self.rest.items c.as_slice.result.now c.len-count.result c.loop-tick.arriving.rest.items
    c.arrive.new.arriving.rest.items c.loop-tick.node c.arrive.new.node c.requires.replayable
    (c.requires.whole new.config new.after)
    (so_far_next new.config c.args.pods.items c.args.ticks.items c.loop-tick.yielded _ _ c.loop-tick.arriving.rest.items
    c.loop-tick.node c.in-Some.ensures.steps.0 (c.loop-tick.invariant.so_far new.config new.after))
    c.as_slice.ensures c.loop-tick.invariant.count c.in_ok-arrive.ensures.arrived

pub loop-tick-preserved : goal.loop-tick-preserved
loop-tick-preserved g c = record {
  so_far = λ config is. one_more_shown config c.args.pods.items c.args.ticks.items c.loop-tick.yielded c.in-Some.tick
      c.next.new.self.rest.items c.as_slice.result.now c.len-count.result c.loop-tick.arriving.rest.items
      c.arrive.new.arriving.rest.items c.loop-tick.node c.arrive.new.node c.tick_play.new.self c.requires.replayable
      (so_far_next config c.args.pods.items c.args.ticks.items c.loop-tick.yielded _ _ c.loop-tick.arriving.rest.items
      c.loop-tick.node c.in-Some.ensures.steps.0 (c.loop-tick.invariant.so_far config is))
      c.as_slice.ensures c.loop-tick.invariant.count c.in_ok-arrive.ensures.arrived
      (c.in_ok-tick_play.ensures.taken config);
  count = c.loop-tick.invariant.count;
}

pub arrive-requires : goal.arrive-requires
arrive-requires g c =
    let new = c.requires.new in
    may_arrive new.config c.args.pods.items c.args.ticks.items c.loop-tick.yielded
    (c.in-Some.tick ∷ c.next.new.self.rest.items)
    (length c.loop-tick.arriving.rest.items - (c.len-count.result - length c.as_slice.result.now))
    c.loop-tick.arriving.rest.items c.loop-tick.node c.requires.replayable
    (so_far_next new.config c.args.pods.items c.args.ticks.items c.loop-tick.yielded _ _ c.loop-tick.arriving.rest.items
    c.loop-tick.node c.in-Some.ensures.steps.0 (c.loop-tick.invariant.so_far new.config new.after)) (omega arith)

pub returns-in_err-tick_play-clause-err : goal.returns-in_err-tick_play-clause-err
returns-in_err-tick_play-clause-err g c =
    let new = c.requires.new in
    let so_far = c.loop-tick.invariant.so_far new.config new.after in
    let p = err_from_is_err_and c.from_residual-in_err-tick_play.result c.from_residual-in_err-tick_play.ensures.1 in
    rw (p.1, p.2)
    (for_memory new.config _ c.loop-tick.yielded c.arrive.new.node (Err c.in_err-tick_play.field-0.0)
    (c.in_ok-arrive.ensures.arrived.arrived new.config _ c.loop-tick.yielded so_far.after)
    c.in_err-tick_play.ensures.halted)
