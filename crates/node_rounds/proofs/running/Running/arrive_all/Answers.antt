use Rattle.std.proofs.Common.{◌∙◌, []}
use Rattle.histories.proofs.Lists.{rest_more}
use Rattle.node_rounds.proofs.GoesOn.{rest_next, room_left}
use Rattle.node_rounds.proofs.running.Running.arrive_all.Goals as goal

pub arrive-requires : goal.arrive-requires
arrive-requires g c =
    room_left c.args.pods.items c.loop-pod.yielded c.in-Some.pod _ c.loop-pod.self c.loop-pod.invariant.taken
    (rest_next c.args.pods.items c.loop-pod.yielded c.loop-pod.pod-iterator.rest.items c.in-Some.pod _
    c.loop-pod.invariant.rest c.in-Some.ensures.steps.0)
    c.requires.few

pub loop-pod-preserved : goal.loop-pod-preserved
loop-pod-preserved g c = record {
  config = c.in_ok-arrive.ensures.config ∙ c.loop-pod.invariant.config;
  taken = c.in_ok-arrive.ensures.taken c.loop-pod.yielded [] c.loop-pod.invariant.taken;
  rest = rest_more c.args.pods.items c.loop-pod.yielded c.in-Some.pod _
      (rest_next c.args.pods.items c.loop-pod.yielded c.loop-pod.pod-iterator.rest.items c.in-Some.pod _
      c.loop-pod.invariant.rest c.in-Some.ensures.steps.0);
}
