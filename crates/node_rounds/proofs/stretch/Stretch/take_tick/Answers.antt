use Rattle.std.proofs.Common.{◌∙◌, List, [], Option, refl, ap}
use Rattle.std.proofs.lemmas.Result.{on_ok_weaker}
use Rattle.observations.specs.rule.Pods.{PodObs}
use Rattle.eviction.specs.state.Pausing.{Kept}
use Rattle.eviction.specs.rule.Replay.{pauses, unless_paused}
use Rattle.node_pods.specs.state.Pods.{pods_of, handed_each}
use Rattle.node_rounds.proofs.stretch.Stretch.take_tick.Goals as goal

pub returns : goal.returns
returns c =
    let old = c.args.self.now in
    let config = old.begun.config in
    let period = config.eviction_pressure_transition_period in
    on_ok_weaker c.hand.result (λ handed. record {
      row = record { at = c.args.tick.at; node_events = c.in_ok-node_events.node_events };
      served = c.served-served.result;
      sampled = record {
        signals = λ before is. c.in_ok-node_events.ensures.state period before is;
        node_events_are = λ before is. c.in_ok-node_events.ensures.events period before is;
        serves = λ before is. c.served-served.ensures period before is;
      };
      row_at = refl;
      config = refl;
      ticks = c.in_ok-push.ensures.items;
      heeded = c.unless_paused-begun.ensures
          ∙ ap (λ (k : Kept). unless_paused (pauses config c.args.tick.at k.pausing []) c.served-served.result)
          c.look.ensures;
      evictions = c.look.ensures;
      events = refl;
      at = refl;
      pods = (λ i. pods_of (handed i) (c.hand.ensures.max_restart_delay i) (c.hand.ensures.dedicated i))
          ∙ ap (λ (shown : List (Option PodObs)). pods_of (handed_each old.pods.pieces shown)
          old.pods.max_restart_delay old.pods.has_dedicated_imagefs) c.into_vec.ensures;
    }) c.hand.ensures.pieces
