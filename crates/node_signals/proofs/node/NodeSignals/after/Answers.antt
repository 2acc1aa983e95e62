use Rattle.std.proofs.Common.{List, refl, sym, subst}
use Rattle.observations.specs.declared.tick.TickObs.{TickObs}
use Rattle.observations.specs.rule.Observations.{judged_of}
use Rattle.node_signals.specs.state.Node.{AreWatches, ArePressures}
use Rattle.node_signals.proofs.Judged.{judged_more}
use Rattle.node_signals.proofs.node.NodeSignals.after.Goals as goal

pub returns : goal.returns
returns c = λ eviction period before s.
    let more = sym (judged_more before c.args.tick.now c.if-not-tick.false) in
    let watches = c.sample_all.ensures eviction (judged_of before) s.watches in
    let pressures = c.observe.ensures eviction period (judged_of before) c.args.tick.now refl watches s.pressures in
    record {
      watches = subst (λ (ticks : List TickObs). AreWatches eviction ticks c.sample_all.new.watches) more watches;
      pressures = subst (λ (ticks : List TickObs). ArePressures eviction period ticks c.observe.new.self) more
          pressures;
    }
