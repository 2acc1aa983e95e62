use Rattle.std.proofs.Common.{◌++◌, ◌∷◌, []}
use Rattle.node_signals.proofs.ConditionLemmas.{pressure_more}
use Rattle.node_signals.proofs.pressures.observed.Goals as goal

pub returns : goal.returns
returns c = λ eviction period before tick is_at w old.
    pressure_more eviction period c.args.condition before tick c.args.at c.is_met.result c.args.pressure
    c.observe.new.self is_at (c.is_met.ensures eviction (before ++ tick ∷ []) w) c.observe.ensures old
