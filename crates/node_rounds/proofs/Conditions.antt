-- The conditions of a node, in their order.
use Rattle.std.proofs.Common.{◌≡◌, ℕ, zero, suc, List, [], ◌∷◌, Some, refl, subst}
use Rattle.std.specs.Prelude.{slice_get}
use Rattle.observations.specs.declared.tick.TickObs.{TickObs}
use Rattle.node_config.specs.declared.node.NodeConfig.{NodeConfig}
use Rattle.node_signals.specs.declared.condition.NodeCondition.{NodeCondition}
use Rattle.node_signals.specs.declared.condition.NodeCondition.TheVariants.{MemoryPressure, DiskPressure, PidPressure}
use Rattle.node_signals.specs.rule.Conditions.{conditions}
use Rattle.node_rounds.specs.declared.summary.ConditionStatus.{ConditionStatus}
use Rattle.node_rounds.specs.rule.Summary.{IsConditionAfter, AreConditionsAfter}

at_one : (config : NodeConfig) (ticks : List TickObs) (c c' : NodeCondition) (s s' : ConditionStatus)
    → Some c ≡ Some c' → Some s ≡ Some s' → IsConditionAfter config ticks c s → IsConditionAfter config ticks c' s'
at_one config ticks c c' s s' p q is =
    let same : c ≡ c' = cc in
    let same_status : s ≡ s' = cc in
    subst (λ (k : NodeCondition). IsConditionAfter config ticks k s') same
    (subst (λ (t : ConditionStatus). IsConditionAfter config ticks c t) same_status is)

pub all_conditions : (config : NodeConfig) (ticks : List TickObs) (memory disk pid : ConditionStatus)
    → IsConditionAfter config ticks MemoryPressure memory → IsConditionAfter config ticks DiskPressure disk
    → IsConditionAfter config ticks PidPressure pid
    → AreConditionsAfter config ticks (memory ∷ disk ∷ pid ∷ [])
all_conditions config ticks memory disk pid m d p = record { as_many = refl; each = each }
  where
    each : (n : ℕ) (c : NodeCondition) (s : ConditionStatus) → slice_get conditions n ≡ Some c
        → slice_get (memory ∷ disk ∷ pid ∷ []) n ≡ Some s → IsConditionAfter config ticks c s
    each zero c s e f = at_one config ticks MemoryPressure c memory s e f m
    each (suc zero) c s e f = at_one config ticks DiskPressure c disk s e f d
    each (suc (suc zero)) c s e f = at_one config ticks PidPressure c pid s e f p
    each (suc (suc (suc n))) c s e f = absurd (cc)
