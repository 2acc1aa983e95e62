-- What a node line writes, step by step.
use Rattle.std.proofs.Common.{◌≡◌, ℕ, Option, Result, Ok, Err, refl}
use Rattle.std.specs.Prelude.{codes}
use Rattle.serde_json.specs.Data.{Data}
use Rattle.json_fields.specs.rule.Fields.{field_at}
use Rattle.quantity.specs.declared.limit.Limit.{Limit}
use Rattle.signals.specs.declared.by_signal.BySignal.{BySignal}
use Rattle.signals.specs.rule.BySignal.{of}
use Rattle.node_lines.specs.declared.fault.NodeFault.{NodeFault}
use Rattle.node_lines.specs.rule.Limits.{hard_limits, limit_at, reclaim_at}
use Rattle.node_lines.specs.rule.Maps.{map_of, duration_at}
use Rattle.node_lines.specs.rule.Thresholds.{written_over}

-- the maps before the reclaims
pub record AreRead (capacity : BySignal (Option ℕ)) (d : Data) (hard soft : BySignal (Option Limit))
    (graces : BySignal (Option ℕ)) : Type 0 where
  pub hard_is : Ok hard ≡ hard_limits capacity (field_at (codes "evictionHard") d)
  pub soft_is : Ok soft ≡ map_of (λ signal. limit_at (of capacity signal)) (field_at (codes "evictionSoft") d)
  pub graces_are : Ok graces ≡ map_of (λ signal. duration_at) (field_at (codes "evictionSoftGracePeriod") d)

abbrev pub reclaims_of : BySignal (Option ℕ) → Data → Result (BySignal Limit) NodeFault
reclaims_of capacity d = map_of (λ signal. reclaim_at (of capacity signal))
    (field_at (codes "evictionMinimumReclaim") d)

pub written_well : (capacity : BySignal (Option ℕ)) (d : Data) (hard soft : BySignal (Option Limit))
    (graces : BySignal (Option ℕ)) (reclaims : BySignal Limit)
    → AreRead capacity d hard soft graces → Ok reclaims ≡ reclaims_of capacity d
    → Ok (record { capacity = capacity; hard = hard; soft = soft; graces = graces; reclaims = reclaims })
    ≡ written_over capacity d
unfolding written_over
written_well capacity d hard soft graces reclaims read last =
    rw (← read.hard_is) (rw (← read.soft_is) (rw (← read.graces_are) (rw (← last) refl)))

pub reclaims_refused : (capacity : BySignal (Option ℕ)) (d : Data) (hard soft : BySignal (Option Limit))
    (graces : BySignal (Option ℕ)) (fault : NodeFault)
    → AreRead capacity d hard soft graces → Err fault ≡ reclaims_of capacity d → Err fault ≡ written_over capacity d
unfolding written_over
reclaims_refused capacity d hard soft graces fault read last =
    rw (← read.hard_is) (rw (← read.soft_is) (rw (← read.graces_are) (rw (← last) refl)))
