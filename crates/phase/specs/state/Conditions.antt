-- A condition's value, and the moment of its last transition, after a list of values (Kubernetes,
-- "Pod Lifecycle", "Pod conditions": `lastTransitionTime`).
use Rattle.std.specs.Prelude.{◌≡◌, List, [], ◌∷◌, Bool, not, true, false, IsSomeAnd, IsTrue}
use Rattle.histories.specs.rule.Histories.{Recorded, entry_at, project, IsTransition}
use Rattle.phase.specs.declared.conditions.Condition.{Condition}
use Rattle.phase.specs.declared.conditions.Values.{Values}
use Rattle.phase.specs.declared.conditions.Conditions.{Conditions}

-- the last value, or the given one where there is none
abbrev pub last_or : Bool → List (Recorded Bool) → Bool
last_or initially [] = initially
last_or initially (x ∷ h) = last_or x.entry h

-- the condition after these values, and with this one before any
pub record IsConditionOf (initially : Bool) (h : List (Recorded Bool)) (c : Condition) : Type 0 where
  pub value : c.value ≡ last_or initially h
  pub since : IsTransition h (λ t. IsSomeAnd (entry_at h t) IsTrue) c.since

-- the conditions after these values: it is always true that the pod is scheduled; before any value
-- the pod is initialized only if it has neither an init container nor a sidecar
pub record IsStateOf (has_init : Bool) (h : List (Recorded Values)) (conditions : Conditions) : Type 0 where
  pub pod_scheduled : IsConditionOf true (project (λ values. true) h) conditions.pod_scheduled
  pub initialized : IsConditionOf (not has_init) (project (λ values. values.initialized) h) conditions.initialized
  pub containers_ready : IsConditionOf false (project (λ values. values.containers_ready) h) conditions.containers_ready
  pub ready : IsConditionOf false (project (λ values. values.ready) h) conditions.ready
