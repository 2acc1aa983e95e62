-- A pod's phase, and its conditions with their moments, after a list of ticks (Kubernetes, "Pod
-- Lifecycle", "Pod phase" and "Pod conditions").
use Rattle.std.specs.Prelude.{◌↔◌, ℕ, List, Option}
use Rattle.std.specs.Prelude.{IsTrue}
use Rattle.histories.specs.rule.Histories.{HoldsAt, IsTransition}
use Rattle.phase.specs.declared.conditions.Condition.{Condition}
use Rattle.manifest.specs.declared.pod.PodSpec.{PodSpec}
use Rattle.pod_state.specs.declared.lifecycle.Lifecycle.{Lifecycle}
use Rattle.pod_state.specs.rule.Pods.{PodTick, IsPhase, IsInitialized, AreContainersReady}
use Rattle.pod_state.specs.rule.Gates.{IsReady}

-- the condition is true exactly if C holds after these ticks, and its moment is the moment of C's last transition
pub record IsConditionAfter (C : List PodTick → Type 0) (h : List PodTick) (c : Condition) : Type 0 where
  pub value : IsTrue c.value ↔ C h
  pub since : IsTransition h (HoldsAt C h) c.since

-- the phase and the conditions of the pod after these ticks
pub record IsLifecycleOf (pod : PodSpec) (evicted : Option ℕ) (h : List PodTick) (status : Lifecycle) : Type 0 where
  pub phase : IsPhase pod evicted h status.phase
  pub pod_scheduled : IsConditionAfter (λ _. Unit {0}) h status.conditions.pod_scheduled
  pub initialized : IsConditionAfter (IsInitialized pod evicted) h status.conditions.initialized
  pub containers_ready : IsConditionAfter (AreContainersReady pod evicted) h status.conditions.containers_ready
  pub ready : IsConditionAfter (IsReady pod evicted) h status.conditions.ready
