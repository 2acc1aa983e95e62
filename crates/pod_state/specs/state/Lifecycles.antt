-- A pod's lifecycle, as it is carried from tick to tick.
use Rattle.std.specs.Prelude.{◌≡◌, ◌↔◌, ◌⊎◌, ℕ, ◌<◌, List, [], ◌∷◌, ◌++◌, length, Option, Some, Bool, true, IsSomeAnd}
use Rattle.std.specs.Prelude.{IsTrue}
use Rattle.histories.specs.rule.Histories.{Recorded, recorded, project, entry_at, moment_at, HoldsAt}
use Rattle.phase.specs.declared.conditions.Values.{Values}
use Rattle.manifest.specs.declared.pod.PodSpec.{PodSpec}
use Rattle.pod_state.specs.declared.lifecycle.Lifecycle.{Lifecycle}
use Rattle.phase.specs.declared.phase.Phase.{Phase}
use Rattle.phase.specs.declared.restart_view.RestartView.{RestartView}
use Rattle.phase.specs.rule.RawPhase.{IsTerminal}
use Rattle.phase.specs.state.Conditions.{IsStateOf}
use Rattle.pod_state.specs.rule.Pods.{PodEntry, PodTick, AllReady, IsPhase, IsInitialized, AreContainersReady}
use Rattle.pod_state.specs.rule.Pods.{says_failed}
use Rattle.pod_state.specs.rule.Gates.{AreGatesTrue, IsReady}
use Rattle.pod_state.specs.state.Pods.{AreViewsOf}
use Rattle.pod_state.specs.rule.Lifecycles.{IsLifecycleOf}

-- one value for each tick, at the tick's moment: whether C holds after it
pub record AreValuesOf (C : List PodTick → Type 0) (h : List PodTick) (values : List (Recorded Bool)) : Type 0 where
  pub count : length values ≡ length h
  pub moments : (t : ℕ) → moment_at values t ≡ moment_at h t
  pub same : (t : ℕ) → t < length values → (IsSomeAnd (entry_at values t) IsTrue ↔ HoldsAt C h t)

-- the lifecycle after these ticks, as made of the values that each tick gives to the conditions
pub record IsProgressOf (pod : PodSpec) (evicted : Option ℕ) (h : List PodTick) (status : Lifecycle) : Type 0 where
  pub so_far : IsLifecycleOf pod evicted h status
  pub values : List (Recorded Values)
  pub has_init : Bool
  pub conditions : IsStateOf has_init values status.conditions
  pub pod_scheduled : AreValuesOf (λ _. Unit {0}) h (project (λ v. true) values)
  pub initialized : AreValuesOf (IsInitialized pod evicted) h (project (λ v. v.initialized) values)
  pub containers_ready : AreValuesOf (AreContainersReady pod evicted) h (project (λ v. v.containers_ready) values)
  pub ready : AreValuesOf (IsReady pod evicted) h (project (λ v. v.ready) values)

-- the node ends the pod with this tick, which comes after these: it evicts the pod, or the tick reports its end
abbrev pub EndsWith : Option ℕ → List PodTick → PodTick → Type 0
EndsWith evicted h tick = (evicted ≡ Some (length h)) ⊎ IsTrue (says_failed tick)

-- A pod in phase p, whatever its history, is in phase q after one more tick. Unless the pod had ended before, the views
-- show its containers after that tick, and the flag is whether the node ends it with that tick.
abbrev pub IsNextPhase : List RestartView → Bool → Phase → Phase → Type 0
IsNextPhase views ends p q =
    (pod : PodSpec) (evicted : Option ℕ) (h : List PodTick) (at : ℕ) (entry : PodEntry)
    → ((IsTerminal p → ⊥) → AreViewsOf pod (h ++ recorded at entry ∷ []) views)
    → ((IsTerminal p → ⊥) → (IsTrue ends ↔ EndsWith evicted h (recorded at entry)))
    → IsPhase pod evicted h p
    → IsPhase pod evicted (h ++ recorded at entry ∷ []) q

-- A pod of this lifecycle, whatever its history, has the new lifecycle after one more tick, at this moment. Unless the
-- pod had ended before, the views show its containers after that tick, the first flag is whether all its app containers
-- and sidecars are ready then, the second whether each condition that its readiness gates name is True then, and the
-- third whether the node ends it with that tick.
abbrev pub IsNext : ℕ → List RestartView → Bool → Bool → Bool → Lifecycle → Lifecycle → Type 0
IsNext at views ready gates ends old new =
    (pod : PodSpec) (evicted : Option ℕ) (h : List PodTick) (entry : PodEntry)
    → ((IsTerminal old.phase → ⊥) → AreViewsOf pod (h ++ recorded at entry ∷ []) views)
    → ((IsTerminal old.phase → ⊥) → (IsTrue ready ↔ AllReady pod (h ++ recorded at entry ∷ [])))
    → ((IsTerminal old.phase → ⊥) → (IsTrue gates ↔ AreGatesTrue pod (h ++ recorded at entry ∷ [])))
    → ((IsTerminal old.phase → ⊥) → (IsTrue ends ↔ EndsWith evicted h (recorded at entry)))
    → IsProgressOf pod evicted h old
    → IsProgressOf pod evicted (h ++ recorded at entry ∷ []) new
