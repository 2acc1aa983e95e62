-- The conditions that a pod's readiness gates name, and the condition Ready (Kubernetes, "Pod Lifecycle", "Pod
-- readiness"; that a condition is False until a tick says that it is True is this project's).
use Rattle.std.specs.Prelude.{◌≡◌, ℕ, ◌<◌, Bool, true, false, List, length, Option, Some, slice_get, IsSomeAnd}
use Rattle.std.specs.Option.{option_flatten}
use Rattle.manifest.specs.declared.pod.PodSpec.{PodSpec}
use Rattle.pod_state.specs.rule.Pods.{PodTick, AreContainersReady}

-- the status that a tick gives of the condition that the gate with the number names
abbrev pub gate_said : PodTick → ℕ → Option Bool
gate_said tick gate = option_flatten (slice_get tick.entry.words.gates gate)

-- the tick at this place gives this status of it
abbrev pub SaysStatus : List PodTick → ℕ → Bool → ℕ → Type 0
SaysStatus h gate status t = IsSomeAnd (slice_get h t) (λ tick. gate_said tick gate ≡ Some status)

-- the condition that the gate names is True after these ticks: some tick gives True, and none after it gives False
abbrev pub IsGateTrue : List PodTick → ℕ → Type 0
IsGateTrue h gate =
    (t : ℕ) × SaysStatus h gate true t × ((later : ℕ) → t < later → SaysStatus h gate false later → ⊥)

-- so it is of each of the pod's gates
abbrev pub AreGatesTrue : PodSpec → List PodTick → Type 0
AreGatesTrue pod h = (gate : ℕ) → gate < length pod.gates → IsGateTrue h gate

-- the pod is ready: its containers are, and the condition that each of its readiness gates names is True
abbrev pub IsReady : PodSpec → Option ℕ → List PodTick → Type 0
IsReady pod evicted h = AreContainersReady pod evicted h × AreGatesTrue pod h
