-- The phase of a pod after a list of ticks (Kubernetes, "Pod Lifecycle", "Pod phase"; that what is
-- recorded after the end of a pod changes nothing is this profile's rule). A tick is named by its
-- place in the list, a container by its number.
use Rattle.std.specs.Prelude.{◌≡◌, ◌≢◌, ◌⊎◌, ℕ, suc, ℤ, Bool, List, [], ◌∷◌, length, Option, Some, None, IsSomeAnd}
use Rattle.std.specs.Prelude.{IsTrue, is_some}
use Rattle.std.specs.Prelude.{unwrap_or, slice_get}
use Rattle.std.specs.List.{range_with_len, list_any}
use Rattle.histories.specs.rule.Histories.{Recorded, recorded, project, up_to, HoldsAt, IsFirstPlace}
use Rattle.observations.specs.declared.container.ContainerObs.{ContainerObs}
use Rattle.observations.specs.rule.Pods.{PodObs}
use Rattle.observations.specs.declared.usage.Sampling.{Sampling}
use Rattle.observations.specs.declared.words.PodWords.{PodWords}
use Rattle.observations.specs.declared.resize.Resize.{Resize}
use Rattle.state_diff.specs.rule.Instances.{IsSetUp}
use Rattle.manifest.specs.declared.pod.ContainerSpec.{ContainerSpec}
use Rattle.manifest.specs.declared.pod.Role.{Role}
use Rattle.manifest.specs.declared.pod.Role.TheVariants.{Sidecar, App}
use Rattle.manifest.specs.declared.pod.PodSpec.{PodSpec}
use Rattle.phase.specs.declared.phase.Phase.{Phase}
use Rattle.phase.specs.declared.phase.Phase.TheVariants.{Pending, Failed}
use Rattle.phase.specs.rule.Facts.{Facts}
use Rattle.phase.specs.rule.RawPhase.{Where, IsTerminal, AreInitialized}
use Rattle.phase.specs.rule.ByContainer.{IsRawPhaseBy}
use Rattle.restarts.specs.rule.Own.{WantsRestartBy}
use Rattle.containers.specs.rule.Ticks.{ContainerTick, listings}
use Rattle.containers.specs.rule.Probed as probed
use Rattle.containers.specs.rule.Shown as shown

-- what a tick shows of a pod: for each container the listing and its probes' results, the sampling of the pod's use of
-- its node, the tick's words, and the resizes of its containers
pub record PodEntry : Type 0 where
  pub containers : List ContainerObs
  pub sampling : Sampling
  pub words : PodWords
  pub resized : List Resize

-- one tick of a pod: its moment, and what it shows
abbrev pub PodTick : Type 0
PodTick = Recorded PodEntry

-- the tick that an observation is
abbrev pub pod_tick : PodObs → PodTick
pod_tick observed = recorded observed.at (record {
  containers = observed.containers;
  sampling = observed.sampling;
  words = observed.words;
  resized = observed.resized;
})

-- the pod is being deleted after these ticks: some of them marks it so (Kubernetes, "Pod Lifecycle", "Termination of
-- Pods"; the word is this project's)
abbrev pub is_being_deleted : List PodTick → Bool
is_being_deleted h = list_any (λ (tick : PodTick). tick.entry.words.deleting) h

-- the tick reports that the node has ended the pod with it (Kubernetes, "Pod Lifecycle", "Pod phase"; the word is this
-- project's)
abbrev pub says_failed : PodTick → Bool
says_failed tick = is_some tick.entry.words.failed

-- what a tick shows of a container of which it has no entry: nothing listed, and no results
abbrev pub unseen : ContainerObs
unseen = record { seen = None; results = None ∷ None ∷ None ∷ [] }

-- the ticks of one container
abbrev pub ticks_of : List PodTick → ℕ → List ContainerTick
ticks_of h container = project (λ (entry : PodEntry). unwrap_or (slice_get entry.containers container) unseen) h

-- P holds of the specification of the container with the number
abbrev pub OfSpec : PodSpec → ℕ → (ContainerSpec → Type 0) → Type 0
OfSpec pod container P = IsSomeAnd (slice_get pod.containers container) P

-- the container with the number has this role
abbrev pub HasRole : PodSpec → ℕ → Role → Type 0
HasRole pod container role = OfSpec pod container (λ spec. spec.role ≡ role)

-- the container with the number is an app container or a sidecar
abbrev pub Serves : PodSpec → ℕ → Type 0
Serves pod container = HasRole pod container Sidecar ⊎ HasRole pod container App

-- the container with the number is ready
abbrev pub IsReadyInPod : PodSpec → List PodTick → ℕ → Type 0
IsReadyInPod pod h container = OfSpec pod container (λ spec. probed.IsContainerReady spec (ticks_of h container))

-- the facts of the pod's containers after these ticks
abbrev pub facts : PodSpec → List PodTick → Facts ℕ
facts pod h = record {
  is = HasRole pod;
  exited = λ container code. shown.HasExitedWith (listings (ticks_of h container)) code;
  set_up = λ container. IsSetUp (listings (ticks_of h container));
  was_started = λ container. OfSpec pod container (λ spec. probed.WasStarted spec (ticks_of h container));
}

-- the container with the number is restarted after an exit with this code: by the pod's policy and by what it has of
-- its own
abbrev pub WantsRestart : PodSpec → ℕ → ℤ → Type 0
WantsRestart pod container code =
    OfSpec pod container (λ spec. WantsRestartBy pod.policy spec.own_restarts spec.role code)

-- the numbers of the pod's containers
abbrev pub numbers : PodSpec → List ℕ
numbers pod = range_with_len 0 (length pod.containers)

-- the raw phase of the pod after these ticks
abbrev pub IsRawPhaseAfter : PodSpec → List PodTick → Phase → Type 0
IsRawPhaseAfter pod h phase = IsRawPhaseBy (facts pod h) (WantsRestart pod) (numbers pod) phase

-- the node ends the pod with the tick at this place: that tick evicts it, or reports its end
abbrev pub IsEndedByNode : Option ℕ → List PodTick → ℕ → Type 0
IsEndedByNode evicted h t = (evicted ≡ Some t) ⊎ IsSomeAnd (slice_get h t) (λ tick. IsTrue (says_failed tick))

-- the last tick ends the pod: it leaves it succeeded or failed, or the node ends it with that tick
abbrev pub EndsPod : PodSpec → Option ℕ → List PodTick → Type 0
EndsPod pod evicted h =
    ((phase : Phase) × IsTerminal phase × IsRawPhaseAfter pod h phase)
    ⊎ ((t : ℕ) × (length h ≡ suc t) × IsEndedByNode evicted h t)

-- the end of the pod: the first tick that ends it, if one does
abbrev pub IsEnd : PodSpec → Option ℕ → List PodTick → Option ℕ → Type 0
IsEnd pod evicted h end = IsFirstPlace (HoldsAt (EndsPod pod evicted) h) end

-- some tick has ended the pod
abbrev pub HasEnded : PodSpec → Option ℕ → List PodTick → Type 0
HasEnded pod evicted h = (t : ℕ) × IsEnd pod evicted h (Some t)

-- the ticks that count: those up to the end
abbrev pub counted : List PodTick → Option ℕ → List PodTick
counted h None = h
counted h (Some t) = up_to h t

-- the pod, which has this end, ends by the node
abbrev pub EndsByNode : Option ℕ → List PodTick → Option ℕ → Type 0
EndsByNode evicted h end = IsSomeAnd end (IsEndedByNode evicted h)

-- the phase, of a pod with this end
abbrev pub IsPhaseBy : PodSpec → Option ℕ → List PodTick → Option ℕ → Phase → Type 0
IsPhaseBy pod evicted h end phase =
    Where (h ≡ []) (phase ≡ Pending)
    (Where (EndsByNode evicted h end) (phase ≡ Failed)
    (IsRawPhaseAfter pod (counted h end) phase))

-- the phase after these ticks
abbrev pub IsPhase : PodSpec → Option ℕ → List PodTick → Phase → Type 0
IsPhase pod evicted h phase = (end : Option ℕ) × IsEnd pod evicted h end × IsPhaseBy pod evicted h end phase

-- the pod is initialized after the ticks that count: every init container has completed, every sidecar was started
abbrev pub IsInitialized : PodSpec → Option ℕ → List PodTick → Type 0
IsInitialized pod evicted h = (end : Option ℕ) × IsEnd pod evicted h end
    × AreInitialized (facts pod (counted h end)) (numbers pod)

-- every app container and sidecar of the pod is ready
abbrev pub AllReady : PodSpec → List PodTick → Type 0
AllReady pod h = (container : ℕ) → Serves pod container → IsReadyInPod pod h container

-- the pod has not ended, and every app container and sidecar is ready
abbrev pub AreContainersReady : PodSpec → Option ℕ → List PodTick → Type 0
AreContainersReady pod evicted h = (h ≢ []) × IsEnd pod evicted h None × AllReady pod h
