-- The line of an event in a report.
use Rattle.std.specs.Prelude.{ℕ, Bool, List, [], ◌∷◌, ◌++◌, slice_get, Option, Some, None, codes}
use Rattle.std.specs.Prelude.{if◌then◌else◌}
use Rattle.std.specs.Fmt.{decimal, signed_decimal}
use Rattle.signals.specs.rule.Signals.{name_of, kind_name}
use Rattle.manifest.specs.declared.pod.ContainerSpec.{ContainerSpec}
use Rattle.manifest.specs.declared.pod.PodSpec.{PodSpec}
use Rattle.probes.specs.declared.probe_set.Cause.{Cause}
use Rattle.probes.specs.declared.probe_set.Cause.TheVariants.{Startup, Liveness}
use Rattle.node_signals.specs.declared.key.ThresholdKey.{ThresholdKey}
use Rattle.node_signals.specs.declared.event.NodeEvent.{NodeEvent}
use Rattle.node_signals.specs.declared.event.NodeEvent.TheVariants.{Threshold, Pressure, Reclaim}
use Rattle.node_signals.specs.rule.Conditions.{name_of as condition_name}
use Rattle.phase.specs.declared.phase.Phase.{Phase}
use Rattle.phase.specs.declared.phase.Phase.TheVariants.{Pending, Running, Succeeded, Failed}
use Rattle.containers.specs.declared.pod_event_kind.PodEventKind.{PodEventKind}
use Rattle.containers.specs.declared.pod_event_kind.PodEventKind.TheVariants as kinds
use Rattle.pod_state.specs.declared.events.PodEvent.{PodEvent}
use Rattle.pod_piece.specs.declared.order.EvictOrder.{EvictOrder}
use Rattle.eviction.specs.declared.eviction.Eviction.{Eviction}
use Rattle.event_list.specs.declared.event.Event.{Event}
use Rattle.event_list.specs.declared.event.EventKind.{EventKind}
use Rattle.event_list.specs.declared.event.EventKind.TheVariants.{Pod, Node, Evicted, Named}

-- the parts one after the other
abbrev pub joined : List (List ℕ) → List ℕ
joined [] = []
joined (part ∷ []) = part
joined (part ∷ next ∷ parts) = part ++ joined (next ∷ parts)

-- the name of a phase
abbrev pub phase_word : Phase → List ℕ
phase_word Pending = codes "Pending"
phase_word Running = codes "Running"
phase_word Succeeded = codes "Succeeded"
phase_word Failed = codes "Failed"

-- the value of a condition
abbrev pub truth : Bool → List ℕ
truth b = if b then codes "True" else codes "False"

-- the probe that ordered a kill
abbrev pub cause_word : Cause → List ℕ
cause_word Startup = codes "startup"
cause_word Liveness = codes "liveness"

-- the key of a pod: its namespace and its name. Without a pod there is none
abbrev pub key_of : Option PodSpec → List ℕ
key_of None = []
key_of (Some pod) = joined (pod.namespace ∷ codes "/" ∷ pod.name ∷ [])

-- the name of a container; without a container there is none
abbrev pub name_in : Option ContainerSpec → List ℕ
name_in None = []
name_in (Some container) = container.name

-- the name of a container of the pod, and a dash for the pod itself
abbrev pub container_of : Option PodSpec → Option ℕ → List ℕ
container_of pod None = codes "-"
container_of None (Some container) = []
container_of (Some pod) (Some container) = name_in (slice_get pod.containers container)

-- a word and the attempt of an instance
abbrev pub of_attempt : List ℕ → ℕ → List ℕ
of_attempt word attempt = joined (word ∷ codes " " ∷ decimal attempt ∷ [])

-- what happened to a container or to a pod
unfoldable pub kind_words : PodEventKind → List ℕ
kind_words (kinds.Died attempt code) =
    joined (codes "died " ∷ decimal attempt ∷ codes " " ∷ signed_decimal code ∷ [])
kind_words (kinds.Started attempt) = of_attempt (codes "started") attempt
kind_words (kinds.StartupPassed attempt) = of_attempt (codes "startup-passed") attempt
kind_words (kinds.Kill attempt cause) =
    joined (codes "kill " ∷ decimal attempt ∷ codes " " ∷ cause_word cause ∷ [])
kind_words kinds.Ready = codes "ready"
kind_words kinds.Unready = codes "unready"
kind_words (kinds.Backoff delay) = joined (codes "backoff " ∷ decimal delay ∷ [])
kind_words (kinds.Restart attempt) = of_attempt (codes "restart") attempt
kind_words (kinds.Phase phase) = joined (codes "phase " ∷ phase_word phase ∷ [])

-- the words of an event of a pod: whose it is, and what happened
unfoldable pub pod_event_words : Option PodSpec → PodEvent → List ℕ
pod_event_words pod event =
    joined (key_of pod ∷ codes " " ∷ container_of pod event.container ∷ codes " " ∷ kind_words event.kind ∷ [])

-- a threshold by its signal and its kind
abbrev pub threshold_words : ThresholdKey → List ℕ
threshold_words key = joined (name_of key.signal ∷ codes " " ∷ kind_name key.kind ∷ [])

-- whether a threshold became active or was cleared
abbrev pub activity : Bool → List ℕ
activity active = if active then codes "active" else codes "cleared"

-- what happened to the node
unfoldable pub node_event_words : NodeEvent → List ℕ
node_event_words (Threshold key active) =
    joined (codes "node threshold " ∷ threshold_words key ∷ codes " " ∷ activity active ∷ [])
node_event_words (Pressure condition value) =
    joined (codes "node pressure " ∷ condition_name condition ∷ codes " " ∷ truth value ∷ [])
node_event_words (Reclaim key) = joined (codes "node reclaim " ∷ threshold_words key ∷ [])

-- an eviction: the pod, the threshold and the grace period in seconds
unfoldable pub eviction_words : List ℕ → EvictOrder → List ℕ
eviction_words key order =
    joined (key ∷ codes " " ∷ threshold_words (record { signal = order.signal; kind = order.kind })
    ∷ codes " " ∷ decimal order.grace ∷ [])

-- the words of an eviction on a node with these pods
abbrev pub words_among : List PodSpec → Eviction → List ℕ
words_among pods eviction = eviction_words (key_of (slice_get pods eviction.pod)) eviction.order

-- a pod that is named for a threshold, on a node with these pods
unfoldable pub named_words : List PodSpec → Eviction → List ℕ
named_words pods choice =
    joined (key_of (slice_get pods choice.pod) ∷ codes " "
    ∷ threshold_words (record { signal = choice.order.signal; kind = choice.order.kind }) ∷ [])

-- the words of an event on a node with these pods
unfoldable pub event_words : List PodSpec → EventKind → List ℕ
event_words pods (Pod n event) = pod_event_words (slice_get pods n) event
event_words pods (Node event) = node_event_words event
event_words pods (Evicted eviction) =
    joined (codes "node evicted " ∷ words_among pods eviction ∷ [])
event_words pods (Named choice) = joined (codes "node names " ∷ named_words pods choice ∷ [])

-- the line of an event
unfoldable pub event_line : List PodSpec → Event → List ℕ
event_line pods event =
    joined (codes "event " ∷ decimal event.at ∷ codes " " ∷ event_words pods event.kind ∷ codes "\n" ∷ [])
