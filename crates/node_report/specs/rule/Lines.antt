-- The lines of a report, as text.
use Rattle.std.specs.Prelude.{ℕ, ℤ, Bool, List, [], ◌∷◌, ◌++◌, Option, Some, None, unwrap_or}
use Rattle.std.specs.Prelude.{length, if◌then◌else◌, codes}
use Rattle.std.specs.List.{flat_map}
use Rattle.std.specs.Fmt.{decimal, signed_decimal}
use Rattle.manifest.specs.declared.pod.ContainerSpec.{ContainerSpec}
use Rattle.manifest.specs.declared.pod.PodSpec.{PodSpec}
use Rattle.qos.specs.declared.class.Qos.{Qos}
use Rattle.qos.specs.declared.class.Qos.TheVariants.{Guaranteed, Burstable, BestEffort}
use Rattle.node_signals.specs.rule.Conditions.{name_of}
use Rattle.phase.specs.declared.conditions.Condition.{Condition}
use Rattle.phase.specs.declared.conditions.Conditions.{Conditions}
use Rattle.phase.specs.declared.container.ContainerState.{ContainerState}
use Rattle.phase.specs.declared.container.ContainerState.TheVariants as states
use Rattle.phase.specs.declared.phase.Phase.{Phase}
use Rattle.containers.specs.declared.status.ContainerStatus.{ContainerStatus}
use Rattle.eviction.specs.declared.eviction.Eviction.{Eviction}
use Rattle.totals.specs.declared.totals.Totals.{Totals}
use Rattle.event_list.specs.declared.event.Event.{Event}
use Rattle.event_list.specs.rule.Text.{joined, phase_word, truth, words_among, event_line}
use Rattle.node_rounds.specs.declared.summary.ConditionStatus.{ConditionStatus}

-- the name of a container's state
abbrev pub state_word : ContainerState → List ℕ
state_word states.Waiting = codes "Waiting"
state_word states.Running = codes "Running"
state_word states.Terminated = codes "Terminated"

-- a truth value, in lowercase
abbrev pub bool_text : Bool → List ℕ
bool_text b = if b then codes "true" else codes "false"

-- an exit code, and a dash without one
abbrev pub code_text : Option ℤ → List ℕ
code_text None = codes "-"
code_text (Some code) = signed_decimal code

-- the name of a QoS class
abbrev pub qos_word : Qos → List ℕ
qos_word Guaranteed = codes "Guaranteed"
qos_word Burstable = codes "Burstable"
qos_word BestEffort = codes "BestEffort"

-- the beginning of a pod's line: its number, its key and its phase
abbrev pub pod_words : ℕ → List ℕ → List ℕ → List ℕ → List ℕ
pod_words n namespace name phase =
    joined (codes "pod " ∷ decimal n ∷ codes " " ∷ namespace ∷ codes "/" ∷ name ∷ codes " phase=" ∷ phase ∷ [])

-- the end of a pod's line: its reason and its QoS class
abbrev pub class_words : List ℕ → List ℕ → List ℕ → List ℕ
class_words words reason qos = joined (words ∷ codes " reason=" ∷ reason ∷ codes " qos=" ∷ qos ∷ codes "\n" ∷ [])

-- the line of a pod; a dash where there is no reason
unfoldable pub pod_line : ℕ → PodSpec → Qos → Phase → Option (List ℕ) → List ℕ
pod_line n pod qos phase reason =
    class_words (pod_words n pod.namespace pod.name (phase_word phase)) (unwrap_or reason (codes "-")) (qos_word qos)

-- the line of a condition of a pod; without ticks its moment is 0
unfoldable pub condition_line : ℕ → List ℕ → Condition → List ℕ
condition_line n kind c =
    joined (codes "condition " ∷ decimal n ∷ codes " " ∷ kind ∷ codes " " ∷ truth c.value
    ∷ codes " " ∷ decimal (unwrap_or c.since 0) ∷ codes "\n" ∷ [])

-- the beginning of a container's line: its name, its state and its exit code
abbrev pub container_words : ℕ → List ℕ → List ℕ → List ℕ → List ℕ
container_words n name state code =
    joined (codes "container " ∷ decimal n ∷ codes " " ∷ name ∷ codes " state=" ∷ state ∷ codes " code=" ∷ code ∷ [])

-- the end of a container's line: its restarts, and whether it is ready and started
abbrev pub flag_words : List ℕ → ℕ → Bool → Bool → List ℕ
flag_words words restarts ready started =
    joined (words ∷ codes " restarts=" ∷ decimal restarts ∷ codes " ready=" ∷ bool_text ready
    ∷ codes " started=" ∷ bool_text started ∷ codes "\n" ∷ [])

-- the line of a container
unfoldable pub container_line : ℕ → List ℕ → ContainerStatus → List ℕ
container_line n name s =
    flag_words (container_words n name (state_word s.state) (code_text s.code)) s.restarts s.ready s.started

-- the four condition lines of a pod
abbrev pub conditions_text : ℕ → Conditions → List ℕ
conditions_text n c =
    condition_line n (codes "PodScheduled") c.pod_scheduled
    ++ (condition_line n (codes "Initialized") c.initialized
    ++ (condition_line n (codes "ContainersReady") c.containers_ready
    ++ condition_line n (codes "Ready") c.ready))

-- the line of the condition that only a pod has that the node disrupts, with the moment since when
abbrev pub disruption_text : ℕ → Option ℕ → List ℕ
disruption_text n None = []
disruption_text n (Some since) =
    joined (codes "condition " ∷ decimal n ∷ codes " DisruptionTarget True " ∷ decimal since
    ∷ codes " TerminationByKubelet\n" ∷ [])

-- a line for each container
abbrev pub containers_text : ℕ → List ContainerSpec → List ContainerStatus → List ℕ
containers_text n [] ss = []
containers_text n (c ∷ cs) [] = []
containers_text n (c ∷ cs) (s ∷ ss) = container_line n c.name s ++ containers_text n cs ss

-- the lines of the pod with the number
abbrev pub pod_text : ℕ → PodSpec → Qos → Phase → Conditions → Option (List ℕ) → Option ℕ → List ContainerStatus
    → List ℕ
pod_text n pod qos phase conditions reason disrupted statuses =
    pod_line n pod qos phase reason
    ++ (conditions_text n conditions ++ (disruption_text n disrupted ++ containers_text n pod.containers statuses))

-- the first line: the node's name, and how many pods and ticks there are
unfoldable pub header_line : List ℕ → ℕ → ℕ → List ℕ
header_line name pods ticks =
    joined (codes "node " ∷ name ∷ codes " pods=" ∷ decimal pods ∷ codes " ticks=" ∷ decimal ticks ∷ codes "\n" ∷ [])

-- the line of a condition of the node, with since when it has been so, in seconds
unfoldable pub node_condition_line : ConditionStatus → List ℕ
node_condition_line c =
    joined (codes "nodecondition " ∷ name_of c.condition ∷ codes " " ∷ truth c.value ∷ codes " " ∷ decimal c.since
    ∷ codes "\n" ∷ [])

-- the line of an eviction on a node with these pods, at its moment in seconds
unfoldable pub eviction_line : List PodSpec → Eviction → List ℕ
eviction_line pods eviction =
    joined (codes "eviction " ∷ decimal eviction.order.at ∷ codes " " ∷ words_among pods eviction ∷ codes "\n" ∷ [])

-- the line of a tick's eviction, if it has one
abbrev pub eviction_text : List PodSpec → Option Eviction → List ℕ
eviction_text pods None = []
eviction_text pods (Some eviction) = eviction_line pods eviction

-- the last line: the totals
unfoldable pub totals_line : Totals → List ℕ
totals_line totals =
    joined (codes "totals updates=" ∷ decimal totals.updates ∷ codes " events=" ∷ decimal totals.events
    ∷ codes " orders=" ∷ decimal totals.orders ∷ codes "\n" ∷ [])

-- the lines of a report one after the other: the node's name, what happened, the pods, the node's
-- conditions, the evictions and the totals
abbrev pub report_lines : List ℕ → List PodSpec → ℕ → List Event → List ℕ → List ConditionStatus
    → List (Option Eviction) → Totals → List ℕ
report_lines name pods ticks events pod_lines conditions evictions totals =
    header_line name (length pods) ticks
    ++ (flat_map (event_line pods) events
    ++ (pod_lines
    ++ (flat_map node_condition_line conditions
    ++ (flat_map (eviction_text pods) evictions
    ++ totals_line totals))))
