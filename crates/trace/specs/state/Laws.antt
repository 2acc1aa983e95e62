-- What the trace of a text is, in the words of its format. The lines of a text have the places 0,
-- 1, .. and, in an answer, the numbers 1, 2, ...
use Rattle.std.specs.Prelude.{◌≡◌, ◌≢◌, ◌⊎◌, ◌↔◌, ◌+◌, ◌≤◌, ◌<◌, ℕ, zero, suc, true, false, List, [], length}
use Rattle.std.specs.Prelude.{slice_get, Bool, Option, Some, None, is_some, option_map, IsSomeAnd, Ok, Err, codes}
use Rattle.serde_json.specs.Data.{Data, boolean}
use Rattle.json_fields.specs.rule.Fields.{field_at, text_at}
use Rattle.line_faults.specs.declared.fault.FaultKind.{FaultKind}
use Rattle.line_faults.specs.declared.fault.FaultKind.TheVariants.{TooLong, NotJson, UnknownKind, Order}
use Rattle.line_faults.specs.declared.fault.FaultKind.TheVariants.{Manifest, Config, SoftWithoutGrace}
use Rattle.line_faults.specs.declared.fault.FaultKind.TheVariants.{DuplicatePod, StrangerPod, StrangerContainer}
use Rattle.line_faults.specs.declared.fault.FaultKind.TheVariants.{Doubled, Moment, Backwards, ExitCode}
use Rattle.line_faults.specs.declared.fault.FaultKind.TheVariants.{TooMany, Usage, OutOfMemory}
use Rattle.line_faults.specs.declared.fault.LineFault.{LineFault}
use Rattle.trace.specs.declared.trace_so_far.Trace.{Trace}
use Rattle.trace.specs.declared.trace_so_far.LineKind.{LineKind}
use Rattle.trace.specs.declared.trace_so_far.LineKind.TheVariants as kinds
use Rattle.tick_lines.specs.declared.listing.Listing.{Listing}
use Rattle.tick_lines.specs.declared.entry.TickEntry.{TickEntry}
use Rattle.tick_lines.specs.declared.probing.ProbeResult.{ProbeResult}
use Rattle.tick_lines.specs.declared.resizes.ContainerResize.{ContainerResize}
use Rattle.tick_lines.specs.declared.reason.ReasonMember.TheVariants as reasons
use Rattle.tick_lines.specs.declared.truth.TruthMember.TheVariants.{Yes}
use Rattle.lists.specs.rule.Names.{place_of}
use Rattle.roster.specs.rule.Roll.{Roll, key_of_pod, number_of, is_present}
use Rattle.manifest.specs.rule.Containers.{names_of}
use Rattle.manifest.specs.declared.outcome.Outcome.{Outcome}
use Rattle.manifest.specs.declared.outcome.ProbeKind.{ProbeKind}
use Rattle.tick_lines.specs.declared.listing.ListedInstance.{ListedInstance}
use Rattle.tick_lines.specs.declared.line.TickLine.{TickLine}
use Rattle.tick_lines.specs.state.Laws.{IsSample}
use Rattle.signals.specs.declared.signal.Signal.{Signal}
use Rattle.signals.specs.rule.Signals.{name_of}
use Rattle.signals.specs.rule.BySignal.{of}
use Rattle.trace.specs.declared.placing.PlacedListing.{PlacedListing}
use Rattle.trace.specs.declared.placing.PlacedResult.{PlacedResult}
use Rattle.trace.specs.declared.placing.PlacedEntry.{PlacedEntry}
use Rattle.json_lines.specs.rule.Lines.{lines_of, is_blank, longest_line}
use Rattle.trace.specs.rule.Written.{node_in, tick_line_in}
use Rattle.trace.specs.rule.Pod.{pod_of_line, named_in}
use Rattle.trace.specs.rule.Placing.{placed_of, has_twice, are_of_one_pod, are_of_one_probe, is_doubled, resizes_by}
use Rattle.trace.specs.rule.Observed.{seen_listed, outcome_in, observed, some_code_missing}
use Rattle.following.specs.rule.Backwards.{is_backwards}
use Rattle.manifest_fields.specs.declared.fault.ManifestFault.{ManifestFault}
use Rattle.manifest_fields.specs.declared.fault.ManifestFault.TheVariants as manifest_faults
use Rattle.manifest.specs.declared.pod.PodSpec.{PodSpec}
use Rattle.observations.specs.rule.Pods.{PodObs}
use Rattle.observations.specs.declared.tick.TickObs.{TickObs}
use Rattle.observations.specs.declared.usage.Sampling.{Sampling}
use Rattle.observations.specs.declared.usage.Sampling.TheVariants.{Unsampled, Sampled}
use Rattle.observations.specs.declared.usage.Usage.{Usage as PodUsage}
use Rattle.observations.specs.rule.Observations.{shown_of, history}
use Rattle.observations.specs.state.Observations.{seen_of}
use Rattle.observations.specs.rule.Limits.{most_pods, most_ticks}
use Rattle.state_diff.specs.declared.seen.Seen.{Seen}
use Rattle.state_diff.specs.state.Instances.{IsAcceptable}
use Rattle.node_config.specs.declared.node.NodeConfig.{NodeConfig}
use Rattle.node_config.specs.declared.node.Format.{Format}
use Rattle.node_config.specs.declared.node.Format.TheVariants.{Standard, Extended}
use Rattle.node_config.specs.declared.node.Version.{Version}
use Rattle.node_config.specs.declared.node.Version.TheVariants.{One, Two, Three}
use Rattle.trace.specs.rule.TraceSoFar.{TraceSoFar, version_in, heeds_words, heeds, of_node, with_pod, without}
use Rattle.trace.specs.rule.TraceSoFar.{with_tick}
use Rattle.trace.specs.rule.Tick.{moment_of}
use Rattle.trace.specs.rule.Trace.{json_of, kind_from, line_at, nothing, trace_of}

-- after what is past, the line leads to this: a blank line adds nothing, any other line counts and has no fault
abbrev pub Leaves : TraceSoFar → List ℕ → TraceSoFar → Type 0
Leaves before line past = ((is_blank line ≡ true) × (past ≡ before))
    ⊎ ((is_blank line ≡ false) × (line_at before line ≡ Ok past))

-- the first n lines lead to this, and none of them that counts has a fault
abbrev pub AreSaid : Format → List (List ℕ) → ℕ → TraceSoFar → Type 0
AreSaid format lines zero past = past ≡ nothing format
AreSaid format lines (suc n) past = (before : TraceSoFar) × (line : List ℕ) × AreSaid format lines n before
    × (slice_get lines n ≡ Some line) × Leaves before line past

-- the line at place n counts and has a fault, its first of this kind, and no line before it has one
pub record IsFaultAt (format : Format) (lines : List (List ℕ)) (n : ℕ) (kind : FaultKind) : Type 0 where
  pub past : TraceSoFar
  pub line : List ℕ
  pub said : AreSaid format lines n past
  pub here : slice_get lines n ≡ Some line
  pub counts : is_blank line ≡ false
  pub fails : line_at past line ≡ Err kind

-- every line is blank
abbrev pub NoneCounts : List (List ℕ) → Type 0
NoneCounts lines = (n : ℕ) (line : List ℕ) → slice_get lines n ≡ Some line → is_blank line ≡ true

-- the answer names the first line that has a fault, or the line after the last one where no line
-- counts
abbrev pub IsFirstFault : Format → List (List ℕ) → LineFault → Type 0
IsFirstFault format lines fault =
    ((n : ℕ) × IsFaultAt format lines n fault.kind × (fault.line ≡ n + 1))
    ⊎ (NoneCounts lines × (fault.kind ≡ Order) × (fault.line ≡ length lines + 1))

-- no line has a fault, and all of them together give the trace
pub record IsWhole (format : Format) (lines : List (List ℕ)) (trace : Trace) : Type 0 where
  pub past : TraceSoFar
  pub said : AreSaid format lines (length lines) past
  pub node : past.node ≡ Some trace.node
  pub pods : past.roll.pods ≡ trace.pods
  pub arrivals : past.roll.arrivals ≡ trace.arrivals
  pub departures : past.roll.departures ≡ trace.departures
  pub ticks : past.ticks ≡ trace.ticks

-- a text is rejected exactly with its first fault
abbrev pub FirstFault : Type 0
FirstFault = (format : Format) (text : List ℕ) (fault : LineFault)
    → (trace_of format text ≡ Err fault ↔ IsFirstFault format (lines_of text) fault)

-- a text has a trace exactly if no line has a fault and some line counts; the lines give the trace
abbrev pub WholeTrace : Type 0
WholeTrace = (format : Format) (text : List ℕ) (trace : Trace)
    → (trace_of format text ≡ Ok trace ↔ IsWhole format (lines_of text) trace)

-- the first lines lead to one result at most, and at most one line has the first fault
pub record OneFault : Type 0 where
  pub said : (format : Format) (lines : List (List ℕ)) (n : ℕ) (past past' : TraceSoFar) → AreSaid format lines n past
      → AreSaid format lines n past' → past ≡ past'
  pub fault : (format : Format) (lines : List (List ℕ)) (n m : ℕ) (kind kind' : FaultKind)
      → IsFaultAt format lines n kind → IsFaultAt format lines m kind' → (n ≡ m) × (kind ≡ kind')

-- the line is at most 1 MiB long, and it is this JSON value
pub record IsJson (line : List ℕ) (d : Data) : Type 0 where
  pub short : length line ≤ longest_line
  pub json : json_of line ≡ Ok d

-- and of this kind
pub record IsOfKind (past : TraceSoFar) (line : List ℕ) (line_kind : LineKind) (d : Data) : Type 0 where
  pub json : IsJson line d
  pub kind : kind_from (version_in past) (text_at (codes "kind") d) ≡ Some line_kind

-- in version 1 a pod line comes before all tick lines; in later versions it may follow one
abbrev pub TakesPods : List TickObs → Version → Type 0
TakesPods ticks One = ticks ≡ []
TakesPods ticks Two = Unit {0}
TakesPods ticks Three = Unit {0}

-- a node line comes before all other lines that count, and a pod line where the version allows it
abbrev pub MayStand : TraceSoFar → LineKind → Type 0
MayStand past kinds.Node = past.node ≡ None
MayStand past kinds.Pod = IsSomeAnd (version_in past) (TakesPods past.ticks)
MayStand past kinds.Tick = is_some past.node ≡ true
MayStand past kinds.Gone = is_some past.node ≡ true

-- the line is of this kind, which is allowed at its place
pub record Stands (past : TraceSoFar) (line : List ℕ) (line_kind : LineKind) (d : Data) : Type 0 where
  pub of_kind : IsOfKind past line line_kind d
  pub here : MayStand past line_kind

-- a pod line for which there is room, with this pod
pub record HasPod (past : TraceSoFar) (line : List ℕ) (d : Data) (pod : PodSpec) : Type 0 where
  pub stands : Stands past line kinds.Pod d
  pub room : length past.roll.pods < most_pods
  pub pod_is : pod_of_line (heeds past) d ≡ Ok pod

-- the pod with the number is present, and has this key
pub record IsNamed (roll : Roll) (n : ℕ) (key : List ℕ) : Type 0 where
  pub pod : PodSpec
  pub at : slice_get roll.pods n ≡ Some pod
  pub present : is_present roll.departures n ≡ true
  pub key_is : key_of_pod pod ≡ key

-- a pod that is present has this key
abbrev pub HasKey : Roll → List ℕ → Type 0
HasKey roll key = (n : ℕ) × IsNamed roll n key

-- a tick line for which there is room, at this moment
pub record HasMoment (past : TraceSoFar) (line : List ℕ) (d : Data) (at : ℕ) : Type 0 where
  pub stands : Stands past line kinds.Tick d
  pub room : length past.ticks < most_ticks
  pub moment : moment_of past.ticks (field_at (codes "at") d) ≡ Ok at

-- and with this as well
pub record HasWritten (past : TraceSoFar) (line : List ℕ) (d : Data) (at : ℕ) (written : TickLine) : Type 0 where
  pub has_moment : HasMoment past line d at
  pub written_is : tick_line_in (heeds past) d ≡ Ok written

-- whose entries are of pods that are present and of containers that are known
pub record HasPlaces (past : TraceSoFar) (line : List ℕ) (d : Data) (at : ℕ) (written : TickLine)
    (placed : List PlacedEntry) : Type 0 where
  pub has_written : HasWritten past line d at written
  pub placed_are : placed_of (heeds past) past.roll written.entries ≡ Ok placed

-- no two of them are of one pod, and none has a container or a probe twice
pub record IsApart (past : TraceSoFar) (line : List ℕ) (d : Data) (at : ℕ) (written : TickLine)
    (placed : List PlacedEntry) : Type 0 where
  pub has_places : HasPlaces past line d at written placed
  pub apart : is_doubled placed ≡ false

-- and none of them goes back in comparison with an earlier one
pub record IsForwards (past : TraceSoFar) (line : List ℕ) (d : Data) (at : ℕ) (written : TickLine)
    (placed : List PlacedEntry) : Type 0 where
  pub is_apart : IsApart past line d at written placed
  pub forwards : is_backwards past.ticks (observed (heeds past) at written placed past.roll) ≡ false

-- the first check that a line fails after what is past, with the fault of the check: the checks of every line, and then
-- those of a node line, of a pod line, of a line by which a pod leaves, or of a tick line
pub data Fails (past : TraceSoFar) (line : List ℕ) : FaultKind → Type 0 where
  too_long : longest_line < length line → Fails past line TooLong
  not_json : (kind : FaultKind) → length line ≤ longest_line → json_of line ≡ Err kind → Fails past line kind
  unknown_kind : (d : Data) → IsJson line d → kind_from (version_in past) (text_at (codes "kind") d) ≡ None
      → Fails past line UnknownKind
  misplaced : (line_kind : LineKind) (d : Data) → IsOfKind past line line_kind d → (MayStand past line_kind → ⊥)
      → Fails past line Order
  wrong_node : (d : Data) (kind : FaultKind) → Stands past line kinds.Node d → node_in past.format d ≡ Err kind
      → Fails past line kind
  many_pods : (d : Data) → Stands past line kinds.Pod d → most_pods ≤ length past.roll.pods
      → Fails past line TooMany
  wrong_pod : (d : Data) (kind : FaultKind) → Stands past line kinds.Pod d → length past.roll.pods < most_pods
      → pod_of_line (heeds past) d ≡ Err kind → Fails past line kind
  duplicate_pod : (d : Data) (pod : PodSpec) → HasPod past line d pod → HasKey past.roll (key_of_pod pod)
      → Fails past line DuplicatePod
  nobody_gone : (d : Data) → Stands past line kinds.Gone d → named_in past.roll (text_at (codes "pod") d) ≡ None
      → Fails past line StrangerPod
  many_ticks : (d : Data) → Stands past line kinds.Tick d → most_ticks ≤ length past.ticks → Fails past line TooMany
  wrong_moment : (d : Data) (kind : FaultKind) → Stands past line kinds.Tick d → length past.ticks < most_ticks
      → moment_of past.ticks (field_at (codes "at") d) ≡ Err kind → Fails past line kind
  wrong_field : (d : Data) (at : ℕ) (kind : FaultKind) → HasMoment past line d at
      → tick_line_in (heeds past) d ≡ Err kind → Fails past line kind
  stranger : (d : Data) (at : ℕ) (written : TickLine) (kind : FaultKind) → HasWritten past line d at written
      → placed_of (heeds past) past.roll written.entries ≡ Err kind → Fails past line kind
  doubled : (d : Data) (at : ℕ) (written : TickLine) (placed : List PlacedEntry)
      → HasPlaces past line d at written placed → is_doubled placed ≡ true → Fails past line Doubled
  backwards : (d : Data) (at : ℕ) (written : TickLine) (placed : List PlacedEntry)
      → IsApart past line d at written placed
      → is_backwards past.ticks (observed (heeds past) at written placed past.roll) ≡ true
      → Fails past line Backwards
  no_code : (d : Data) (at : ℕ) (written : TickLine) (placed : List PlacedEntry)
      → IsForwards past line d at written placed → some_code_missing placed ≡ true → Fails past line ExitCode

-- a line's fault is that of the first check that it fails
abbrev pub FirstCheck : Type 0
FirstCheck = (past : TraceSoFar) (line : List ℕ) (kind : FaultKind)
    → (line_at past line ≡ Err kind ↔ Fails past line kind)

-- what is known after a line that passes all its checks
pub data Says (past : TraceSoFar) (line : List ℕ) : TraceSoFar → Type 0 where
  says_node : (d : Data) (node : NodeConfig) → Stands past line kinds.Node d → node_in past.format d ≡ Ok node
      → Says past line (of_node past node)
  says_pod : (d : Data) (pod : PodSpec) → HasPod past line d pod → (HasKey past.roll (key_of_pod pod) → ⊥)
      → Says past line (with_pod past pod)
  says_gone : (d : Data) (number : ℕ) → Stands past line kinds.Gone d
      → named_in past.roll (text_at (codes "pod") d) ≡ Some number → Says past line (without past number)
  says_tick : (d : Data) (at : ℕ) (written : TickLine) (placed : List PlacedEntry)
      → IsForwards past line d at written placed → some_code_missing placed ≡ false
      → Says past line (with_tick past (observed (heeds past) at written placed past.roll))

-- a line without a fault adds its node, its pod, that a pod is gone, or its tick, to what is past
abbrev pub AllChecks : Type 0
AllChecks = (past : TraceSoFar) (line : List ℕ) (next : TraceSoFar)
    → (line_at past line ≡ Ok next ↔ Says past line next)

-- the kinds of fault that a check answers
pub record KindsOfChecks : Type 0 where
  pub json : (line : List ℕ) (kind : FaultKind) → json_of line ≡ Err kind → kind ≡ NotJson
  pub node : (format : Format) (d : Data) (kind : FaultKind) → node_in format d ≡ Err kind
      → (kind ≡ Config) ⊎ (kind ≡ SoftWithoutGrace)
  pub pod : (heeds : Bool) (d : Data) (kind : FaultKind) → pod_of_line heeds d ≡ Err kind → (fault : ManifestFault)
      × (kind ≡ Manifest fault)
  pub moment : (ticks : List TickObs) (found : Option Data) (kind : FaultKind) → moment_of ticks found ≡ Err kind
      → kind ≡ Moment
  pub tick : (heeds : Bool) (d : Data) (kind : FaultKind) → tick_line_in heeds d ≡ Err kind → kind ≡ Usage
  pub places : (heeds : Bool) (roll : Roll) (es : List TickEntry) (kind : FaultKind)
      → placed_of heeds roll es ≡ Err kind → (kind ≡ StrangerPod) ⊎ (kind ≡ StrangerContainer)

-- an entry names a pod that isn't present
pub record NamesStranger (roll : Roll) (es : List TickEntry) : Type 0 where
  pub n : ℕ
  pub entry : TickEntry
  pub here : slice_get es n ≡ Some entry
  pub unknown : number_of roll entry.key ≡ None

-- the pod has no container of this name
abbrev pub HasNo : PodSpec → List ℕ → Type 0
HasNo pod name = place_of (names_of pod.containers) name ≡ None

-- a listing or a result of the entry, or a resize if the version reads resizes, names a container that isn't the pod's
abbrev pub NamesOther : Bool → PodSpec → TickEntry → Type 0
NamesOther heeds pod entry =
    ((m : ℕ) × (listing : Listing) × (slice_get entry.listings m ≡ Some listing) × HasNo pod listing.name)
    ⊎ (((m : ℕ) × (r : ProbeResult) × (slice_get entry.results m ≡ Some r) × HasNo pod r.container)
    ⊎ ((m : ℕ) × (resize : ContainerResize) × (slice_get (resizes_by heeds entry.resized) m ≡ Some resize)
    × HasNo pod resize.container))

-- an entry of a pod that is present names a container that isn't the pod's
pub record NamesStrangerContainer (heeds : Bool) (roll : Roll) (es : List TickEntry) : Type 0 where
  pub n : ℕ
  pub entry : TickEntry
  pub number : ℕ
  pub pod : PodSpec
  pub here : slice_get es n ≡ Some entry
  pub known : number_of roll entry.key ≡ Some number
  pub pod_is : slice_get roll.pods number ≡ Some pod
  pub other : NamesOther heeds pod entry

-- every pod of the line has to be present before any of its containers is looked for; a key is of the pod that is
-- present and has it, and of none where there is no such pod
pub record Strangers : Type 0 where
  pub pod : (heeds : Bool) (roll : Roll) (es : List TickEntry)
      → (placed_of heeds roll es ≡ Err StrangerPod ↔ NamesStranger roll es)
  pub container : (heeds : Bool) (roll : Roll) (es : List TickEntry)
      → (placed_of heeds roll es ≡ Err StrangerContainer
      ↔ ((NamesStranger roll es → ⊥) × NamesStrangerContainer heeds roll es))
  pub named : (roll : Roll) (key : List ℕ) (n : ℕ) → number_of roll key ≡ Some n → IsNamed roll n key
  pub unnamed : (roll : Roll) (key : List ℕ) → (number_of roll key ≡ None ↔ (HasKey roll key → ⊥))

-- one of the results is of this probe of the container with the number, and has this outcome
abbrev pub IsGiven : List PlacedResult → ℕ → ProbeKind → Outcome → Type 0
IsGiven rs n probe outcome = (m : ℕ)
    × (slice_get rs m ≡ Some (record { container = n; probe = probe; outcome = outcome }))

-- if no probe has two results, what is shown of a probe is exactly the result that is given, wherever it is in the
-- entry
abbrev pub ResultsShown : Type 0
ResultsShown = (rs : List PlacedResult) (n : ℕ) (probe : ProbeKind) (outcome : Outcome)
    → has_twice are_of_one_probe rs ≡ false
    → (outcome_in rs n probe ≡ Some outcome ↔ IsGiven rs n probe outcome)

-- one of the listings is of the container with the number, and shows this
abbrev pub IsListed : List PlacedListing → ℕ → Seen → Type 0
IsListed ls n seen = (m : ℕ) × (instance : ListedInstance)
    × (slice_get ls m ≡ Some (record { container = n; instance = instance })) × (seen_listed instance ≡ seen)

-- one of the entries is of the pod with the number, and lists this of its container
abbrev pub Lists : List PlacedEntry → ℕ → ℕ → Seen → Type 0
Lists es pod container seen = (k : ℕ) × (entry : PlacedEntry) × (slice_get es k ≡ Some entry) × (entry.pod ≡ pod)
    × IsListed entry.listings container seen

-- if no pod and no container is listed twice, a tick shows of a container exactly what its line lists, wherever the
-- listing is
abbrev pub ListingsShown : Type 0
ListingsShown = (heeds : Bool) (at : ℕ) (written : TickLine) (es : List PlacedEntry) (roll : Roll) (n c : ℕ)
    (pod : PodSpec) (seen : Seen) → is_doubled es ≡ false
    → slice_get roll.pods n ≡ Some pod → is_present roll.departures n ≡ true → c < length pod.containers
    → (seen_of (observed heeds at written es roll) n c ≡ Some seen ↔ Lists es n c seen)

-- one of the entries is of the pod with the number, and has this sample
abbrev pub Tells : List PlacedEntry → ℕ → Sampling → Type 0
Tells es pod sampling = (k : ℕ) × (entry : PlacedEntry) × (slice_get es k ≡ Some entry) × (entry.pod ≡ pod)
    × (entry.said.sampling ≡ sampling)

-- what the tick shows of the samples of the pod with the number
abbrev pub sampling_shown_of : TickObs → ℕ → Option Sampling
sampling_shown_of tick n = option_map (λ (p : PodObs). p.sampling) (shown_of tick n)

-- if no pod is listed twice, a tick shows of a pod's use exactly the usage of the pod's entry, wherever the entry is
abbrev pub UsageShown : Type 0
UsageShown = (heeds : Bool) (at : ℕ) (written : TickLine) (es : List PlacedEntry) (roll : Roll) (n : ℕ)
    (pod : PodSpec) (usage : PodUsage) → has_twice are_of_one_pod es ≡ false
    → slice_get roll.pods n ≡ Some pod → is_present roll.departures n ≡ true
    → (sampling_shown_of (observed heeds at written es roll) n ≡ Some (Sampled usage) ↔ Tells es n (Sampled usage))

-- one of the entries is of the pod with this number and marks it as unsampled, and has no sample
pub record SaysUnsampled (roll : Roll) (es : List TickEntry) (n : ℕ) : Type 0 where
  pub k : ℕ
  pub entry : TickEntry
  pub here : slice_get es k ≡ Some entry
  pub known : number_of roll entry.key ≡ Some n
  pub says : entry.unsampled ≡ Yes
  pub alone : entry.usage ≡ None

-- if no pod is listed twice, a tick shows that a pod has no sample exactly if the text is of version 3 and the pod's
-- entry marks it so
abbrev pub UnsampledShown : Type 0
UnsampledShown = (version : Option Version) (at : ℕ) (written : TickLine) (es : List PlacedEntry) (roll : Roll) (n : ℕ)
    (pod : PodSpec) → placed_of (heeds_words version) roll written.entries ≡ Ok es
    → has_twice are_of_one_pod es ≡ false
    → slice_get roll.pods n ≡ Some pod → is_present roll.departures n ≡ true
    → (sampling_shown_of (observed (heeds_words version) at written es roll) n ≡ Some Unsampled
    ↔ ((version ≡ Some Three) × SaysUnsampled roll written.entries n))

-- what the tick shows of whether the pod with the number is being deleted
abbrev pub deleting_shown_of : TickObs → ℕ → Option Bool
deleting_shown_of tick n = option_map (λ (p : PodObs). p.words.deleting) (shown_of tick n)

-- one of the entries is of the pod with this number and marks it as being deleted
pub record SaysDeleting (roll : Roll) (es : List TickEntry) (n : ℕ) : Type 0 where
  pub k : ℕ
  pub entry : TickEntry
  pub here : slice_get es k ≡ Some entry
  pub known : number_of roll entry.key ≡ Some n
  pub says : entry.deleting ≡ Yes

-- if no pod is listed twice, a tick shows that a pod is being deleted exactly if the text is of version 3 and the pod's
-- entry marks it so
abbrev pub DeletingShown : Type 0
DeletingShown = (version : Option Version) (at : ℕ) (written : TickLine) (es : List PlacedEntry) (roll : Roll) (n : ℕ)
    (pod : PodSpec) → placed_of (heeds_words version) roll written.entries ≡ Ok es
    → has_twice are_of_one_pod es ≡ false
    → slice_get roll.pods n ≡ Some pod → is_present roll.departures n ≡ true
    → (deleting_shown_of (observed (heeds_words version) at written es roll) n ≡ Some true
    ↔ ((version ≡ Some Three) × SaysDeleting roll written.entries n))

-- why the tick shows that the node has ended the pod with the number, if it does
abbrev pub failed_shown_of : TickObs → ℕ → Option (Option (List ℕ))
failed_shown_of tick n = option_map (λ (p : PodObs). p.words.failed) (shown_of tick n)

-- one of the entries is of the pod with this number and reports that the node has ended it, for this reason
pub record SaysFailed (roll : Roll) (es : List TickEntry) (n : ℕ) (reason : List ℕ) : Type 0 where
  pub k : ℕ
  pub entry : TickEntry
  pub here : slice_get es k ≡ Some entry
  pub known : number_of roll entry.key ≡ Some n
  pub says : entry.failed ≡ reasons.Reason reason

-- if no pod is listed twice, a tick shows that the node has ended a pod for a reason exactly if the text is of version
-- 3 and the pod's entry reports it
abbrev pub FailedShown : Type 0
FailedShown = (version : Option Version) (at : ℕ) (written : TickLine) (es : List PlacedEntry) (roll : Roll) (n : ℕ)
    (pod : PodSpec) (reason : List ℕ) → placed_of (heeds_words version) roll written.entries ≡ Ok es
    → has_twice are_of_one_pod es ≡ false
    → slice_get roll.pods n ≡ Some pod → is_present roll.departures n ≡ true
    → (failed_shown_of (observed (heeds_words version) at written es roll) n ≡ Some (Some reason)
    ↔ ((version ≡ Some Three) × SaysFailed roll written.entries n reason))

-- a tick is no sync tick exactly if the text is of version 3 and the line marks it so
abbrev pub JudgedShown : Type 0
JudgedShown = (version : Option Version) (at : ℕ) (written : TickLine) (es : List PlacedEntry) (roll : Roll)
    → ((observed (heeds_words version) at written es roll).judged ≡ false
    ↔ ((version ≡ Some Three) × (written.unjudged ≡ Yes)))

-- the node exempts a pod from eviction exactly if the text is of version 3 and the pod's line marks it so
abbrev pub SparedSaid : Type 0
SparedSaid = (version : Option Version) (d : Data) (pod : PodSpec)
    → pod_of_line (heeds_words version) d ≡ Ok pod
    → (pod.spared ≡ true ↔ ((version ≡ Some Three) × (field_at (codes "spared") d ≡ Some (boolean true))))

-- what a tick shows of a signal is exactly the quantity that its line has under the signal's name
pub record SignalsShown : Type 0 where
  pub signals : (heeds : Bool) (d : Data) (at : ℕ) (written : TickLine) (placed : List PlacedEntry) (roll : Roll)
      (signal : Signal) → tick_line_in heeds d ≡ Ok written
      → IsSample (field_at (codes "signals") d) (name_of signal)
      (of (observed heeds at written placed roll).signals signal)
  pub after_reclaim : (heeds : Bool) (d : Data) (at : ℕ) (written : TickLine) (placed : List PlacedEntry) (roll : Roll)
      (signal : Signal) → tick_line_in heeds d ≡ Ok written
      → IsSample (field_at (codes "afterReclaim") d) (name_of signal)
      (of (observed heeds at written placed roll).after_reclaim signal)

-- of some container of some pod, both by number, the tick has a listing that may not come after all those of the
-- earlier ticks
pub record GoesBack (ticks : List TickObs) (tick : TickObs) : Type 0 where
  pub pod : ℕ
  pub container : ℕ
  pub seen : Seen
  pub listed : seen_of tick pod container ≡ Some seen
  pub behind : IsAcceptable (history ticks pod container) (Some seen) → ⊥

-- a tick is rejected as Backwards exactly if some container's listing goes back
abbrev pub BackwardsListing : Type 0
BackwardsListing = (ticks : List TickObs) (tick : TickObs) → (is_backwards ticks tick ≡ true ↔ GoesBack ticks tick)

-- a text that is a trace in the standard format is the same trace in the extended one
abbrev pub StandardIsExtended : Type 0
StandardIsExtended =
    (text : List ℕ) (trace : Trace) → trace_of Standard text ≡ Ok trace → trace_of Extended text ≡ Ok trace

-- not because memory ran out
abbrev pub IsNotMemory : FaultKind → Type 0
IsNotMemory kind = (kind ≢ OutOfMemory) × (kind ≢ Manifest manifest_faults.OutOfMemory)

-- no line and no text has a fault because an allocation failed
pub record NeverMemory : Type 0 where
  pub line : (past : TraceSoFar) (line : List ℕ) (kind : FaultKind) → line_at past line ≡ Err kind → IsNotMemory kind
  pub text : (format : Format) (text : List ℕ) (fault : LineFault) → trace_of format text ≡ Err fault
      → IsNotMemory fault.kind
