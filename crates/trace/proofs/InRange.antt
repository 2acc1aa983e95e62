-- The numbers of the probes of a trace's pods are in their ranges.
use Rattle.std.proofs.Common.{◌≡◌, ℕ, ℤ, ◌<◌, ◌≤◌, List, [], ◌∷◌, ◌++◌, All, Bool, true, false, Option, Some}
use Rattle.std.proofs.Common.{None, Result, Ok, Err, subst, arith, refl, ap}
use Rattle.std.specs.Prelude.{◌^◌, ◌&&◌, nat_le, codes, if◌then◌else◌, option_and_then}
use Rattle.std.proofs.lemmas.Bool.{and_parts, leb-true}
use Rattle.std.proofs.lemmas.List.Elements.{All-nil, All-cons, All-push, All-append}
use Rattle.serde_json.specs.Data.{Data}
use Rattle.serde_json.specs.Find.{as_number, as_i64, as_u64}
use Rattle.json_fields.specs.rule.Fields.{field_at}
use Rattle.json_fields.specs.rule.Reading.{each, refused_if}
use Rattle.json_fields.proofs.Steps.{bind_ok}
use Rattle.json_fields.proofs.Only.{same_value}
use Rattle.manifest_fields.specs.declared.fault.Field.TheVariants as fields
use Rattle.manifest_fields.specs.declared.fault.ManifestFault.{ManifestFault}
use Rattle.manifest_fields.specs.declared.fault.ManifestFault.TheVariants.{ProbeRange, InitProbe, WrongKind}
use Rattle.manifest.specs.declared.pod.ContainerSpec.{ContainerSpec}
use Rattle.manifest.specs.declared.pod.PodSpec.{PodSpec}
use Rattle.manifest.specs.declared.pod.Role.{Role}
use Rattle.manifest.specs.declared.pod.Role.TheVariants.{Init, Sidecar, App}
use Rattle.manifest_fields.specs.rule.Fields.{object_of, array_or_none, required_text, absent}
use Rattle.manifest_reader.specs.rule.Manifest.{field_of, role_by, restarts_by, container_of, few, apart}
use Rattle.manifest_reader.specs.rule.Manifest.{containers_of, app_items_of}
use Rattle.manifest_reader.specs.rule.Manifest.{containers_in, metadata_of, settings_in, spec_of, pod_in}
use Rattle.manifest.specs.rule.Names.{is_label}
use Rattle.manifest.specs.rule.Probe.{Probe, Probes}
use Rattle.manifest.specs.state.Probe.{IsInRange, HasNumbersInRange}
use Rattle.json_fields.specs.rule.Numbers.{max_int32}
use Rattle.manifest_fields.specs.rule.ProbeFields.{not_from_0, in_range, number_from, number_of, probe_in, probe_of}
use Rattle.manifest_fields.specs.rule.ProbeFields.{some_probes, unprobed, probes_of}
use Rattle.manifest_fields.specs.rule.ResourceFields.{resources_of}
use Rattle.node_config.specs.declared.node.Format.{Format}
use Rattle.tick_lines.specs.declared.truth.TruthMember.{TruthMember}
use Rattle.tick_lines.specs.rule.Truths.{truth_of}
use Rattle.line_faults.specs.declared.fault.FaultKind.{FaultKind}
use Rattle.line_faults.specs.declared.fault.FaultKind.TheVariants.{Manifest}
use Rattle.trace.specs.declared.trace_so_far.Trace.{Trace}
use Rattle.trace.specs.state.Laws.{Says, says_node, says_pod, says_gone, says_tick}
use Rattle.trace.specs.rule.TraceSoFar.{TraceSoFar, heeds}
use Rattle.trace.specs.rule.Placing.{says_so}
use Rattle.trace.specs.rule.Written.{is_of_other_kind}
use Rattle.trace.specs.rule.Pod.{of_manifest, manifest_of, manifest_read, pod_from, spared_by}
use Rattle.extended_manifest.proofs.NeverMemory.{extended_of}
use Rattle.trace.specs.rule.Trace.{trace_of}
use Rattle.trace.proofs.Said.{IsKept, of_trace}

-- the numbers of each probe are in their ranges: of these, of a container, and of all containers of pods
abbrev pub AreInRange : Probes → Type 0
AreInRange p = HasNumbersInRange p.startup × HasNumbersInRange p.liveness × HasNumbersInRange p.readiness

abbrev pub HasProbesInRange : ContainerSpec → Type 0
HasProbesInRange container = AreInRange container.probes

abbrev pub HaveProbesInRange : List PodSpec → Type 0
HaveProbesInRange pods = All (λ (pod : PodSpec). All HasProbesInRange pod.containers) pods

-- one number
abbrev IsWithin : ℕ → ℕ → ℕ → Type 0
IsWithin least most value = (least ≤ value) × (value ≤ most)

in_range_given : (least most n value : ℕ) → in_range least most n ≡ Ok value → IsWithin least most value
in_range_given least most n value e = by (nat_le least n && nat_le n most) refl e
  where
    by : (b : Bool) → (nat_le least n && nat_le n most) ≡ b → (if b then Ok n else Err ProbeRange) ≡ Ok value
        → IsWithin least most value
    by true holds e =
        let both = and_parts (nat_le least n) (nat_le n most) holds in
        subst (IsWithin least most) (same_value _ _ e) (leb-true least n both.0, leb-true n most both.1)
    by false fails e = absurd (cc)

not_given : (o : Option ℤ) (value : ℕ) → not_from_0 o ≡ Ok value → ⊥
not_given None value e = cc
not_given (Some z) value e = cc

number_given : (least most default : ℕ) → IsWithin least most default → (found : Option Data) (value : ℕ)
    → number_of least most default found ≡ Ok value → IsWithin least most value
number_given least most default within None value e = subst (IsWithin least most) (same_value _ _ e) within
number_given least most default within (Some d) value e = by (option_and_then as_u64 (as_number d)) e
  where
    by : (o : Option ℕ) → number_from least most d o ≡ Ok value → IsWithin least most value
    by None e = absurd (not_given (option_and_then as_i64 (as_number d)) value e)
    by (Some n) e = in_range_given least most n value e

below : (value most : ℕ) → value ≤ most → most ≤ max_int32 → value < 2 ^ 31
below value most le low = omega arith

-- one probe
probe_given : (most : ℕ) → IsWithin 1 max_int32 most → (d : Data) (p : Probe) → probe_in most d ≡ Ok p → IsInRange p
unfolding probe_in
probe_given most within d p e =
    let object = bind_ok (object_of fields.Probe (Some d)) _ p e in
    let at : List ℕ → Option Data = λ name. field_at name object.0 in
    let delay = bind_ok (number_of 0 max_int32 0 (at (codes "initialDelaySeconds"))) _ p object.2 in
    let period = bind_ok (number_of 1 max_int32 10 (at (codes "periodSeconds"))) _ p delay.2 in
    let timeout = bind_ok (number_of 1 max_int32 1 (at (codes "timeoutSeconds"))) _ p period.2 in
    let successes = bind_ok (number_of 1 most 1 (at (codes "successThreshold"))) _ p timeout.2 in
    let failures = bind_ok (number_of 1 max_int32 3 (at (codes "failureThreshold"))) _ p successes.2 in
    let is_delay = number_given 0 max_int32 0 (omega arith, omega arith)
    (at (codes "initialDelaySeconds")) delay.0 delay.1 in
    let is_period = number_given 1 max_int32 10 (omega arith, omega arith)
    (at (codes "periodSeconds")) period.0 period.1 in
    let is_timeout = number_given 1 max_int32 1 (omega arith, omega arith)
    (at (codes "timeoutSeconds")) timeout.0 timeout.1 in
    let are_successes = number_given 1 most 1 (omega arith, within.0)
    (at (codes "successThreshold")) successes.0 successes.1 in
    let are_failures = number_given 1 max_int32 3 (omega arith, omega arith)
    (at (codes "failureThreshold")) failures.0 failures.1 in
    let all : (n : ℕ) → n ≤ max_int32 → n < 2 ^ 31 = λ n le. below n max_int32 le (omega arith) in
    subst IsInRange (same_value _ _ failures.2) (record {
      initial_delay = all delay.0 is_delay.1;
      some_period = is_period.0;
      period = all period.0 is_period.1;
      some_timeout = is_timeout.0;
      timeout = all timeout.0 is_timeout.1;
      some_successes = are_successes.0;
      successes = below successes.0 most are_successes.1 within.1;
      some_failures = are_failures.0;
      failures = all failures.0 are_failures.1;
    })

optional_given : (most : ℕ) → IsWithin 1 max_int32 most → (found : Option Data) (o : Option Probe)
    → probe_of most found ≡ Ok o → HasNumbersInRange o
optional_given most within None o e = subst HasNumbersInRange (same_value _ _ e) tt
optional_given most within (Some d) o e =
    let p = bind_ok (probe_in most d) _ o e in
    subst HasNumbersInRange (same_value _ _ p.2) (probe_given most within d p.0 p.1)

-- the probes of a container
some_probes_given : (d : Data) (probes : Probes) → some_probes d ≡ Ok probes → AreInRange probes
unfolding some_probes
some_probes_given d probes e =
    let startup = bind_ok (probe_of 1 (field_at (codes "startupProbe") d)) _ probes e in
    let liveness = bind_ok (probe_of 1 (field_at (codes "livenessProbe") d)) _ probes startup.2 in
    let readiness = bind_ok (probe_of max_int32 (field_at (codes "readinessProbe") d)) _ probes liveness.2 in
    subst AreInRange (same_value _ _ readiness.2) (
      optional_given 1 (omega arith, omega arith) (field_at (codes "startupProbe") d) startup.0 startup.1,
      optional_given 1 (omega arith, omega arith) (field_at (codes "livenessProbe") d) liveness.0 liveness.1,
      optional_given max_int32 (omega arith, omega arith) (field_at (codes "readinessProbe") d) readiness.0 readiness.1,
    )

unprobed_given : (d : Data) (probes : Probes) → unprobed d ≡ Ok probes → AreInRange probes
unfolding unprobed
unprobed_given d probes e =
    let startup = bind_ok (absent InitProbe (field_at (codes "startupProbe") d)) _ probes e in
    let liveness = bind_ok (absent InitProbe (field_at (codes "livenessProbe") d)) _ probes startup.2 in
    let readiness = bind_ok (absent InitProbe (field_at (codes "readinessProbe") d)) _ probes liveness.2 in
    subst AreInRange (same_value _ _ readiness.2) (tt, tt, tt)

probes_given : (role : Role) (d : Data) (probes : Probes) → probes_of role d ≡ Ok probes → AreInRange probes
probes_given Init d probes e = unprobed_given d probes e
probes_given Sidecar d probes e = some_probes_given d probes e
probes_given App d probes e = some_probes_given d probes e

-- a container, in whichever of the two arrays it is written
container_given : (own : Bool) (place : _) (d : Data) (c : ContainerSpec) → container_of own place d ≡ Ok c
    → HasProbesInRange c
unfolding container_of
container_given own place d c e =
    let object = bind_ok (object_of (field_of place) (Some d)) _ c e in
    let name = bind_ok (required_text is_label fields.ContainerName (field_at (codes "name") object.0)) _ c object.2 in
    let role = bind_ok (role_by own place (field_at (codes "restartPolicy") object.0)) _ c name.2 in
    let restarts = bind_ok (restarts_by own role.0 object.0) _ c role.2 in
    let resources = bind_ok (resources_of (field_at (codes "resources") object.0)) _ c restarts.2 in
    let probes = bind_ok (probes_of role.0 object.0) _ c resources.2 in
    subst HasProbesInRange (same_value _ _ probes.2) (probes_given role.0 object.0 probes.0 probes.1)

-- the containers of a pod
each_given : (own : Bool) (place : _) (ds : List Data) (cs : List ContainerSpec)
    → each (container_of own place) ds ≡ Ok cs
    → All HasProbesInRange cs
each_given own place [] cs e = subst (All HasProbesInRange) (same_value _ _ e) (All-nil HasProbesInRange)
each_given own place (d ∷ ds) cs e =
    let one = bind_ok (container_of own place d) _ cs e in
    let rest = bind_ok (each (container_of own place) ds) _ cs one.2 in
    subst (All HasProbesInRange) (same_value _ _ rest.2)
    (All-cons HasProbesInRange one.0 rest.0 (container_given own place d one.0 one.1)
    (each_given own place ds rest.0 rest.1))

containers_given : (own : Bool) (init_items items : List Data) (cs : List ContainerSpec)
    → containers_of own init_items items ≡ Ok cs → All HasProbesInRange cs
unfolding containers_of
containers_given own init_items items cs e =
    let within = bind_ok (few init_items items) _ cs e in
    let init = bind_ok (each (container_of own _) init_items) _ cs within.2 in
    let apps = bind_ok (each (container_of own _) items) _ cs init.2 in
    let names = bind_ok (apart (init.0 ++ apps.0)) _ cs apps.2 in
    subst (All HasProbesInRange) (same_value _ _ names.2)
    (All-append HasProbesInRange init.0 apps.0 (each_given own _ init_items init.0 init.1)
    (each_given own _ items apps.0 apps.1))

containers_in_given : (own : Bool) (d : Data) (cs : List ContainerSpec) → containers_in own d ≡ Ok cs
    → All HasProbesInRange cs
unfolding containers_in
containers_in_given own d cs e =
    let init_items =
    bind_ok (array_or_none fields.InitContainers (field_at (codes "initContainers") d)) _ cs e in
    let items = bind_ok (app_items_of (field_at (codes "containers") d)) _ cs init_items.2 in
    containers_given own init_items.0 items.0 cs items.2

spec_given : (own : Bool) (found : Option Data) (spec : _) → spec_of own found ≡ Ok spec
    → All HasProbesInRange spec.containers
unfolding spec_of
spec_given own found spec e =
    let object = bind_ok (object_of fields.Spec found) _ spec e in
    let settings = bind_ok (settings_in object.0) _ spec object.2 in
    let containers = bind_ok (containers_in own object.0) _ spec settings.2 in
    let same = same_value _ _ containers.2 in
    let are : containers.0 ≡ spec.containers = λ i. (same i).containers in
    subst (All HasProbesInRange) are (containers_in_given own object.0 containers.0 containers.1)

pod_given : (own : Bool) (d : Data) (pod : PodSpec) → pod_in own d ≡ Ok pod → All HasProbesInRange pod.containers
unfolding pod_in
pod_given own d pod e =
    let object = bind_ok (object_of fields.Pod (Some d)) _ pod e in
    let metadata = bind_ok (metadata_of (field_at (codes "metadata") object.0)) _ pod object.2 in
    let spec = bind_ok (spec_of own (field_at (codes "spec") object.0)) _ pod metadata.2 in
    subst (λ (p : PodSpec). All HasProbesInRange p.containers) (same_value _ _ spec.2)
    (spec_given own (field_at (codes "spec") object.0) spec.0 spec.1)

-- what the extended format reads besides says nothing of its containers
given_by : (heeds : Bool) (d : Data) (pod : PodSpec) → manifest_read heeds d ≡ Ok pod
    → All HasProbesInRange pod.containers
given_by true d pod e =
    let standard = extended_of d pod e in
    subst (λ (cs : List ContainerSpec). All HasProbesInRange cs) standard.2 (pod_given true d standard.0 standard.1)
given_by false d pod e = pod_given false d pod e

-- the pods of a trace
read : (r : Result PodSpec ManifestFault) (pod : PodSpec) → of_manifest r ≡ Ok pod → r ≡ Ok pod
read (Ok p) pod e = ap Ok (same_value _ _ e)
read (Err fault) pod e = absurd (cc)

-- whether the node spares a pod says nothing of its containers
spared_alone : (heeds : Bool) (spared : TruthMember) (pod next : PodSpec) → spared_by heeds spared pod ≡ Ok next
    → pod.containers ≡ next.containers
spared_alone heeds spared pod next e =
    let known = bind_ok (refused_if (heeds && is_of_other_kind spared) (Manifest (WrongKind fields.Spared)))
    (λ known. Ok (record pod { spared = heeds && says_so spared })) next e in
    ap (λ (p : PodSpec). p.containers)
    (same_value {E = FaultKind} (record pod { spared = heeds && says_so spared }) next known.2)

line_keeps : (past : TraceSoFar) (line : List ℕ) (next : TraceSoFar) → HaveProbesInRange past.roll.pods
    → Says past line next
    → HaveProbesInRange next.roll.pods
line_keeps past line _ all (says_node d node is e) = all
line_keeps past line _ all (says_pod d pod is new) =
    let found = field_at (codes "pod") d in
    let spared = truth_of (field_at (codes "spared") d) in
    let whole = bind_ok (pod_from (heeds past) found) (spared_by (heeds past) spared) pod is.pod_is in
    let given = bind_ok (manifest_of found) (λ m. of_manifest (manifest_read (heeds past) m)) whole.0 whole.1 in
    let same = spared_alone (heeds past) spared whole.0 pod whole.2 in
    All-push (λ (p : PodSpec). All HasProbesInRange p.containers) past.roll.pods pod all
    (subst (λ (cs : List ContainerSpec). All HasProbesInRange cs) same
    (given_by (heeds past) given.0 whole.0 (read (manifest_read (heeds past) given.0) whole.0 given.2)))
line_keeps past line _ all (says_gone d number is named) = all
line_keeps past line _ all (says_tick d at written placed is coded) = all

kept : IsKept (λ past. HaveProbesInRange past.roll.pods)
kept = record { first = λ format. All-nil (λ (p : PodSpec). All HasProbesInRange p.containers); line = line_keeps }

pub probes_in_range : (format : Format) (text : List ℕ) (trace : Trace) → trace_of format text ≡ Ok trace
    → HaveProbesInRange trace.pods
probes_in_range format text trace e = (of_trace (λ past. HaveProbesInRange past.roll.pods) kept format text trace e).1
