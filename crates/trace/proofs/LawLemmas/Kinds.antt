-- The kinds of fault that the checks of a line answer.
use Rattle.std.proofs.Common.{◌≡◌, ◌⊎◌, ℕ, List, length, slice_get, Option, Some, None, Result, Ok, Err}
use Rattle.std.proofs.Common.{refl, ap, sym, subst, inl, inr, Bool, true, false}
use Rattle.std.specs.Prelude.{◌&&◌, ◌-◌, option_and_then, nat_lt, codes}
use Rattle.quantity.specs.rule.Duration.{end_of_time}
use Rattle.serde_json.specs.Data.{Data}
use Rattle.serde_json.specs.Find.{as_number, as_u64}
use Rattle.json_fields.specs.rule.Fields.{field_at}
use Rattle.json_fields.specs.rule.Reading.{refused_if}
use Rattle.manifest.specs.declared.pod.PodSpec.{PodSpec}
use Rattle.line_faults.specs.declared.fault.FaultKind.{FaultKind}
use Rattle.line_faults.specs.declared.fault.FaultKind.TheVariants.{NotJson, Config, SoftWithoutGrace, Manifest, Moment}
use Rattle.line_faults.specs.declared.fault.FaultKind.TheVariants.{Usage, StrangerPod, StrangerContainer, Order}
use Rattle.line_faults.specs.declared.fault.LineFault.{LineFault}
use Rattle.observations.specs.declared.tick.TickObs.{TickObs}
use Rattle.tick_lines.specs.declared.entry.TickEntry.{TickEntry}
use Rattle.tick_lines.specs.declared.probing.ProbeResult.{ProbeResult}
use Rattle.tick_lines.specs.declared.resizes.ContainerResize.{ContainerResize}
use Rattle.json_lines.specs.rule.Lines.{lines_of, json_in}
use Rattle.manifest_fields.specs.declared.fault.ManifestFault.{ManifestFault}
use Rattle.manifest_fields.specs.declared.fault.ManifestFault.TheVariants.{Missing, WrongKind}
use Rattle.manifest_fields.specs.declared.fault.ManifestFault.TheVariants as faults
use Rattle.manifest_fields.specs.declared.fault.Field.TheVariants as fields
use Rattle.manifest.specs.rule.Containers.{names_of}
use Rattle.lists.specs.rule.Names.{place_of}
use Rattle.tick_lines.specs.declared.listing.Listing.{Listing}
use Rattle.roster.specs.rule.Roll.{Roll, number_of}
use Rattle.trace.specs.rule.Pod.{of_manifest, manifest_read, pod_from, spared_by, pod_of_line}
use Rattle.tick_lines.specs.declared.truth.TruthMember.{TruthMember}
use Rattle.tick_lines.specs.rule.Truths.{truth_of}
use Rattle.trace.specs.rule.Placing.{says_so, number_in, container_number, placed_listing, placed_result, entry_of_pod}
use Rattle.trace.specs.rule.Placing.{placed_resize, resizes_by, placed_entry, placed_of}
use Rattle.trace.specs.rule.TraceSoFar.{TraceSoFar, heeds}
use Rattle.trace.specs.rule.Tick.{is_later, moment_from}
use Rattle.trace.specs.rule.Trace.{json_of}
use Rattle.trace.specs.state.Laws.{IsFirstFault, Fails, too_long, not_json, unknown_kind, misplaced, wrong_node}
use Rattle.trace.specs.state.Laws.{many_pods}
use Rattle.trace.specs.state.Laws.{wrong_pod, duplicate_pod, nobody_gone, many_ticks, wrong_moment, wrong_field}
use Rattle.trace.specs.state.Laws.{stranger, doubled, backwards, no_code, KindsOfChecks, IsNotMemory, NeverMemory}
use Rattle.trace.proofs.LawLemmas.{first_fault}
use Rattle.trace.proofs.LawLemmas.Checks.{line_fails}
use Rattle.json_fields.proofs.Only.{Only, only_ok, only_err, only_bind, only_if, only_refused, only_some, only_each}
use Rattle.node_config.specs.declared.node.Format.{Format}
use Rattle.node_lines.specs.declared.fault.NodeFault.{NodeFault}
use Rattle.node_lines.specs.rule.Node.{node_of}
use Rattle.node_lines.proofs.FaultLemmas.{IsNodeFault, node_only}
use Rattle.tick_lines.specs.declared.fault.TickLineFault.{TickLineFault}
use Rattle.tick_lines.specs.declared.line.TickLine.{TickLine}
use Rattle.tick_lines.specs.rule.Line.{tick_line_of}
use Rattle.tick_lines.proofs.OnlyUsage.{IsUsageFault, one_kind}
use Rattle.line_faults.specs.rule.Faults.{kind_of_node_fault, kind_of_tick_fault}
use Rattle.trace.specs.rule.Written.{is_foreign, of_node_line, of_tick_line, node_in, is_of_other_kind}
use Rattle.trace.specs.rule.Written.{line_has_other_kind, heeded}
use Rattle.trace.specs.rule.Written.{tick_line_in}
use Rattle.manifest_reader.proofs.NeverMemory.{IsFound, missing, wrong}
use Rattle.trace.proofs.Manifests.{read_only}

abbrev Is : FaultKind → FaultKind → Type 0
Is given kind = kind ≡ given

abbrev IsOfNode : FaultKind → Type 0
IsOfNode kind = (kind ≡ Config) ⊎ (kind ≡ SoftWithoutGrace)

node_kind : (fault : NodeFault) → IsNodeFault fault → IsOfNode (kind_of_node_fault fault)
node_kind fault (inl config) = inl (ap kind_of_node_fault config)
node_kind fault (inr soft) = inr (ap kind_of_node_fault soft)

of_node_only : {A : Type 0} (r : Result A NodeFault) → Only IsNodeFault r → Only IsOfNode (of_node_line r)
of_node_only (Ok x) only = only_ok IsOfNode x
of_node_only (Err fault) only = only_err IsOfNode (kind_of_node_fault fault) (node_kind fault (only.has fault refl))

known_only : (foreign : Bool) → Only IsOfNode (refused_if foreign Config)
known_only true = only_err IsOfNode Config (inl refl)
known_only false = only_ok IsOfNode tt

node_in_only : (format : Format) (d : Data) → Only IsOfNode (node_in format d)
node_in_only format d =
    only_bind IsOfNode _ _ (known_only (is_foreign format d)) (λ known. of_node_only (node_of d) (node_only d))

json_only : (line : List ℕ) → Only (Is NotJson) (json_of line)
unfolding json_of
json_only line = only_some (Is NotJson) NotJson (json_in line) refl

abbrev IsManifest : FaultKind → Type 0
IsManifest kind = (fault : ManifestFault) × (kind ≡ Manifest fault) × IsFound fault

manifest_only : {A : Type 0} (r : Result A ManifestFault) → Only IsFound r → Only IsManifest (of_manifest r)
manifest_only (Ok x) only = only_ok IsManifest x
manifest_only (Err fault) only = only_err IsManifest (Manifest fault) (fault, refl, only.has fault refl)

pod_only : (heeds : Bool) (found : Option Data) → Only IsManifest (pod_from heeds found)
pod_only heeds None = only_err IsManifest (Manifest (Missing fields.Pod)) (Missing fields.Pod, refl, missing fields.Pod)
pod_only heeds (Some d) = manifest_only (manifest_read heeds d) (read_only heeds d)

spared_only : (heeds : Bool) (spared : TruthMember) (pod : PodSpec) → Only IsManifest (spared_by heeds spared pod)
spared_only heeds spared pod =
    only_bind IsManifest _ _
    (only_refused IsManifest (heeds && is_of_other_kind spared) (Manifest (WrongKind fields.Spared))
    (WrongKind fields.Spared, refl, wrong fields.Spared))
    (λ known. only_ok IsManifest (record pod { spared = heeds && says_so spared }))

pod_line_only : (heeds : Bool) (d : Data) → Only IsManifest (pod_of_line heeds d)
pod_line_only heeds d =
    only_bind IsManifest _ _ (pod_only heeds (field_at (codes "pod") d))
    (spared_only heeds (truth_of (field_at (codes "spared") d)))

moment_only : (ticks : List TickObs) (found : Option ℕ) → Only (Is Moment) (moment_from ticks found)
moment_only ticks None = only_err (Is Moment) Moment refl
moment_only ticks (Some at) =
    only_if (Is Moment) (nat_lt at end_of_time && is_later (slice_get ticks (length ticks - 1)) at) (Ok at) (Err Moment)
    (only_ok (Is Moment) at) (only_err (Is Moment) Moment refl)

of_tick_only : {A : Type 0} (r : Result A TickLineFault) → Only IsUsageFault r → Only (Is Usage) (of_tick_line r)
of_tick_only (Ok x) only = only_ok (Is Usage) x
of_tick_only (Err fault) only =
    only_err (Is Usage) (kind_of_tick_fault fault) (ap kind_of_tick_fault (only.has fault refl))

heeded_only : (heeds : Bool) (written : TickLine) → Only (Is Usage) (heeded heeds written)
heeded_only heeds written =
    only_bind (Is Usage) _ _ (only_refused (Is Usage) (heeds && line_has_other_kind written) Usage refl)
    (λ known. only_ok (Is Usage) written)

tick_only : (heeds : Bool) (d : Data) → Only (Is Usage) (tick_line_in heeds d)
tick_only heeds d =
    only_bind (Is Usage) _ _ (of_tick_only (tick_line_of d) (record { has = one_kind d })) (heeded_only heeds)

abbrev IsStranger : FaultKind → Type 0
IsStranger kind = (kind ≡ StrangerPod) ⊎ (kind ≡ StrangerContainer)

number_only : (roll : Roll) (entry : TickEntry) → Only IsStranger (number_in roll entry)
number_only roll entry = only_some IsStranger StrangerPod (number_of roll entry.key) (inl refl)

container_number_only : (pod : PodSpec) (name : List ℕ) → Only IsStranger (container_number pod name)
container_number_only pod name =
    only_some IsStranger StrangerContainer (place_of (names_of pod.containers) name) (inr refl)

placed_listing_only : (pod : PodSpec) (listing : Listing) → Only IsStranger (placed_listing pod listing)
placed_listing_only pod listing =
    only_bind IsStranger _ _ (container_number_only pod listing.name) (λ number. only_ok IsStranger _)

placed_result_only : (pod : PodSpec) (r : ProbeResult) → Only IsStranger (placed_result pod r)
placed_result_only pod r = only_bind IsStranger _ _ (container_number_only pod r.container)
    (λ number. only_ok IsStranger _)

placed_resize_only : (pod : PodSpec) (resize : ContainerResize) → Only IsStranger (placed_resize pod resize)
placed_resize_only pod resize = only_bind IsStranger _ _ (container_number_only pod resize.container)
    (λ number. only_ok IsStranger _)

placed_entry_only : (heeds : Bool) (roll : Roll) (entry : TickEntry) → Only IsStranger (placed_entry heeds roll entry)
unfolding placed_entry entry_of_pod
placed_entry_only heeds roll entry =
    let P = IsStranger in
    only_bind P _ _ (number_only roll entry) (λ number.
    only_bind P _ _ (only_some P StrangerPod (slice_get roll.pods number) (inl refl)) (λ pod.
    only_bind P _ _ (only_each P (placed_listing pod) (placed_listing_only pod) entry.listings) (λ listings.
    only_bind P _ _ (only_each P (placed_result pod) (placed_result_only pod) entry.results) (λ results.
    only_bind P _ _ (only_each P (placed_resize pod) (placed_resize_only pod) (resizes_by heeds entry.resized))
    (λ resized. only_ok P _)))))

placed_only : (heeds : Bool) (roll : Roll) (es : List TickEntry) → Only IsStranger (placed_of heeds roll es)
unfolding placed_of
placed_only heeds roll es =
    let P = IsStranger in
    only_bind P _ _ (only_each P (number_in roll) (number_only roll) es) (λ numbers.
    only_each P (placed_entry heeds roll) (placed_entry_only heeds roll) es)

pub kinds_of_checks : KindsOfChecks
kinds_of_checks = record {
  json = λ line kind e. (json_only line).has kind e;
  node = λ format d kind e. (node_in_only format d).has kind e;
  pod = λ heeds d kind e. let is = (pod_line_only heeds d).has kind e in (is.0, is.1);
  moment = λ ticks found kind e. (moment_only ticks (option_and_then as_u64 (option_and_then as_number found))).has
      kind e;
  tick = λ heeds d kind e. (tick_only heeds d).has kind e;
  places = λ heeds roll es kind e. (placed_only heeds roll es).has kind e;
}

-- a kind that isn't of refused memory
is_not : (kind given : FaultKind) → kind ≡ given → IsNotMemory given → IsNotMemory kind
is_not kind given is never = subst IsNotMemory (sym is) never

fails_not_memory : (past : TraceSoFar) (line : List ℕ) (kind : FaultKind) → Fails past line kind → IsNotMemory kind
fails_not_memory past line _ (too_long long) = (λ memory. absurd (cc), λ memory. absurd (cc))
fails_not_memory past line _ (not_json kind short e) =
    is_not kind NotJson ((json_only line).has kind e) (λ memory. absurd (cc), λ memory. absurd (cc))
fails_not_memory past line _ (unknown_kind d is none) = (λ memory. absurd (cc), λ memory. absurd (cc))
fails_not_memory past line _ (misplaced sort d is never) = (λ memory. absurd (cc), λ memory. absurd (cc))
fails_not_memory past line _ (wrong_node d kind is e) = elim ((node_in_only past.format d).has kind e) [
  | inl config ↦ is_not kind Config config (λ memory. absurd (cc), λ memory. absurd (cc))
  | inr soft ↦ is_not kind SoftWithoutGrace soft (λ memory. absurd (cc), λ memory. absurd (cc))
]
fails_not_memory past line _ (many_pods d is some) = (λ memory. absurd (cc), λ memory. absurd (cc))
fails_not_memory past line _ (wrong_pod d kind is none e) =
    let given = (pod_line_only (heeds past) d).has kind e in
    let fault = given.0 in
    let found : IsFound fault = given.2 in
    is_not kind (Manifest fault) given.1 (
      λ memory. absurd (cc),
      λ memory. let same : fault ≡ faults.OutOfMemory =
          cc in absurd (found same),
    )
fails_not_memory past line _ (duplicate_pod d pod is known) = (λ memory. absurd (cc), λ memory. absurd (cc))
fails_not_memory past line _ (nobody_gone d is none) = (λ memory. absurd (cc), λ memory. absurd (cc))
fails_not_memory past line _ (many_ticks d is many) = (λ memory. absurd (cc), λ memory. absurd (cc))
fails_not_memory past line _ (wrong_moment d kind is room e) =
    is_not kind Moment (kinds_of_checks.moment past.ticks (field_at (codes "at") d) kind e)
    (λ memory. absurd (cc), λ memory. absurd (cc))
fails_not_memory past line _ (wrong_field d at kind is e) =
    is_not kind Usage ((tick_only (heeds past) d).has kind e) (λ memory. absurd (cc), λ memory. absurd (cc))
fails_not_memory past line _ (stranger d at written kind is e) =
    elim ((placed_only (heeds past) past.roll written.entries).has kind e) [
      | inl pod ↦ is_not kind StrangerPod pod (λ memory. absurd (cc), λ memory. absurd (cc))
      | inr container ↦ is_not kind StrangerContainer container (λ memory. absurd (cc), λ memory. absurd (cc))
    ]
fails_not_memory past line _ (doubled d at written placed is twice) = (λ memory. absurd (cc), λ memory. absurd (cc))
fails_not_memory past line _ (backwards d at written placed is back) = (λ memory. absurd (cc), λ memory. absurd (cc))
fails_not_memory past line _ (no_code d at written placed is missing) = (λ memory. absurd (cc), λ memory. absurd (cc))

first_not_memory : (format : Format) (lines : List (List ℕ)) (fault : LineFault) → IsFirstFault format lines fault
    → IsNotMemory fault.kind
first_not_memory format lines fault (inl (n, first, number)) =
    fails_not_memory first.past first.line fault.kind (line_fails first.past first.line fault.kind first.fails)
first_not_memory format lines fault (inr (blank, kind, number)) =
    is_not fault.kind Order kind (λ memory. absurd (cc), λ memory. absurd (cc))

pub never_memory : NeverMemory
never_memory = record {
  line = λ past line kind e. fails_not_memory past line kind (line_fails past line kind e);
  text = λ format text fault e. first_not_memory format (lines_of text) fault ((first_fault format text fault).0 e);
}
