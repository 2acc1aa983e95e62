-- The rows of the table by what was found, which are the answers of its checks in their order.
use Rattle.std.proofs.Common.{◌≡◌, ◌∙◌, ℕ, ◌+◌, List, [], ◌∷◌, ◌++◌, map, length, Option, Some, None, is_some, refl}
use Rattle.std.specs.Prelude.{codes, nat_lt, if◌then◌else◌}
use Rattle.std.specs.List.{flat_map}
use Rattle.std.proofs.lemmas.List.{map-append}
use Rattle.serde_json.specs.Data.{Data}
use Rattle.json_fields.specs.rule.Fields.{field_at}
use Rattle.manifest_fields.specs.declared.fault.Field.TheVariants as fields
use Rattle.manifest_fields.specs.declared.fault.ManifestFault.TheVariants.{Missing, InitProbe, RequestAboveLimit}
use Rattle.manifest_fields.specs.declared.fault.ManifestFault.TheVariants.{DuplicateContainer, TooMany}
use Rattle.manifest.specs.rule.Containers.{most_containers}
use Rattle.manifest.specs.declared.pod.Place.{Place}
use Rattle.manifest.specs.declared.pod.Place.TheVariants.{InitContainers, Containers}
use Rattle.manifest.specs.rule.Names.{is_name, is_label}
use Rattle.manifest.specs.rule.Resources.{some_above}
use Rattle.manifest_fields.specs.rule.ResourceFields.{quantity_at}
use Rattle.json_fields.specs.rule.Numbers.{max_int32}
use Rattle.manifest_fields.specs.rule.ProbeFields.{number_of}
use Rattle.manifest_reader.specs.rule.Manifest.{field_of}
use Rattle.manifest_reader.specs.state.Found.{fault_of, fails_if, is_so, must_be, may_be, at, is_object, is_array}
use Rattle.manifest_reader.specs.state.Found.{is_text}
use Rattle.manifest_reader.specs.state.Found.{is_policy, is_priority, is_grace_period, items_in, is_empty, amounts_at}
use Rattle.manifest_reader.specs.state.Found.{own_policy_fault, has_double, name_in, init_items, app_items}
use Rattle.manifest_reader.specs.state.Table.{fault_at, is_init, probes_checks, container_checks, checks_of}
use Rattle.manifest_reader.proofs.Rows.{Row}

-- requests or limits
abbrev pub amount_rows : Option Data → List Row
amount_rows found =
    may_be is_object fields.Resources found
    ∷ fault_of (quantity_at (at (codes "cpu") found))
    ∷ fault_of (quantity_at (at (codes "memory") found))
    ∷ fault_of (quantity_at (at (codes "ephemeral-storage") found))
    ∷ []

-- a container's resources
abbrev pub resource_rows : Option Data → List Row
resource_rows found =
    may_be is_object fields.Resources found
    ∷ amount_rows (at (codes "requests") found)
    ++ amount_rows (at (codes "limits") found)
    ++ fails_if (some_above (amounts_at (at (codes "requests") found)) (amounts_at (at (codes "limits") found)))
    RequestAboveLimit
    ∷ []

-- a probe, of this many successes at most
abbrev pub probe_rows : ℕ → Option Data → List Row
probe_rows most_successes found =
    may_be is_object fields.Probe found
    ∷ fault_of (number_of 0 max_int32 0 (at (codes "initialDelaySeconds") found))
    ∷ fault_of (number_of 1 max_int32 10 (at (codes "periodSeconds") found))
    ∷ fault_of (number_of 1 max_int32 1 (at (codes "timeoutSeconds") found))
    ∷ fault_of (number_of 1 most_successes 1 (at (codes "successThreshold") found))
    ∷ fault_of (number_of 1 max_int32 3 (at (codes "failureThreshold") found))
    ∷ []

-- the probes of an app container or a sidecar: one success is enough for startup and liveness
abbrev pub some_probes_rows : Data → List Row
some_probes_rows d =
    probe_rows 1 (field_at (codes "startupProbe") d)
    ++ probe_rows 1 (field_at (codes "livenessProbe") d)
    ++ probe_rows max_int32 (field_at (codes "readinessProbe") d)

-- an init container has none
abbrev pub unprobed_rows : Data → List Row
unprobed_rows d =
    fails_if (is_some (field_at (codes "startupProbe") d)) InitProbe
    ∷ fails_if (is_some (field_at (codes "livenessProbe") d)) InitProbe
    ∷ fails_if (is_some (field_at (codes "readinessProbe") d)) InitProbe
    ∷ []

abbrev pub probes_rows : Place → Option Data → Data → List Row
probes_rows place own_policy d = if is_init place own_policy then unprobed_rows d else some_probes_rows d

-- a container
unfoldable pub container_rows : Place → Data → List Row
container_rows place d =
    is_so is_object (field_of place) d
    ∷ must_be (is_text is_label) fields.ContainerName (field_at (codes "name") d)
    ∷ own_policy_fault place (field_at (codes "restartPolicy") d)
    ∷ resource_rows (field_at (codes "resources") d)
    ++ probes_rows place (field_at (codes "restartPolicy") d) d

-- all containers
unfoldable pub containers_rows : List Data → List Data → List Row
containers_rows init_items items =
    fails_if (nat_lt most_containers (length init_items + length items)) TooMany
    ∷ flat_map (container_rows InitContainers) init_items
    ++ (flat_map (container_rows Containers) items
    ++ fails_if (has_double (map name_in (init_items ++ items))) DuplicateContainer
    ∷ [])

unfoldable pub metadata_rows : Option Data → List Row
metadata_rows found =
    must_be is_object fields.Metadata found
    ∷ must_be (is_text is_name) fields.Name (at (codes "name") found)
    ∷ may_be (is_text is_label) fields.Namespace (at (codes "namespace") found)
    ∷ []

unfoldable pub spec_rows : Option Data → List Row
spec_rows found =
    must_be is_object fields.Spec found
    ∷ may_be (is_text is_policy) fields.RestartPolicy (at (codes "restartPolicy") found)
    ∷ may_be is_priority fields.Priority (at (codes "priority") found)
    ∷ may_be is_grace_period fields.GracePeriod (at (codes "terminationGracePeriodSeconds") found)
    ∷ may_be is_array fields.InitContainers (at (codes "initContainers") found)
    ∷ must_be is_array fields.Containers (at (codes "containers") found)
    ∷ fails_if (is_empty (items_in (at (codes "containers") found))) (Missing fields.Containers)
    ∷ containers_rows (items_in (at (codes "initContainers") found)) (items_in (at (codes "containers") found))

-- the table
unfoldable pub rows_of : Data → List Row
rows_of d =
    is_so is_object fields.Pod d
    ∷ metadata_rows (field_at (codes "metadata") d)
    ++ spec_rows (field_at (codes "spec") d)

-- the answers of the checks
probes_are : (d : Data) (place : Place) (own_policy : Option Data) (item : Data)
    → map (fault_at d) (probes_checks place own_policy item) ≡ probes_rows place own_policy item
probes_are d InitContainers None item = refl
probes_are d InitContainers (Some policy) item = refl
probes_are d Containers own_policy item = refl

container_are : (d : Data) (place : Place) (item : Data)
    → map (fault_at d) (container_checks place item) ≡ container_rows place item
unfolding container_checks container_rows
container_are d place item = rw (← probes_are d place (field_at (codes "restartPolicy") item) item) refl

items_are : (d : Data) (place : Place) (items : List Data)
    → map (fault_at d) (flat_map (container_checks place) items) ≡ flat_map (container_rows place) items
items_are d place [] = refl
items_are d place (item ∷ items) =
    map-append (fault_at d) (container_checks place item) (flat_map (container_checks place) items)
    ∙ (rw (container_are d place item, items_are d place items) refl)

pub answers_are : (d : Data) → map (fault_at d) (checks_of d) ≡ rows_of d
unfolding checks_of rows_of metadata_rows spec_rows containers_rows
answers_are d =
    rw (
      map-append (fault_at d) (flat_map (container_checks InitContainers) (init_items d)) _,
      map-append (fault_at d) (flat_map (container_checks Containers) (app_items d)) _,
      items_are d InitContainers (init_items d),
      items_are d Containers (app_items d),
    ) refl
