-- The table of a manifest's checks: one constructor for each row, the fault of a manifest that fails it, and the order.
-- Each row is defined by itself, by the field that it looks at, whatever the rows before it reject. (Kubernetes API,
-- `Pod`.)
use Rattle.std.specs.Prelude.{nat_lt, ◌+◌, Bool, true, false, if◌then◌else◌, List, [], ◌∷◌, ◌++◌, length, map}
use Rattle.std.specs.Prelude.{Option, None, is_some, codes}
use Rattle.std.specs.List.{flat_map}
use Rattle.serde_json.specs.Data.{Data}
use Rattle.json_fields.specs.rule.Fields.{field_at}
use Rattle.manifest_fields.specs.declared.fault.Field.TheVariants as fields
use Rattle.manifest_fields.specs.declared.fault.ManifestFault.{ManifestFault}
use Rattle.manifest_fields.specs.declared.fault.ManifestFault.TheVariants.{Missing, InitProbe, RequestAboveLimit}
use Rattle.manifest_fields.specs.declared.fault.ManifestFault.TheVariants.{DuplicateContainer, TooMany}
use Rattle.manifest.specs.rule.Containers.{most_containers}
use Rattle.manifest.specs.declared.outcome.ProbeKind.{ProbeKind}
use Rattle.manifest.specs.declared.outcome.ProbeKind.TheVariants.{Startup, Liveness, Readiness}
use Rattle.manifest.specs.declared.pod.Place.{Place}
use Rattle.manifest.specs.declared.pod.Place.TheVariants.{InitContainers, Containers}
use Rattle.manifest.specs.declared.resources.Resource.{Resource}
use Rattle.manifest.specs.declared.resources.Resource.TheVariants.{Cpu, Memory, EphemeralStorage}
use Rattle.manifest.specs.rule.Names.{is_name, is_label}
use Rattle.manifest_fields.specs.rule.ResourceFields.{quantity_at}
use Rattle.json_fields.specs.rule.Numbers.{max_int32}
use Rattle.manifest_reader.specs.rule.Manifest.{field_of}
use Rattle.manifest_reader.specs.state.Found.{fault_of, fails_if, is_so, must_be, may_be, is_object, is_array}
use Rattle.manifest_reader.specs.state.Found.{is_text, is_policy, is_priority, is_grace_period, is_empty}
use Rattle.manifest_reader.specs.state.Found.{has_request_above_limit}
use Rattle.manifest_reader.specs.state.Found.{number_fault, own_policy_fault, has_double, name_in, in_metadata}
use Rattle.manifest_reader.specs.state.Found.{in_spec}
use Rattle.manifest_reader.specs.state.Found.{init_items, app_items, requests_in, limits_in, amount_at, probe_at}
use Rattle.manifest_reader.specs.state.Found.{most_successes}

-- a check of the table, one constructor for each row; a row of a container has the item of
-- `initContainers` or `containers` that it looks at
pub data Check : Type 0 where
  -- the pod
  pod_is_object : Check
  metadata_is_object : Check
  pod_name_is_valid : Check
  namespace_is_valid : Check
  spec_is_object : Check
  restart_policy_is_known : Check
  priority_in_range : Check
  grace_period_in_range : Check
  init_containers_are_array : Check
  containers_are_array : Check
  containers_not_empty : Check
  containers_are_few : Check
  -- a container
  container_is_object : Place → Data → Check
  container_name_is_valid : Data → Check
  own_policy_is_allowed : Place → Data → Check
  resources_are_object : Data → Check
  requests_are_object : Data → Check
  request_is_quantity : Data → Resource → Check
  limits_are_object : Data → Check
  limit_is_quantity : Data → Resource → Check
  requests_within_limits : Data → Check
  -- a probe of an init container; of any other
  probe_is_absent : Data → ProbeKind → Check
  probe_is_object : Data → ProbeKind → Check
  initial_delay_in_range : Data → ProbeKind → Check
  period_in_range : Data → ProbeKind → Check
  timeout_in_range : Data → ProbeKind → Check
  successes_in_range : Data → ProbeKind → Check
  failures_in_range : Data → ProbeKind → Check
  -- all containers
  names_are_apart : Check

-- the fault that a check answers where the manifest fails it
abbrev pub fault_at : Data → Check → Option ManifestFault
fault_at d pod_is_object = is_so is_object fields.Pod d
fault_at d metadata_is_object = must_be is_object fields.Metadata (field_at (codes "metadata") d)
fault_at d pod_name_is_valid = must_be (is_text is_name) fields.Name (in_metadata (codes "name") d)
fault_at d namespace_is_valid = may_be (is_text is_label) fields.Namespace (in_metadata (codes "namespace") d)
fault_at d spec_is_object = must_be is_object fields.Spec (field_at (codes "spec") d)
fault_at d restart_policy_is_known = may_be (is_text is_policy) fields.RestartPolicy (in_spec (codes "restartPolicy") d)
fault_at d priority_in_range = may_be is_priority fields.Priority (in_spec (codes "priority") d)
fault_at d grace_period_in_range = may_be is_grace_period fields.GracePeriod
    (in_spec (codes "terminationGracePeriodSeconds") d)
fault_at d init_containers_are_array = may_be is_array fields.InitContainers (in_spec (codes "initContainers") d)
fault_at d containers_are_array = must_be is_array fields.Containers (in_spec (codes "containers") d)
fault_at d containers_not_empty = fails_if (is_empty (app_items d)) (Missing fields.Containers)
fault_at d containers_are_few = fails_if (nat_lt most_containers (length (init_items d) + length (app_items d))) TooMany
fault_at d (container_is_object place item) = is_so is_object (field_of place) item
fault_at d (container_name_is_valid item) = must_be (is_text is_label) fields.ContainerName
    (field_at (codes "name") item)
fault_at d (own_policy_is_allowed place item) = own_policy_fault place (field_at (codes "restartPolicy") item)
fault_at d (resources_are_object item) = may_be is_object fields.Resources (field_at (codes "resources") item)
fault_at d (requests_are_object item) = may_be is_object fields.Resources (requests_in item)
fault_at d (request_is_quantity item resource) = fault_of (quantity_at (amount_at resource (requests_in item)))
fault_at d (limits_are_object item) = may_be is_object fields.Resources (limits_in item)
fault_at d (limit_is_quantity item resource) = fault_of (quantity_at (amount_at resource (limits_in item)))
fault_at d (requests_within_limits item) = fails_if (has_request_above_limit item) RequestAboveLimit
fault_at d (probe_is_absent item kind) = fails_if (is_some (probe_at kind item)) InitProbe
fault_at d (probe_is_object item kind) = may_be is_object fields.Probe (probe_at kind item)
fault_at d (initial_delay_in_range item kind) = number_fault item kind (codes "initialDelaySeconds") 0 max_int32 0
fault_at d (period_in_range item kind) = number_fault item kind (codes "periodSeconds") 1 max_int32 10
fault_at d (timeout_in_range item kind) = number_fault item kind (codes "timeoutSeconds") 1 max_int32 1
fault_at d (successes_in_range item kind) = number_fault item kind (codes "successThreshold") 1 (most_successes kind) 1
fault_at d (failures_in_range item kind) = number_fault item kind (codes "failureThreshold") 1 max_int32 3
fault_at d names_are_apart = fails_if (has_double (map name_in (init_items d ++ app_items d))) DuplicateContainer

abbrev pub each_resource : (Resource → Check) → List Check
each_resource check = check Cpu ∷ check Memory ∷ check EphemeralStorage ∷ []

-- the checks of a container's resources
abbrev pub resource_checks : Data → List Check
resource_checks item =
    resources_are_object item
    ∷ requests_are_object item
    ∷ each_resource (request_is_quantity item)
    ++ limits_are_object item
    ∷ each_resource (limit_is_quantity item)
    ++ requests_within_limits item
    ∷ []

-- of a probe
abbrev pub probe_checks : Data → ProbeKind → List Check
probe_checks item kind =
    probe_is_object item kind
    ∷ initial_delay_in_range item kind
    ∷ period_in_range item kind
    ∷ timeout_in_range item kind
    ∷ successes_in_range item kind
    ∷ failures_in_range item kind
    ∷ []

-- of the probes of an init container, which has none
abbrev pub absence_checks : Data → List Check
absence_checks item = probe_is_absent item Startup ∷ probe_is_absent item Liveness ∷ probe_is_absent item Readiness ∷ []

-- of the probes of a sidecar or an app container
abbrev pub some_probes_checks : Data → List Check
some_probes_checks item = probe_checks item Startup ++ probe_checks item Liveness ++ probe_checks item Readiness

-- an item of `initContainers` without a restart policy of its own is an init container
abbrev pub is_init : Place → Option Data → Bool
is_init InitContainers None = true
is_init place own_policy = false

abbrev pub probes_checks : Place → Option Data → Data → List Check
probes_checks place own_policy item =
    if is_init place own_policy then absence_checks item else some_probes_checks item

-- of a container
unfoldable pub container_checks : Place → Data → List Check
container_checks place item =
    container_is_object place item
    ∷ container_name_is_valid item
    ∷ own_policy_is_allowed place item
    ∷ resource_checks item
    ++ probes_checks place (field_at (codes "restartPolicy") item) item

-- the checks of a manifest, in the order of the table
unfoldable pub checks_of : Data → List Check
checks_of d =
    pod_is_object
    ∷ metadata_is_object
    ∷ pod_name_is_valid
    ∷ namespace_is_valid
    ∷ spec_is_object
    ∷ restart_policy_is_known
    ∷ priority_in_range
    ∷ grace_period_in_range
    ∷ init_containers_are_array
    ∷ containers_are_array
    ∷ containers_not_empty
    ∷ containers_are_few
    ∷ flat_map (container_checks InitContainers) (init_items d)
    ++ (flat_map (container_checks Containers) (app_items d)
    ++ names_are_apart
    ∷ [])
