-- The pod of a manifest, or the manifest's first fault: one line for each field, in the order in which they are read
-- (Kubernetes API, `Pod`; "Pod Lifecycle", "Container restart policy"; "Pod Priority and Preemption").
use Rattle.std.specs.Prelude.{ℕ, ℤ, pos, ⊤, ◌+◌, List, [], ◌++◌, length, nat_lt, Option, Some, Bool, true, false}
use Rattle.std.specs.Prelude.{None, option_and_then, if◌then◌else◌, Result, Ok, Err, bytes_eq, codes}
use Rattle.quantity.specs.rule.Duration.{end_of_time}
use Rattle.serde_json.specs.Data.{Data}
use Rattle.serde_json.specs.Find.{as_str, as_number, as_i64, as_u64}
use Rattle.json_fields.specs.rule.Fields.{field_at}
use Rattle.json_fields.specs.rule.Numbers.{is_int32}
use Rattle.json_fields.specs.rule.Reading.{◌>>=◌, refused_if, each}
use Rattle.manifest_fields.specs.declared.fault.Field.{Field}
use Rattle.manifest_fields.specs.declared.fault.Field.TheVariants as fields
use Rattle.manifest_fields.specs.declared.fault.ManifestFault.{ManifestFault}
use Rattle.manifest_fields.specs.declared.fault.ManifestFault.TheVariants.{WrongKind, TooMany, DuplicateContainer}
use Rattle.manifest_fields.specs.declared.fault.ManifestFault.TheVariants as faults
use Rattle.manifest.specs.declared.policy.Policy.{Policy}
use Rattle.manifest.specs.declared.policy.Policy.TheVariants.{Always}
use Rattle.manifest.specs.declared.pod.Role.{Role}
use Rattle.manifest.specs.declared.pod.Role.TheVariants.{Init, Sidecar, App}
use Rattle.manifest.specs.declared.pod.ContainerSpec.{ContainerSpec}
use Rattle.manifest.specs.declared.pod.PodSpec.{PodSpec}
use Rattle.manifest.specs.declared.pod.Place.{Place}
use Rattle.manifest.specs.declared.pod.Place.TheVariants.{InitContainers, Containers}
use Rattle.manifest_reader.specs.declared.reading.Metadata.{Metadata}
use Rattle.manifest_reader.specs.declared.reading.Settings.{Settings}
use Rattle.manifest.specs.rule.Names.{is_name, is_label}
use Rattle.manifest_fields.specs.rule.Fields.{object_of, array_of, array_or_none, some_items, required_text, text_or}
use Rattle.manifest_fields.specs.rule.ProbeFields.{probes_of}
use Rattle.manifest_fields.specs.rule.ResourceFields.{resources_of}
use Rattle.manifest.specs.rule.Containers.{has_twice, most_containers}
use Rattle.manifest.specs.rule.Resources.{no_resources}
use Rattle.manifest.specs.declared.own_restarts.OwnRestarts.{OwnRestarts}
use Rattle.manifest_reader.specs.rule.Policies.{policy_from}
use Rattle.manifest_reader.specs.rule.OwnRestarts.{own_policy_of, role_with, restarts_of}

abbrev pub policy_of : Option Data → Result Policy ManifestFault
policy_of None = Ok Always
policy_of (Some d) = policy_from (as_str d)

abbrev pub priority_from : Option ℤ → Result ℤ ManifestFault
priority_from None = Err (WrongKind fields.Priority)
priority_from (Some z) = if is_int32 z then Ok z else Err (WrongKind fields.Priority)

-- a whole number of 32 bits; 0 where none is written
abbrev pub priority_of : Option Data → Result ℤ ManifestFault
priority_of None = Ok (pos 0)
priority_of (Some d) = priority_from (option_and_then as_i64 (as_number d))

abbrev pub grace_period_from : Option ℕ → Result ℕ ManifestFault
grace_period_from None = Err (WrongKind fields.GracePeriod)
grace_period_from (Some n) = if nat_lt n end_of_time then Ok n else Err (WrongKind fields.GracePeriod)

-- seconds below 2^40; 30 where none is written
abbrev pub grace_period_of : Option Data → Result ℕ ManifestFault
grace_period_of None = Ok 30
grace_period_of (Some d) = grace_period_from (option_and_then as_u64 (as_number d))

-- the field of an array of containers
abbrev pub field_of : Place → Field
field_of InitContainers = fields.InitContainers
field_of Containers = fields.Containers

-- of the restart policies of its own that an item of `initContainers` may have there is one, which
-- makes it a sidecar
abbrev pub sidecar_from : Option (List ℕ) → Result Role ManifestFault
sidecar_from None = Err faults.Sidecar
sidecar_from (Some text) = if bytes_eq text (codes "Always") then Ok Sidecar else Err faults.Sidecar

-- what a container is to its pod, by where it is written and by its own restart policy
abbrev pub role_of : Place → Option Data → Result Role ManifestFault
role_of InitContainers None = Ok Init
role_of InitContainers (Some d) = sidecar_from (as_str d)
role_of Containers None = Ok App
role_of Containers (Some d) = Err faults.Sidecar

-- what a container is to its pod, in a format that reads its own restart policy or not
abbrev pub role_by : Bool → Place → Option Data → Result Role ManifestFault
role_by true place found = own_policy_of found >>= λ policy. Ok (role_with place policy)
role_by false place found = role_of place found

-- what a container of this role has of its own to decide on its restarts, in such a format or in another
abbrev pub restarts_by : Bool → Role → Data → Result (Option OwnRestarts) ManifestFault
restarts_by true role container = restarts_of role container
restarts_by false role container = Ok None

-- one container; own: whether the format reads its own restart policy and rules
unfoldable pub container_of : Bool → Place → Data → Result ContainerSpec ManifestFault
container_of own place d = do
  object ← object_of (field_of place) (Some d)
  name ← required_text is_label fields.ContainerName (field_at (codes "name") object)
  role ← role_by own place (field_at (codes "restartPolicy") object)
  restarts ← restarts_by own role object
  resources ← resources_of (field_at (codes "resources") object)
  probes ← probes_of role object
  Ok (record { name = name; role = role; resources = resources; probes = probes; own_restarts = restarts })

-- not too many containers
abbrev pub few : List Data → List Data → Result ⊤ ManifestFault
few init apps = refused_if (nat_lt most_containers (length init + length apps)) TooMany

-- no two of one name
abbrev pub apart : List ContainerSpec → Result ⊤ ManifestFault
apart cs = refused_if (has_twice cs) DuplicateContainer

-- the containers of the two arrays' items, the items of `initContainers` first
unfoldable pub containers_of : Bool → List Data → List Data → Result (List ContainerSpec) ManifestFault
containers_of own init_items items = do
  within_limit ← few init_items items
  init ← each (container_of own InitContainers) init_items
  apps ← each (container_of own Containers) items
  names_apart ← apart (init ++ apps)
  Ok (init ++ apps)

-- an array of at least one app container
unfoldable pub app_items_of : Option Data → Result (List Data) ManifestFault
app_items_of found = do
  listed ← array_of fields.Containers found
  some_items fields.Containers listed

unfoldable pub containers_in : Bool → Data → Result (List ContainerSpec) ManifestFault
containers_in own spec = do
  init_items ← array_or_none fields.InitContainers (field_at (codes "initContainers") spec)
  items ← app_items_of (field_at (codes "containers") spec)
  containers_of own init_items items

-- a pod's name, and the namespace that it is in
unfoldable pub metadata_of : Option Data → Result Metadata ManifestFault
metadata_of found = do
  metadata ← object_of fields.Metadata found
  name ← required_text is_name fields.Name (field_at (codes "name") metadata)
  namespace ← text_or (codes "default") is_label fields.Namespace (field_at (codes "namespace") metadata)
  Ok (record { name = name; namespace = namespace })

-- what a pod's spec has on the pod as a whole
unfoldable pub settings_in : Data → Result Settings ManifestFault
settings_in spec = do
  policy ← policy_of (field_at (codes "restartPolicy") spec)
  priority ← priority_of (field_at (codes "priority") spec)
  grace_period ← grace_period_of (field_at (codes "terminationGracePeriodSeconds") spec)
  Ok (record { policy = policy; priority = priority; grace_period_seconds = grace_period })

-- what is read of a pod's `spec`
pub record Spec : Type 0 where
  pub settings : Settings
  pub containers : List ContainerSpec

unfoldable pub spec_of : Bool → Option Data → Result Spec ManifestFault
spec_of own found = do
  spec ← object_of fields.Spec found
  settings ← settings_in spec
  containers ← containers_in own spec
  Ok (record { settings = settings; containers = containers })

-- a pod; of the pod as a whole neither resources nor readiness gates are read
unfoldable pub pod_in : Bool → Data → Result PodSpec ManifestFault
pod_in own d = do
  pod ← object_of fields.Pod (Some d)
  metadata ← metadata_of (field_at (codes "metadata") pod)
  spec ← spec_of own (field_at (codes "spec") pod)
  Ok (record {
    name = metadata.name;
    namespace = metadata.namespace;
    policy = spec.settings.policy;
    priority = spec.settings.priority;
    grace_period_seconds = spec.settings.grace_period_seconds;
    containers = spec.containers;
    resources = no_resources;
    gates = [];
    spared = false;
  })

-- the pod that a manifest describes in the standard format
abbrev pub pod_at : Data → Result PodSpec ManifestFault
pod_at d = pod_in false d
