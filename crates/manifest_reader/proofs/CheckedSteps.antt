-- The steps of reading a manifest, of which only the first fault is looked for.
use Rattle.std.proofs.Common.{◌≡◌, ◌∙◌, Bool, true, false, List, [], ◌++◌, Result, Ok, Err, refl, ap}
use Rattle.std.specs.Prelude.{⊤, Option, Some, codes}
use Rattle.serde_json.specs.Data.{Data}
use Rattle.json_fields.specs.rule.Fields.{field_at}
use Rattle.json_fields.specs.rule.Reading.{◌>>=◌, refused_if, each}
use Rattle.manifest.specs.declared.pod.ContainerSpec.{ContainerSpec}
use Rattle.manifest.specs.declared.pod.PodSpec.{PodSpec}
use Rattle.manifest.specs.declared.pod.Place.TheVariants.{InitContainers, Containers}
use Rattle.manifest.specs.rule.Containers.{has_twice}
use Rattle.manifest.specs.rule.Resources.{no_resources}
use Rattle.manifest_fields.specs.rule.Fields.{object_of}
use Rattle.manifest_fields.specs.declared.fault.Field.TheVariants as fields
use Rattle.manifest_fields.specs.declared.fault.ManifestFault.{ManifestFault}
use Rattle.manifest_fields.specs.declared.fault.ManifestFault.TheVariants.{DuplicateContainer}
use Rattle.json_fields.specs.state.Reading.{checked}
use Rattle.manifest_reader.specs.state.Checks.{apart_at}
use Rattle.manifest_reader.specs.rule.Manifest.{container_of, few, apart, containers_of, containers_in, metadata_of}
use Rattle.manifest_reader.specs.rule.Manifest.{Spec, settings_in, spec_of, pod_in}
use Rattle.manifest_reader.specs.declared.reading.Metadata.{Metadata}
use Rattle.manifest_reader.specs.declared.reading.Settings.{Settings}
use Rattle.manifest_reader.proofs.RowLemmas.{doubled}

last_step : {A : Type 0} (twice : Bool) (x : A)
    → checked (refused_if twice DuplicateContainer >>= λ apart. Ok x) ≡ refused_if twice DuplicateContainer
last_step true x = refl
last_step false x = refl

pub containers_checked : (own : Bool) (init_items items : List Data) → checked (containers_of own init_items items)
    ≡ (few init_items items >>= λ within. checked (each (container_of own InitContainers) init_items)
    >>= λ init. checked (each (container_of own Containers) items) >>= λ apps. apart_at init_items items)
unfolding containers_of
containers_checked own init_items items = there (few init_items items)
    (each (container_of own InitContainers) init_items)
    (each (container_of own Containers) items) refl refl
  where
    there : (within : Result ⊤ ManifestFault) (init apps : Result (List ContainerSpec) ManifestFault)
        → each (container_of own InitContainers) init_items ≡ init → each (container_of own Containers) items ≡ apps
        → checked (within >>= λ u. init >>= λ cs. apps >>= λ ds. apart (cs ++ ds) >>= λ v. Ok (cs ++ ds))
        ≡ (within >>= λ u. checked init >>= λ v. checked apps >>= λ w. apart_at init_items items)
    there (Err fault) init apps e f = refl
    there (Ok u) (Err fault) apps e f = refl
    there (Ok u) (Ok cs) (Err fault) e f = refl
    there (Ok u) (Ok cs) (Ok ds) e f = last_step (has_twice (cs ++ ds)) (cs ++ ds)
        ∙ ap (λ (twice : Bool). refused_if twice DuplicateContainer) (doubled own init_items items cs ds e f)

two_steps : {A B C D : Type 0} (a : Result A ManifestFault) (b : Result B ManifestFault) (f : A → B → C) (g : C → D)
    → checked ((a >>= λ x. b >>= λ y. Ok (f x y)) >>= λ z. Ok (g z)) ≡ (a >>= λ x. checked b)
two_steps (Err fault) b f g = refl
two_steps (Ok x) (Err fault) f g = refl
two_steps (Ok x) (Ok y) f g = refl

abbrev spec_with : Settings → List ContainerSpec → Spec
spec_with settings containers = record { settings = settings; containers = containers }

abbrev pod_with : Metadata → Spec → PodSpec
pod_with metadata spec = record {
  name = metadata.name;
  namespace = metadata.namespace;
  policy = spec.settings.policy;
  priority = spec.settings.priority;
  grace_period_seconds = spec.settings.grace_period_seconds;
  containers = spec.containers;
  resources = no_resources;
  gates = [];
  spared = false;
}

of_spec : (own : Bool) (metadata : Metadata) (found : Result Data ManifestFault)
    → checked ((found >>= λ spec. settings_in spec >>= λ settings. containers_in own spec >>= λ containers.
    Ok (spec_with settings containers)) >>= λ spec. Ok (pod_with metadata spec))
    ≡ (found >>= λ spec. settings_in spec >>= λ settings. checked (containers_in own spec))
of_spec own metadata (Err fault) = refl
of_spec own metadata (Ok spec) = two_steps (settings_in spec) (containers_in own spec) spec_with (pod_with metadata)

of_metadata : (own : Bool) (found : Option Data) (metadata : Result Metadata ManifestFault)
    → checked (metadata >>= λ m. spec_of own found >>= λ spec. Ok (pod_with m spec))
    ≡ (checked metadata >>= λ m. object_of fields.Spec found
    >>= λ spec. settings_in spec >>= λ settings. checked (containers_in own spec))
unfolding spec_of
of_metadata own found (Err fault) = refl
of_metadata own found (Ok metadata) = of_spec own metadata (object_of fields.Spec found)

of_pod : (own : Bool) (found : Result Data ManifestFault)
    → checked (found >>= λ pod. metadata_of (field_at (codes "metadata") pod)
    >>= λ m. spec_of own (field_at (codes "spec") pod) >>= λ spec. Ok (pod_with m spec))
    ≡ (found >>= λ pod. checked (metadata_of (field_at (codes "metadata") pod))
    >>= λ m. object_of fields.Spec (field_at (codes "spec") pod) >>= λ spec. settings_in spec
    >>= λ settings. checked (containers_in own spec))
of_pod own (Err fault) = refl
of_pod own (Ok pod) = of_metadata own (field_at (codes "spec") pod) (metadata_of (field_at (codes "metadata") pod))

pub pod_checked : (own : Bool) (d : Data) → checked (pod_in own d)
    ≡ (object_of fields.Pod (Some d) >>= λ pod. checked (metadata_of (field_at (codes "metadata") pod))
    >>= λ metadata. object_of fields.Spec (field_at (codes "spec") pod) >>= λ spec. settings_in spec
    >>= λ settings. checked (containers_in own spec))
unfolding pod_in
pod_checked own d = of_pod own (object_of fields.Pod (Some d))
