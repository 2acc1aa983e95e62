-- Which containers a pod may have (Kubernetes, "Init Containers", "Sidecar Containers").
use Rattle.std.specs.Prelude.{◌≡◌, ◌≢◌, ◌<◌, ◌≤◌, Bool, true, false, List, ◌++◌, All, length}
use Rattle.std.specs.List.{list_all}
use Rattle.manifest.specs.declared.pod.Role.{Role}
use Rattle.manifest.specs.declared.pod.Role.TheVariants.{Init, Sidecar, App}
use Rattle.manifest.specs.declared.pod.ContainerSpec.{ContainerSpec}
use Rattle.manifest.specs.declared.pod.Place.{Place}
use Rattle.manifest.specs.declared.pod.Place.TheVariants.{InitContainers, Containers}
use Rattle.manifest.specs.rule.Probe.{no_probes}
use Rattle.manifest.specs.rule.Containers.{has_twice, most_containers}

abbrev pub is_app : Role → Bool
is_app Init = false
is_app Sidecar = false
is_app App = true

-- none of them is an init container or a sidecar
abbrev pub has_only_apps : List ContainerSpec → Bool
has_only_apps containers = list_all (λ c. is_app c.role) containers

-- an item of `initContainers` is an init container or a sidecar, one of `containers` an app
-- container
abbrev pub MayHave : Place → Role → Type 0
MayHave InitContainers role = role ≢ App
MayHave Containers role = role ≡ App

-- a container that is written in this place; an init container has no probes
pub record IsOf (place : Place) (c : ContainerSpec) : Type 0 where
  pub role : MayHave place c.role
  pub unprobed : c.role ≡ Init → c.probes ≡ no_probes

-- all are written there
unfoldable pub AllOf : Place → List ContainerSpec → Type 0
AllOf place containers = All (IsOf place) containers

-- init containers and sidecars, then at least one app container; not too many together, and no two of
-- one name
pub record AreContainers (containers : List ContainerSpec) : Type 0 where
  pub init : List ContainerSpec
  pub apps : List ContainerSpec
  pub in_order : containers ≡ init ++ apps
  pub init_first : All (IsOf InitContainers) init
  pub apps_last : All (IsOf Containers) apps
  pub some : 0 < length apps
  pub few : length containers ≤ most_containers
  pub apart : has_twice containers ≡ false
