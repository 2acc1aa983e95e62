-- A pod's effective request of a resource (Kubernetes, "Init Containers", "Resource sharing within
-- containers"; "Sidecar Containers", "Resource sharing within containers"; that a sidecar counts in the
-- sum alone is this profile's rule).
use Rattle.std.specs.Prelude.{ℕ, max, List, [], ◌∷◌, map, sum_by}
use Rattle.manifest.specs.declared.pod.Role.{Role}
use Rattle.manifest.specs.declared.pod.Role.TheVariants.{Init, Sidecar, App}
use Rattle.manifest.specs.declared.pod.ContainerSpec.{ContainerSpec}
use Rattle.manifest.specs.declared.resources.Resource.{Resource}
use Rattle.qos.specs.rule.Container.{requested}

-- `amount` of an app container or a sidecar, and 0 of an init container
abbrev pub for_app_or_sidecar : Role → ℕ → ℕ
for_app_or_sidecar Init amount = 0
for_app_or_sidecar Sidecar amount = amount
for_app_or_sidecar App amount = amount

-- `amount` of an init container, and 0 of an app container or a sidecar
abbrev pub for_init : Role → ℕ → ℕ
for_init Init amount = amount
for_init Sidecar amount = 0
for_init App amount = 0

-- what the container requests, if it is an app container or a sidecar, else 0
abbrev pub requested_by_app_or_sidecar : Resource → ContainerSpec → ℕ
requested_by_app_or_sidecar resource container = for_app_or_sidecar container.role (requested resource container)

-- what the container requests, if it is an init container, else 0
abbrev pub requested_by_init : Resource → ContainerSpec → ℕ
requested_by_init resource container = for_init container.role (requested resource container)

-- the greatest of the numbers, and 0 of none
abbrev pub greatest_of : List ℕ → ℕ
greatest_of [] = 0
greatest_of (n ∷ ns) = max n (greatest_of ns)

-- what the app containers and sidecars request together, since they run at the same time
abbrev pub sum_of_apps_and_sidecars : Resource → List ContainerSpec → ℕ
sum_of_apps_and_sidecars resource containers = sum_by (requested_by_app_or_sidecar resource) containers

-- the greatest request of an init container, since these run one after another
abbrev pub greatest_of_inits : Resource → List ContainerSpec → ℕ
greatest_of_inits resource containers = greatest_of (map (requested_by_init resource) containers)

-- a pod's effective request of the resource: the greater of what its app containers and sidecars request together
-- and the greatest request of an init container
abbrev pub effective_request_of : Resource → List ContainerSpec → ℕ
effective_request_of resource containers = max (sum_of_apps_and_sidecars resource containers)
    (greatest_of_inits resource containers)
