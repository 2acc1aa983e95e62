-- The containers of a pod (Kubernetes, "Init Containers", "Sidecar Containers").
use Rattle.std.specs.Prelude.{ℕ, ◌||◌, Bool, false, List, [], ◌∷◌, map}
use Rattle.std.specs.Prelude.{bytes_eq}
use Rattle.std.specs.List.{list_any}
use Rattle.manifest.specs.declared.pod.ContainerSpec.{ContainerSpec}

abbrev pub names_of : List ContainerSpec → List (List ℕ)
names_of containers = map (λ c. c.name) containers

-- two of the containers have one name
abbrev pub has_twice : List ContainerSpec → Bool
has_twice [] = false
has_twice (c ∷ cs) = list_any (λ other. bytes_eq other.name c.name) cs || has_twice cs

-- a pod has no more containers (this profile's limit)
abbrev pub most_containers : ℕ
most_containers = 16
