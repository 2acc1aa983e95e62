-- The requests and limits of containers, as they are carried from tick to tick.
use Rattle.std.specs.Prelude.{ℕ, suc, List, [], ◌∷◌, map, unwrap_or}
use Rattle.manifest.specs.declared.pod.ContainerSpec.{ContainerSpec}
use Rattle.manifest.specs.rule.Resources.{Resources}
use Rattle.observations.specs.declared.resize.Resize.{Resize}
use Rattle.observations.specs.rule.Resizes.{resized_to}

-- those of the manifest
abbrev pub first_resources : List ContainerSpec → List Resources
first_resources containers = map (λ (container : ContainerSpec). container.resources) containers

-- those of containers that are numbered from n on, after these resizes
abbrev pub resized_by : List Resize → ℕ → List Resources → List Resources
resized_by resizes n [] = []
resized_by resizes n (old ∷ resources) = unwrap_or (resized_to resizes n) old ∷ resized_by resizes (suc n) resources
