-- How many containers the pods have.
use Rattle.std.specs.Prelude.{ℕ, List, length, map}
use Rattle.manifest.specs.declared.pod.PodSpec.{PodSpec}

-- how many containers each of the pods has
abbrev pub container_counts : List PodSpec → List ℕ
container_counts pods = map (λ (p : PodSpec). length p.containers) pods
