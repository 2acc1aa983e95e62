-- A pod whose containers were resized (Kubernetes, "Pod Lifecycle", "Pod resize").
use Rattle.std.specs.Prelude.{List, [], ◌∷◌}
use Rattle.manifest.specs.declared.pod.ContainerSpec.{ContainerSpec}
use Rattle.manifest.specs.declared.pod.PodSpec.{PodSpec}
use Rattle.manifest.specs.rule.Resources.{Resources}

-- the containers, each with these requests and limits in place of its own
abbrev pub with_resources : List ContainerSpec → List Resources → List ContainerSpec
with_resources [] resources = []
with_resources (container ∷ containers) [] = container ∷ containers
with_resources (container ∷ containers) (now ∷ resources) =
    record container { resources = now } ∷ with_resources containers resources

-- the pod, with these requests and limits in place of those of its containers
abbrev pub resized : PodSpec → List Resources → PodSpec
resized pod resources = record pod { containers = with_resources pod.containers resources }
