-- Laws of classes and effective requests, over the definitions alone: for every pod.
use Rattle.std.specs.Prelude.{◌≡◌, ◌≤◌, ◌∷◌, List, All, Contains}
use Rattle.manifest.specs.declared.pod.ContainerSpec.{ContainerSpec}
use Rattle.manifest.specs.declared.pod.PodSpec.{PodSpec}
use Rattle.manifest.specs.declared.resources.Resource.{Resource}
use Rattle.qos.specs.declared.class.Qos.{Qos}
use Rattle.qos.specs.declared.class.Qos.TheVariants.{BestEffort}
use Rattle.qos.specs.rule.Container.{requested, HasSomeRequestOrLimit}
use Rattle.qos.specs.rule.Class.{IsOfClass}
use Rattle.qos.specs.rule.Pod.{IsPodClass}
use Rattle.qos.specs.rule.Requests.{effective_request_of}

-- every pod is of a class
abbrev pub SomeClass : Type 0
SomeClass = (containers : List ContainerSpec) → (class : Qos) × IsOfClass containers class

-- no pod is of two classes
abbrev pub OneClass : Type 0
OneClass = (containers : List ContainerSpec) (class other : Qos) → IsOfClass containers class
    → IsOfClass containers other → class ≡ other

-- every pod has a class, with or without resources as a whole
abbrev pub SomePodClass : Type 0
SomePodClass = (pod : PodSpec) → (class : Qos) × IsPodClass pod class

-- and no other
abbrev pub OnePodClass : Type 0
OnePodClass = (pod : PodSpec) (class other : Qos) → IsPodClass pod class → IsPodClass pod other → class ≡ other

-- a pod that has containers, none of them with a request or a limit of cpu or memory, is BestEffort
abbrev pub NothingAskedFor : Type 0
NothingAskedFor =
    (container : ContainerSpec) (others : List ContainerSpec)
    → All (λ c. HasSomeRequestOrLimit c → ⊥) (container ∷ others) → IsOfClass (container ∷ others) BestEffort

-- an effective request is at least that of each container, whatever its role is
abbrev pub EffectiveRequestCovers : Type 0
EffectiveRequestCovers =
    (resource : Resource) (containers : List ContainerSpec) (container : ContainerSpec)
    → Contains containers container → requested resource container ≤ effective_request_of resource containers
