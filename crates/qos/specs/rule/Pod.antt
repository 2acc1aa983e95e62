-- The class and the requests of a pod that may have resources as a whole (Kubernetes, "Pod Quality of Service Classes";
-- "Resource Management for Pods and Containers", "Pod-level resource specification").
use Rattle.std.specs.Prelude.{◌≡◌, ◌⊎◌, ◌==◌, ℕ, [], ◌∷◌, if◌then◌else◌, Option, Some, None}
use Rattle.manifest.specs.declared.pod.Role.TheVariants.{App}
use Rattle.manifest.specs.declared.pod.ContainerSpec.{ContainerSpec}
use Rattle.manifest.specs.declared.pod.PodSpec.{PodSpec}
use Rattle.manifest.specs.declared.resources.Resource.{Resource}
use Rattle.manifest.specs.declared.resources.Resource.TheVariants.{Cpu, Memory, EphemeralStorage}
use Rattle.manifest.specs.rule.Probe.{no_probes}
use Rattle.manifest.specs.rule.Resources.{Resources, amount_of}
use Rattle.qos.specs.declared.class.Qos.{Qos}
use Rattle.qos.specs.rule.Container.{set_amount, HasSomeRequestOrLimit}
use Rattle.qos.specs.rule.Class.{IsOfClass}
use Rattle.qos.specs.rule.Requests.{effective_request_of}

-- one container that has these resources
abbrev pub as_one : Resources → ContainerSpec
as_one resources = record {
  name = [];
  role = App;
  resources = resources;
  probes = no_probes;
  own_restarts = None;
}

-- an amount of cpu or memory is set for the pod as a whole, other than 0
abbrev pub HasOwnAmount : PodSpec → Type 0
HasOwnAmount pod = HasSomeRequestOrLimit (as_one pod.resources)

-- the class of a pod: with an amount of its own that of one container with the pod's amounts, else that of its
-- containers
abbrev pub IsPodClass : PodSpec → Qos → Type 0
IsPodClass pod class =
    (HasOwnAmount pod × IsOfClass (as_one pod.resources ∷ []) class)
    ⊎ ((HasOwnAmount pod → ⊥) × IsOfClass pod.containers class)

-- the pod's own request of a resource; it has none of ephemeral storage
abbrev pub own_request_of : Resource → PodSpec → Option ℕ
own_request_of Cpu pod = set_amount (amount_of pod.resources.requests Cpu)
own_request_of Memory pod = set_amount (amount_of pod.resources.requests Memory)
own_request_of EphemeralStorage pod = None

-- its own limit
abbrev pub own_limit_of : Resource → PodSpec → Option ℕ
own_limit_of Cpu pod = set_amount (amount_of pod.resources.limits Cpu)
own_limit_of Memory pod = set_amount (amount_of pod.resources.limits Memory)
own_limit_of EphemeralStorage pod = None

-- the request by these: the pod's own request; without one what its containers request, or the pod's own limit where
-- there is one and they request nothing
abbrev pub request_by : Option ℕ → Option ℕ → ℕ → ℕ
request_by (Some request) limit of_containers = request
request_by None None of_containers = of_containers
request_by None (Some limit) of_containers = if of_containers == 0 then limit else of_containers

-- the pod's request of a resource
abbrev pub pod_request_of : Resource → PodSpec → ℕ
pod_request_of resource pod =
    request_by (own_request_of resource pod) (own_limit_of resource pod) (effective_request_of resource pod.containers)
