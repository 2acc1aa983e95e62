-- The requests and limits of one container (Kubernetes, "Resource Management for Pods and Containers";
-- "Pod Quality of Service Classes"; that a zero counts as unset is this profile's rule).
use Rattle.std.specs.Prelude.{◌≡◌, ◌⊎◌, ◌==◌, ℕ, if◌then◌else◌, Option, Some, None, unwrap_or, IsSome}
use Rattle.std.specs.Option.{option_or}
use Rattle.manifest.specs.declared.pod.ContainerSpec.{ContainerSpec}
use Rattle.manifest.specs.declared.resources.Resource.{Resource}
use Rattle.manifest.specs.declared.resources.Resource.TheVariants.{Cpu, Memory}
use Rattle.manifest.specs.rule.Resources.{amount_of}

-- an amount that is set: a zero counts as unset
abbrev pub set_amount : Option ℕ → Option ℕ
set_amount None = None
set_amount (Some amount) = if amount == 0 then None else Some amount

-- the request of a resource that is written for a container; a written 0 is none
abbrev pub own_request_of : ContainerSpec → Resource → Option ℕ
own_request_of container resource = set_amount (amount_of container.resources.requests resource)

-- a container's limit of a resource
abbrev pub limit_of : ContainerSpec → Resource → Option ℕ
limit_of container resource = set_amount (amount_of container.resources.limits resource)

-- a container's request of a resource: a limit without a request gives the request the limit's
-- value
abbrev pub request_of : ContainerSpec → Resource → Option ℕ
request_of container resource = option_or (own_request_of container resource) (limit_of container resource)

-- the amount that a container requests, and 0 where it requests none
abbrev pub requested : Resource → ContainerSpec → ℕ
requested resource container = unwrap_or (request_of container resource) 0

-- the container has a limit of the resource, and its request equals it
abbrev pub RequestEqualsLimit : Resource → ContainerSpec → Type 0
RequestEqualsLimit resource container = (limit : ℕ) × (limit_of container resource ≡ Some limit)
    × (request_of container resource ≡ Some limit)

-- the container has limits of cpu and of memory, and its requests equal them
unfoldable pub IsGuaranteed : ContainerSpec → Type 0
IsGuaranteed container = RequestEqualsLimit Cpu container × RequestEqualsLimit Memory container

-- a request or a limit of the resource is written for the container, other than 0
abbrev pub HasRequestOrLimit : Resource → ContainerSpec → Type 0
HasRequestOrLimit resource container = IsSome (own_request_of container resource) ⊎ IsSome (limit_of container resource)

-- a request or a limit of cpu or of memory is written for the container, other than 0
abbrev pub HasSomeRequestOrLimit : ContainerSpec → Type 0
HasSomeRequestOrLimit container = HasRequestOrLimit Cpu container ⊎ HasRequestOrLimit Memory container
