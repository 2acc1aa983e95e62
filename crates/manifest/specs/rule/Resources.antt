-- The resources of a container (Kubernetes, "Resource Management for Pods and Containers").
use Rattle.std.specs.Prelude.{ℕ, ◌&&◌, ◌||◌, Bool, false, nat_lt, Option, Some, None}
use Rattle.manifest.specs.declared.resources.Resource.{Resource}
use Rattle.manifest.specs.declared.resources.Resource.TheVariants.{Cpu, Memory, EphemeralStorage}
use Rattle.manifest.specs.declared.resources.Amounts.{Amounts}

abbrev pub nothing : Amounts
nothing = record { cpu = None; memory = None; ephemeral_storage = None }

-- the amount of one resource, as it is written
abbrev pub amount_of : Amounts → Resource → Option ℕ
amount_of amounts Cpu = amounts.cpu
amount_of amounts Memory = amounts.memory
amount_of amounts EphemeralStorage = amounts.ephemeral_storage

-- requests and limits, as they are written
pub record Resources : Type 0 where
  pub requests : Amounts
  pub limits : Amounts

abbrev pub no_resources : Resources
no_resources = record { requests = nothing; limits = nothing }

-- the test of it: a request above a limit is no zero itself
abbrev pub is_above : Option ℕ → Option ℕ → Bool
is_above None limit = false
is_above (Some request) None = false
is_above (Some request) (Some limit) = nat_lt 0 limit && nat_lt limit request

-- a request of the three is above its limit
abbrev pub some_above : Amounts → Amounts → Bool
some_above requests limits =
    is_above requests.cpu limits.cpu || is_above requests.memory limits.memory
    || is_above requests.ephemeral_storage limits.ephemeral_storage
