-- Which resources a container may have (Kubernetes, "Resource Management for Pods and Containers").
use Rattle.std.specs.Prelude.{◌≡◌, ℕ, ◌≤◌, ◌<◌, Some}
use Rattle.manifest.specs.declared.resources.Resource.{Resource}
use Rattle.manifest.specs.rule.Resources.{amount_of, Resources}

-- no request is above its limit where both are set; a zero counts as unset
abbrev pub AreWithin : Resources → Type 0
AreWithin resources = (r : Resource) (request limit : ℕ) → amount_of resources.requests r ≡ Some request
    → amount_of resources.limits r ≡ Some limit → 0 < request → 0 < limit → request ≤ limit
