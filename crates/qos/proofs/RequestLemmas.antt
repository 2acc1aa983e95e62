-- What an effective request covers.
use Rattle.std.proofs.Common.{◌≡◌, ap, ℕ, suc, zero, ◌≤◌, ◌+◌, max, List, [], ◌∷◌, sym, arith}
use Rattle.std.specs.List.{Contains}
use Rattle.std.proofs.lemmas.List.Sums.{sum_by-cons}
use Rattle.manifest.specs.declared.pod.Role.{Role}
use Rattle.manifest.specs.declared.pod.Role.TheVariants.{Init, Sidecar, App}
use Rattle.manifest.specs.declared.pod.ContainerSpec.{ContainerSpec}
use Rattle.manifest.specs.declared.resources.Resource.{Resource}
use Rattle.qos.specs.rule.Container.{requested}
use Rattle.qos.specs.rule.Requests.{for_app_or_sidecar, for_init, requested_by_app_or_sidecar, requested_by_init}
use Rattle.qos.specs.rule.Requests.{sum_of_apps_and_sidecars, greatest_of_inits, effective_request_of}

covers_app : (resource : Resource) (containers : List ContainerSpec) (container : ContainerSpec)
    → Contains containers container
    → requested_by_app_or_sidecar resource container ≤ sum_of_apps_and_sidecars resource containers
covers_app resource [] container w = absurd (omega (arith, w.1))
covers_app resource (c ∷ cs) container (zero, lt, e) =
    let step : sum_of_apps_and_sidecars resource (c ∷ cs) ≡ requested_by_app_or_sidecar resource c +
    sum_of_apps_and_sidecars resource cs = sum_by-cons (requested_by_app_or_sidecar resource) c cs in
    let same : requested_by_app_or_sidecar resource container ≡ requested_by_app_or_sidecar resource c =
    ap (requested_by_app_or_sidecar resource) (sym e) in
    omega (arith, same, step)
covers_app resource (c ∷ cs) container (suc k, lt, e) =
    let step : sum_of_apps_and_sidecars resource (c ∷ cs) ≡ requested_by_app_or_sidecar resource c +
    sum_of_apps_and_sidecars resource cs = sum_by-cons (requested_by_app_or_sidecar resource) c cs in
    let rest : requested_by_app_or_sidecar resource container ≤ sum_of_apps_and_sidecars resource cs =
    covers_app resource cs container (k, omega (arith, lt), e) in
    omega (arith, rest, step)

covers_init : (resource : Resource) (containers : List ContainerSpec) (container : ContainerSpec)
    → Contains containers container
    → requested_by_init resource container ≤ greatest_of_inits resource containers
covers_init resource [] container w = absurd (omega (arith, w.1))
covers_init resource (c ∷ cs) container (zero, lt, e) =
    let same : requested_by_init resource container ≡ requested_by_init resource c = ap (requested_by_init resource)
    (sym e) in
    omega (arith, same)
covers_init resource (c ∷ cs) container (suc k, lt, e) =
    let rest : requested_by_init resource container ≤ greatest_of_inits resource cs =
    covers_init resource cs container (k, omega (arith, lt), e) in
    omega (arith, rest)

pub effective_request_covers : (resource : Resource) (containers : List ContainerSpec) (container : ContainerSpec)
    → Contains containers container
    → requested resource container ≤ effective_request_of resource containers
effective_request_covers resource containers container w =
    there container.role (requested resource container) (sum_of_apps_and_sidecars resource containers)
    (greatest_of_inits resource containers)
    (covers_app resource containers container w) (covers_init resource containers container w)
  where
    there : (role : Role) (n s g : ℕ) → for_app_or_sidecar role n ≤ s → for_init role n ≤ g → n ≤ max s g
    there Init n s g app init = let le : n ≤ g = init in omega arith
    there Sidecar n s g app init = let le : n ≤ s = app in omega arith
    there App n s g app init = let le : n ≤ s = app in omega arith
