-- Whether all containers have ended, one after the other.
use Rattle.std.proofs.Common.{◌≡◌, ℕ, zero, suc, ◌<◌, ◌≤◌, List, [], ◌∷◌, length, drop, refl, arith}
use Rattle.std.specs.Prelude.{◌&&◌, option_and_then, slice_get}
use Rattle.std.specs.List.{list_all}
use Rattle.observations.specs.declared.container.ContainerObs.{ContainerObs}
use Rattle.eviction.specs.rule.Replay.{has_ended}

-- one container decides, and those behind it
pub over_step : (containers : List ContainerObs) (n : ℕ) → n < length containers
    → list_all (λ (c : ContainerObs). has_ended c.seen) (drop n containers)
    ≡ has_ended (option_and_then (λ (c : ContainerObs). c.seen) (slice_get containers n))
    && list_all (λ (c : ContainerObs). has_ended c.seen) (drop (suc n) containers)
over_step [] n lt = absurd (omega arith)
over_step (c ∷ containers) zero lt = refl
over_step (c ∷ containers) (suc n) lt = over_step containers n (omega arith)

pub none_left : (containers : List ContainerObs) (n : ℕ) → length containers ≤ n → drop n containers ≡ []
none_left [] zero le = refl
none_left [] (suc n) le = refl
none_left (c ∷ containers) zero le = absurd (omega arith)
none_left (c ∷ containers) (suc n) le = none_left containers n (omega arith)
