-- Which listings led to the events of an instance: that it is no longer listed, that it starts, that it exits. Each is
-- said of the tick and of the tick before it. (Kubernetes, "Pod Lifecycle", "Container states"; Container Runtime
-- Interface, `ContainerState`.)
use Rattle.std.specs.Prelude.{◌≡◌, ℤ, List, [], ◌∷◌, ◌++◌, length, Option, Some, None, IsSomeAnd, option_map}
use Rattle.histories.specs.rule.Histories.{IsFirstMoment}
use Rattle.state_diff.specs.declared.seen.Seen.{Seen}
use Rattle.state_diff.specs.declared.seen.CriState.TheVariants.{Running}
use Rattle.state_diff.specs.rule.Instances.{IsOfAs, ListedAs, IsRun, killed_code}
use Rattle.containers.specs.declared.pod_event_kind.PodEventKind.TheVariants.{Died, Started}
use Rattle.containers.specs.rule.Ticks.{ContainerTick, listings}
use Rattle.containers.specs.rule.Events.{IsGone, HasStarted, HasDied}
use Rattle.container_causes.specs.declared.listing_causes.Unlisted.{Unlisted}
use Rattle.container_causes.specs.declared.listing_causes.Listed.{Listed}
use Rattle.container_causes.specs.declared.listing_causes.Exited.{Exited}

-- the last of these ticks, if there is one
abbrev pub IsLastTick : List ContainerTick → Option ContainerTick → Type 0
IsLastTick h None = h ≡ []
IsLastTick h (Some x) = (front : List ContainerTick) × (h ≡ front ++ x ∷ [])

-- an instance that the tick before listed, in this state, is no longer listed in tick x; what x lists in its place
pub record IsUnlisted (h : List ContainerTick) (x : ContainerTick) (cause : Unlisted) : Type 0 where
  pub gone : IsGone (h ++ x ∷ []) (length h) (Died cause.attempt killed_code)
  pub instead : cause.instead ≡ option_map (λ (s : Seen). s.attempt) x.entry.seen
  pub last : ContainerTick
  pub is_last : IsLastTick h (Some last)
  pub before : cause.before ≡ last.moment
  pub was : IsSomeAnd last.entry.seen (IsOfAs cause.attempt cause.state)

-- an instance starts in tick x; what the tick before listed of the container, if there is one
pub record IsListed (h : List ContainerTick) (x : ContainerTick) (cause : Listed) : Type 0 where
  pub started : HasStarted (h ++ x ∷ []) (length h) (Started cause.attempt)
  pub last : Option ContainerTick
  pub is_last : IsLastTick h last
  pub before : cause.before ≡ option_map (λ (t : ContainerTick). t.moment) last
  pub was : cause.was ≡ option_map (λ (t : ContainerTick). t.entry.seen) last

-- an instance exits with the code in tick x, which lists it; its start, if some tick listed it as running, and its run
pub record IsExited (h : List ContainerTick) (x : ContainerTick) (code : ℤ) (cause : Exited) : Type 0 where
  pub died : HasDied (h ++ x ∷ []) (length h) (Died cause.attempt code)
  pub starts : IsFirstMoment (listings (h ++ x ∷ [])) (ListedAs (listings (h ++ x ∷ [])) cause.attempt Running) cause.start
  pub run : IsRun (listings (h ++ x ∷ [])) cause.attempt cause.run
