-- What its probes make of a container that serves.
use Rattle.std.proofs.Common.{◌≡◌, inl, inr, ℕ, Bool, List, Option, Some, None, subst}
use Rattle.std.specs.Prelude.{◌↔◌, IsTrue, map}
use Rattle.histories.specs.rule.Histories.{HoldsAt, IsFirstMoment}
use Rattle.histories.proofs.First.{IsFirstMoment-unique}
use Rattle.histories.proofs.Picked.{picked_one}
use Rattle.manifest.specs.declared.pod.ContainerSpec.{ContainerSpec}
use Rattle.state_diff.specs.declared.seen.CriState.TheVariants.{Created, Running, Exited}
use Rattle.state_diff.specs.declared.instance.Instance.{Instance}
use Rattle.state_diff.specs.declared.differ.Differ.{Differ}
use Rattle.state_diff.specs.rule.Instances.{Tick, ListedAs, IsNewest, IsState}
use Rattle.state_diff.specs.state.Differ.{IsNewestOf, IsStateOf as IsDifferOf}
use Rattle.state_diff.proofs.Unique.{IsNewest-unique}
use Rattle.probes.specs.rule.Ticks.{Tick as ProbeTick}
use Rattle.probes.specs.state.ProbeSet.{IsStateOf as IsProbeSetOf}
use Rattle.containers.specs.declared.container.Container.{Container}
use Rattle.containers.specs.rule.Ticks.{ContainerTick, listings, BelongsTo, results_of, AreTicksOf, StartsAt, SaysOf}
use Rattle.containers.specs.rule.Probed.{Serves}
use Rattle.containers.specs.state.Container.{IsFollowing, IsStateOf}

-- an instance that is running was listed so
pub runs_at : (h : List Tick) (a : ℕ) → IsState h a Running → (t : ℕ) × ListedAs h a Running t
runs_at h a (inl w) = let e : Running ≡ Exited = w.1 in cc
runs_at h a (inr (none, inl (t, k))) = (t, k.here)
runs_at h a (inr (none, inr w)) = let e : Running ≡ Created = w.1 in cc

-- so the newest one, if it is running, has a start
first_of : (h : List Tick) (P : ℕ → Type 0) (o : Option ℕ) (t : ℕ) → IsFirstMoment h P o → P t → (m : ℕ)
    × IsFirstMoment h P (Some m)
first_of h P None t none p = absurd (none t p)
first_of h P (Some m) t first p = (m, first)

newest_starts : (h : List Tick) (newest : Option Instance) (a t : ℕ) → IsNewestOf h newest → IsNewest h a
    → ListedAs h a Running t
    → (m : ℕ) × IsFirstMoment h (ListedAs h a Running) (Some m)
newest_starts h None a t none n l = absurd (none a n.listed.0 n.listed.1)
newest_starts h (Some i) a t is n l =
    let same : i.attempt ≡ a = IsNewest-unique h i.attempt a is.0 n in
    let P : ℕ → Type 0 = λ b. IsFirstMoment h (ListedAs h b Running) i.start in
    first_of h (ListedAs h a Running) i.start t (subst P same is.1.start) l

pub start_of : (h : List ContainerTick) (d : Differ) (a : ℕ) → IsDifferOf (listings h) d → IsNewest (listings h) a
    → IsState (listings h) a Running
    → (start : ℕ) × StartsAt h a start
start_of h d a is n runs = let w = runs_at (listings h) a runs in newest_starts (listings h) d.newest a w.0 is.newest
    n w.1

-- what is said of an instance says so of its start and of its ticks
pub said : (Q : ℕ → List ProbeTick → Type 0) (h : List ContainerTick) (a start : ℕ) (ticks : List ProbeTick)
    → StartsAt h a start → AreTicksOf h a ticks → SaysOf Q h a → Q start ticks
said Q h a start ticks starts are s =
    let same : Some s.start ≡ Some start = IsFirstMoment-unique (listings h) _ (Some s.start) (Some start) s.starts
    starts in
    let same' : s.start ≡ start = cc in
    let P : ℕ → Type 0 = λ m. Q m s.ticks in
    let R : List ProbeTick → Type 0 = λ ts. Q start ts in
    subst R (picked_one (HoldsAt (BelongsTo a) h) (map results_of h) s.ticks ticks s.are_ticks are)
    (subst P same' s.says)

-- where the container serves, the probe set says it of its instance
pub says_by : (Q : ℕ → List ProbeTick → Type 0) (spec : ContainerSpec) (h : List ContainerTick) (c : Container)
    (b : Bool)
    → IsFollowing spec h c → ((start : ℕ) (ticks : List ProbeTick) → IsProbeSetOf spec.probes start ticks c.probes
    → (IsTrue b ↔ Q start ticks))
    → ((a : ℕ) × Serves spec h a) → (IsTrue b ↔ ((a : ℕ) × Serves spec h a × SaysOf Q h a))
says_by Q spec h c b is by (a, serves) =
    let begun = start_of h c.differ a is.differ serves.newest serves.runs in
    let followed = is.probed a begun.0 serves.newest begun.1 in
    let iff = by begun.0 followed.ticks followed.followed in (
      (λ e. (
        a,
        serves,
        record {
          start = begun.0;
          starts = begun.1;
          ticks = followed.ticks;
          are_ticks = followed.are_ticks;
          says = iff.0 e;
        },
      )),
      (λ (d, serves', s).
          let same : d ≡ a = IsNewest-unique (listings h) d a serves'.newest serves.newest in
          let P : ℕ → Type 0 = λ k. SaysOf Q h k in
          iff.1 (said Q h a begun.0 followed.ticks begun.1 followed.are_ticks (subst P same s))),
    )

-- and where it does not, nothing is said
pub says_none : (Q : ℕ → List ProbeTick → Type 0) (spec : ContainerSpec) (h : List ContainerTick) (b : Bool)
    → (IsTrue b ↔ ((a : ℕ) × Serves spec h a))
    → (((a : ℕ) × Serves spec h a) → ⊥) → (IsTrue b ↔ ((a : ℕ) × Serves spec h a × SaysOf Q h a))
says_none Q spec h b iff none = ((λ e. absurd (none (iff.0 e))), (λ w. absurd (none (w.0, w.1))))

-- the value of a container follows its instances and its probes
pub following : (spec : ContainerSpec) (max_restart_delay : ℕ) (h : List ContainerTick) (c : Container)
    → IsStateOf spec max_restart_delay h c → IsFollowing spec h c
following spec max_restart_delay h c is =
    record { role = is.role; differ = is.differ; follows = is.follows; probed = is.probed }
