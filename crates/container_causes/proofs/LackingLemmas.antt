-- What the newest instance lacks.
use Rattle.std.proofs.Common.{◌≡◌, inl, inr, ℕ, true, false, List, Option, Some, None, refl, subst}
use Rattle.std.specs.Prelude.{◌↔◌, ◌⊎◌, ◌≢◌, Bool, IsTrue, IsSome}
use Rattle.histories.specs.rule.Histories.{IsFirst, IsFirstMoment}
use Rattle.manifest.specs.declared.pod.ContainerSpec.{ContainerSpec}
use Rattle.manifest.specs.declared.pod.Role.TheVariants.{Init}
use Rattle.state_diff.specs.declared.seen.CriState.TheVariants.{Running}
use Rattle.state_diff.specs.rule.Instances.{Tick, ListedAs, Ends, IsNewest}
use Rattle.state_diff.proofs.Unique.{IsNewest-unique}
use Rattle.probes.specs.rule.Ticks.{Tick as ProbeTick}
use Rattle.containers.specs.rule.Ticks.{ContainerTick, listings, SaysOf}
use Rattle.containers.specs.rule.Probed.{Serves}
use Rattle.container_causes.specs.rule.Lacking.{HasStart, HasExit}
use Rattle.container_causes.specs.state.Watched.{RunsOn}

-- a first moment tells whether there is a place
first_some : (k : List Tick) (P : ℕ → Type 0) (o : Option ℕ) → IsFirstMoment k P o
    → (IsSome o ↔ ((t : ℕ) × IsFirst P t))
first_some k P None none = ((λ some. absurd (cc)), (λ w. absurd (none w.0 w.1.holds)))
first_some k P (Some m) (t, first, e) = ((λ some. (t, first)), (λ w. refl))

abbrev pub Exited : List ContainerTick → ℕ → Option ℕ → Type 0
Exited h a at = IsFirstMoment (listings h) (Ends (listings h) a) at

abbrev pub Started : List ContainerTick → ℕ → Option ℕ → Type 0
Started h a at = IsFirstMoment (listings h) (ListedAs (listings h) a Running) at

pub start_lacked : (h : List ContainerTick) (a : ℕ) (exited_at start : Option ℕ) (b : Bool) → Exited h a exited_at
    → Started h a start → (IsTrue b ↔ (IsSome exited_at ⊎ (IsSome start → ⊥)))
    → (IsTrue b ↔ (HasExit h a ⊎ (HasStart h a → ⊥)))
start_lacked h a exited_at start b exits starts iff =
    let e = first_some (listings h) (Ends (listings h) a) exited_at exits in
    let s = first_some (listings h) (ListedAs (listings h) a Running) start starts in (
      (λ t. elim (iff.0 t) [ inl x ↦ inl (e.0 x) | inr n ↦ inr (λ w. n (s.1 w)) ]),
      (λ q. iff.1 (elim q [ inl x ↦ inl (e.1 x) | inr n ↦ inr (λ w. n (s.0 w)) ])),
    )

-- the newest instance serves as its probes say
pub probe_lacked : (Q : ℕ → List ProbeTick → Type 0) (spec : ContainerSpec) (h : List ContainerTick) (a : ℕ)
    (exited_at : Option ℕ) (given : Type 0) (done b : Bool) → RunsOn h → spec.role ≢ Init → IsNewest (listings h) a
    → Exited h a exited_at
    → (IsTrue done ↔ ((IsTrue false → ⊥) × ((n : ℕ) × Serves spec h n × SaysOf Q h n)))
    → (IsTrue b ↔ ((IsSome exited_at → ⊥) × given × (IsTrue done → ⊥)))
    → (IsTrue b ↔ ((HasExit h a → ⊥) × given × (SaysOf Q h a → ⊥)))
probe_lacked Q spec h a exited_at given done b runs role newest exits shown iff =
    let e = first_some (listings h) (Ends (listings h) a) exited_at exits in (
      (λ t.
          let w = iff.0 t in
          let lives : HasExit h a → ⊥ = λ x. w.0 (e.1 x) in (
            lives,
            w.1,
            (λ s. w.2 (shown.1 (
              (λ f. let g : false ≡ true = f in cc),
              (
                a,
                record {
                  role = role;
                  newest = newest;
                  runs = runs a s.start newest s.starts (λ t x. lives (t, x));
                },
                s,
              ),
            ))),
          )),
      (λ w. iff.1 (
        (λ x. w.0 (e.0 x)),
        w.1,
        (λ d.
            let (n, serves, says) = (shown.0 d).1 in
            let same : n ≡ a = IsNewest-unique (listings h) n a serves.newest newest in
            w.2 (subst (λ (m : ℕ). SaysOf Q h m) same says)),
      )),
    )
