-- Every list of containers is of a class.
use Rattle.std.proofs.Common.{◌≡◌, inl, inr, ℕ, List, [], ◌∷◌, Option, Some, None, refl, ap, subst, sym, ◌∙◌, arith}
use Rattle.std.specs.Prelude.{All, IsSome}
use Rattle.std.proofs.lemmas.Bool.Decides.{eqb_tells}
use Rattle.histories.proofs.Decide.{OrNot, both, either, all_or_not, any_or_not}
use Rattle.manifest.specs.declared.pod.ContainerSpec.{ContainerSpec}
use Rattle.manifest.specs.declared.pod.PodSpec.{PodSpec}
use Rattle.manifest.specs.declared.resources.Resource.{Resource}
use Rattle.manifest.specs.declared.resources.Resource.TheVariants.{Cpu, Memory}
use Rattle.qos.specs.declared.class.Qos.{Qos}
use Rattle.qos.specs.declared.class.Qos.TheVariants.{Guaranteed, Burstable, BestEffort}
use Rattle.qos.specs.rule.Container.{own_request_of, limit_of, request_of, RequestEqualsLimit, IsGuaranteed}
use Rattle.qos.specs.rule.Container.{HasRequestOrLimit, HasSomeRequestOrLimit}
use Rattle.qos.specs.rule.Class.{IsOfClass}
use Rattle.qos.specs.rule.Pod.{as_one, IsPodClass}

equals_or_not : (resource : Resource) (container : ContainerSpec) → OrNot (RequestEqualsLimit resource container)
equals_or_not resource container = there (limit_of container resource) (request_of container resource)
  where
    there : (o p : Option ℕ) → OrNot ((limit : ℕ) × (o ≡ Some limit) × (p ≡ Some limit))
    there None p = inr (λ w. let e : None ≡ Some w.0 = w.1 in cc)
    there (Some n) None = inr (λ w. let e : None ≡ Some w.0 = w.2 in cc)
    there (Some n) (Some m) = elim (eqb_tells m n) [
      | inl same ↦ inl (n, refl, ap (λ k. Some k) same.1)
      | inr other ↦ inr (λ w. other.1 (let e : Some n ≡ Some w.0 = w.1 in let f : Some m ≡ Some w.0 = w.2 in
          let g : n ≡ w.0 = cc in let h : m ≡ w.0 = cc in h ∙ sym g))
    ]

guaranteed_or_not : (container : ContainerSpec) → OrNot (IsGuaranteed container)
unfolding IsGuaranteed
guaranteed_or_not container = both (equals_or_not Cpu container) (equals_or_not Memory container)

some_or_not : (o : Option ℕ) → OrNot (IsSome o)
some_or_not None = inr (λ w. let e : IsSome {T = ℕ} None = w in cc)
some_or_not (Some n) = inl refl

has_or_not : (resource : Resource) (container : ContainerSpec) → OrNot (HasRequestOrLimit resource container)
has_or_not resource container = either (some_or_not (own_request_of container resource))
    (some_or_not (limit_of container resource))

has_some_or_not : (container : ContainerSpec) → OrNot (HasSomeRequestOrLimit container)
has_some_or_not container = either (has_or_not Cpu container) (has_or_not Memory container)

pub some_class : (containers : List ContainerSpec) → (class : Qos) × IsOfClass containers class
some_class containers = elim (all_or_not IsGuaranteed guaranteed_or_not containers) [
  | inl all ↦ (Guaranteed, all)
  | inr not_all ↦ elim (any_or_not HasSomeRequestOrLimit has_some_or_not containers) [
    | inl some ↦ (Burstable, (not_all, some))
    | inr none ↦ (BestEffort, (not_all, none))
  ]
]

pub one_class : (containers : List ContainerSpec) (class other : Qos) → IsOfClass containers class
    → IsOfClass containers other → class ≡ other
one_class containers Guaranteed Guaranteed p q = refl
one_class containers Guaranteed Burstable p q = absurd (q.0 p)
one_class containers Guaranteed BestEffort p q = absurd (q.0 p)
one_class containers Burstable Guaranteed p q = absurd (p.0 q)
one_class containers Burstable Burstable p q = refl
one_class containers Burstable BestEffort p q = absurd (q.1 p.1)
one_class containers BestEffort Guaranteed p q = absurd (p.0 q)
one_class containers BestEffort Burstable p q = absurd (p.1 q.1)
one_class containers BestEffort BestEffort p q = refl

-- what is guaranteed asks for something
guaranteed_has_some : (container : ContainerSpec) → IsGuaranteed container → HasSomeRequestOrLimit container
unfolding IsGuaranteed
guaranteed_has_some container g = inl (inr (there (limit_of container Cpu) g.0.0 g.0.1))
  where
    there : (o : Option ℕ) (n : ℕ) → o ≡ Some n → IsSome o
    there None n e = cc
    there (Some m) n e = refl

pub nothing_asked : (container : ContainerSpec) (others : List ContainerSpec)
    → All (λ c. HasSomeRequestOrLimit c → ⊥) (container ∷ others) → IsOfClass (container ∷ others) BestEffort
nothing_asked container others none = (
  (λ all. none 0 container (omega arith) (guaranteed_has_some container (all 0 container (omega arith)))),
  (λ any. none any.0 any.1 any.2 (subst HasSomeRequestOrLimit (sym any.3) any.4)),
)

pub some_pod_class : (pod : PodSpec) → (class : Qos) × IsPodClass pod class
some_pod_class pod = elim (has_some_or_not (as_one pod.resources)) [
  | inl own ↦ let s = some_class (as_one pod.resources ∷ []) in (s.0, inl (own, s.1))
  | inr none ↦ let s = some_class pod.containers in (s.0, inr (none, s.1))
]

pub one_pod_class : (pod : PodSpec) (class other : Qos) → IsPodClass pod class → IsPodClass pod other → class ≡ other
one_pod_class pod class other (inl p) (inl q) = one_class (as_one pod.resources ∷ []) class other p.1 q.1
one_pod_class pod class other (inl p) (inr q) = absurd (q.0 p.0)
one_pod_class pod class other (inr p) (inl q) = absurd (p.0 q.0)
one_pod_class pod class other (inr p) (inr q) = one_class pod.containers class other p.1 q.1
