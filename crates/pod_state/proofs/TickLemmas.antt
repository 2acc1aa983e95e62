-- The ticks of one container, and what its specification says.
use Rattle.std.proofs.Common.{◌≡◌, ℕ, ◌<◌, List, [], ◌∷◌, ◌++◌, length, get_or, Option, Some, None, refl}
use Rattle.std.proofs.Common.{subst, sym}
use Rattle.std.specs.Prelude.{IsSomeAnd, slice_get, unwrap_or}
use Rattle.std.proofs.lemmas.Option.{slice_get_read, slice_get_within}
use Rattle.histories.specs.rule.Histories.{recorded}
use Rattle.histories.proofs.Places.{project-append}
use Rattle.manifest.specs.declared.pod.ContainerSpec.{ContainerSpec}
use Rattle.manifest.specs.declared.pod.PodSpec.{PodSpec}
use Rattle.pod_state.specs.rule.Pods.{PodEntry, PodTick, ticks_of, unseen, OfSpec}

-- one more tick
pub ticks_more : (h : List PodTick) (x : PodTick) (container : ℕ)
    → ticks_of (h ++ x ∷ []) container ≡ ticks_of h container ++ recorded x.moment
    (unwrap_or (slice_get x.entry.containers container) unseen) ∷ []
ticks_more h x container =
    project-append (λ (entry : PodEntry). unwrap_or (slice_get entry.containers container) unseen) h x

-- what holds of the specification of a container
pub of_spec : (pod : PodSpec) (container : ℕ) (P : ContainerSpec → Type 0) (spec : ContainerSpec)
    → slice_get pod.containers container ≡ Some spec → P spec → OfSpec pod container P
of_spec pod container P spec is holds = subst (λ (o : Option ContainerSpec). IsSomeAnd o P) (sym is) holds

-- one that each specification of the container implies
both : (o : Option ContainerSpec) (P Q : ContainerSpec → Type 0) → ((spec : ContainerSpec) → P spec → Q spec)
    → IsSomeAnd o P → IsSomeAnd o Q
both None P Q f p = p
both (Some spec) P Q f p = f spec p

pub implies : (pod : PodSpec) (container : ℕ) (P Q : ContainerSpec → Type 0)
    → ((spec : ContainerSpec) → P spec → Q spec) → OfSpec pod container P → OfSpec pod container Q
implies pod container P Q f p = both (slice_get pod.containers container) P Q f p

-- the same, where the specification is known to be the one with the number
pub implied_at : (pod : PodSpec) (container : ℕ) (P Q : ContainerSpec → Type 0)
    → ((spec : ContainerSpec) → slice_get pod.containers container ≡ Some spec → P spec → Q spec)
    → OfSpec pod container P → OfSpec pod container Q
implied_at pod container P Q f p = there (slice_get pod.containers container) refl p
  where
    there : (o : Option ContainerSpec) → slice_get pod.containers container ≡ o → IsSomeAnd o P → IsSomeAnd o Q
    there None e p = absurd p
    there (Some spec) e p = f spec e p

-- two that hold of it
and_also : (o : Option ContainerSpec) (P Q R : ContainerSpec → Type 0)
    → ((spec : ContainerSpec) → P spec → Q spec → R spec) → IsSomeAnd o P → IsSomeAnd o Q → IsSomeAnd o R
and_also None P Q R f p q = p
and_also (Some spec) P Q R f p q = f spec p q

pub together : (pod : PodSpec) (container : ℕ) (P Q R : ContainerSpec → Type 0)
    → ((spec : ContainerSpec) → P spec → Q spec → R spec) → OfSpec pod container P → OfSpec pod container Q
    → OfSpec pod container R
together pod container P Q R f p q = and_also (slice_get pod.containers container) P Q R f p q

-- what follows from it, whatever the specification is
out : (o : Option ContainerSpec) (P : ContainerSpec → Type 0) (Q : Type 0) → ((spec : ContainerSpec) → P spec → Q)
    → IsSomeAnd o P → Q
out None P Q f p = absurd p
out (Some spec) P Q f p = f spec p

pub whatever : (pod : PodSpec) (container : ℕ) (P : ContainerSpec → Type 0) (Q : Type 0)
    → ((spec : ContainerSpec) → P spec → Q) → OfSpec pod container P → Q
whatever pod container P Q f p = out (slice_get pod.containers container) P Q f p

-- a container that has a specification is one of the pod's
there : (containers : List ContainerSpec) (container : ℕ) (o : Option ContainerSpec) (P : ContainerSpec → Type 0)
    → slice_get containers container ≡ o → IsSomeAnd o P → container < length containers
there containers container None P e p = absurd p
there containers container (Some spec) P e p = slice_get_within containers container spec e

pub within : (pod : PodSpec) (container : ℕ) (P : ContainerSpec → Type 0) → OfSpec pod container P
    → container < length pod.containers
within pod container P p = there pod.containers container (slice_get pod.containers container) P refl p

-- the specification at a place
pub spec_at : (pod : PodSpec) (n : ℕ) (containers : List ContainerSpec) (spec : ContainerSpec)
    → pod.containers ≡ containers → n < length containers → spec ≡ get_or containers n spec
    → slice_get pod.containers n ≡ Some spec
spec_at pod n containers spec same lt is =
    subst (λ (cs : List ContainerSpec). slice_get cs n ≡ Some spec) (sym same)
    (slice_get_read containers (length containers) n spec refl lt is)
