-- A tick that doesn't go back, container by container.
use Rattle.std.proofs.Common.{◌≡◌, ℕ, zero, suc, ◌+◌, ◌||◌, not, true, false, Bool, List, [], ◌∷◌, Option, Some}
use Rattle.std.proofs.Common.{None, refl}
use Rattle.std.proofs.Common.{sym, subst, arith}
use Rattle.std.specs.Prelude.{slice_get, option_and_then}
use Rattle.std.specs.Option.{option_flatten}
use Rattle.std.proofs.lemmas.Bool.{or_parts}
use Rattle.state_diff.specs.declared.seen.Seen.{Seen}
use Rattle.state_diff.specs.rule.Acceptable.{is_acceptable}
use Rattle.observations.specs.declared.container.ContainerObs.{ContainerObs}
use Rattle.observations.specs.rule.Pods.{PodObs}
use Rattle.observations.specs.declared.tick.TickObs.{TickObs}
use Rattle.observations.specs.rule.Observations.{listed_in, history}
use Rattle.following.specs.rule.Backwards.{some_container_backwards, some_pod_backwards}

first_holds : (a rest : Bool) → (not a || rest) ≡ false → (a ≡ true) × (rest ≡ false)
first_holds true rest e = (refl, e)
first_holds false rest e = absurd (cc)

-- of containers none of which goes back, numbered from n on
containers_forwards : (ticks : List TickObs) (pod n : ℕ) (os : List ContainerObs)
    → some_container_backwards ticks pod n os ≡ false
    → (c : ℕ) → is_acceptable (history ticks pod (n + c))
    (option_and_then (λ (o : ContainerObs). o.seen) (slice_get os c)) ≡ true
containers_forwards ticks pod n [] e c = refl
containers_forwards ticks pod n (o ∷ os) e zero =
    let here = (first_holds (is_acceptable (history ticks pod n) o.seen)
    (some_container_backwards ticks pod (n + 1) os) e).0 in
    let same : n + 0 ≡ n = omega arith in
    subst (λ (k : ℕ). is_acceptable (history ticks pod k) o.seen ≡ true) (sym same) here
containers_forwards ticks pod n (o ∷ os) e (suc c) =
    let rest = (first_holds (is_acceptable (history ticks pod n) o.seen)
    (some_container_backwards ticks pod (n + 1) os) e).1 in
    let same : n + 1 + c ≡ n + suc c = omega arith in
    subst (λ (k : ℕ). is_acceptable (history ticks pod k)
    (option_and_then (λ (o : ContainerObs). o.seen) (slice_get os c)) ≡ true) same
    (containers_forwards ticks pod (n + 1) os rest c)

abbrev pub seen_in_pod : Option PodObs → ℕ → Option Seen
seen_in_pod p c = option_and_then (λ (shown : PodObs). listed_in shown c) p

pub pods_forwards : (ticks : List TickObs) (n : ℕ) (shown : List (Option PodObs))
    → some_pod_backwards ticks n shown ≡ false
    → (p c : ℕ) → is_acceptable (history ticks (n + p) c) (seen_in_pod (option_flatten (slice_get shown p)) c) ≡ true
pods_forwards ticks n [] e p c = refl
pods_forwards ticks n (None ∷ qs) e zero c = refl
pods_forwards ticks n (None ∷ qs) e (suc p) c =
    let same : n + 1 + p ≡ n + suc p = omega arith in
    subst (λ (k : ℕ). is_acceptable (history ticks k c) (seen_in_pod (option_flatten (slice_get qs p)) c) ≡ true) same
    (pods_forwards ticks (n + 1) qs e p c)
pods_forwards ticks n (Some q ∷ qs) e zero c =
    let here = containers_forwards ticks n 0 q.containers
    (or_parts (some_container_backwards ticks n 0 q.containers) (some_pod_backwards ticks (n + 1) qs) e).0 c in
    let same : n + 0 ≡ n = omega arith in
    let place : 0 + c ≡ c = omega arith in
    subst (λ (k : ℕ). is_acceptable (history ticks k c) (seen_in_pod (Some q) c) ≡ true) (sym same)
    (subst (λ (k : ℕ). is_acceptable (history ticks n k) (seen_in_pod (Some q) c) ≡ true) place here)
pods_forwards ticks n (Some q ∷ qs) e (suc p) c =
    let rest = (or_parts (some_container_backwards ticks n 0 q.containers) (some_pod_backwards ticks (n + 1) qs) e).1 in
    let same : n + 1 + p ≡ n + suc p = omega arith in
    subst (λ (k : ℕ). is_acceptable (history ticks k c) (seen_in_pod (option_flatten (slice_get qs p)) c) ≡ true) same
    (pods_forwards ticks (n + 1) qs rest p c)
