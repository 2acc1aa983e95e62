-- A tick goes back exactly where some container's listing does.
use Rattle.std.proofs.Common.{◌≡◌, ◌⊎◌, ℕ, suc, ◌+◌, ◌||◌, not, Bool, true, false, List, [], ◌∷◌, Option, Some, None}
use Rattle.std.proofs.Common.{refl, sym, subst, inl, inr, arith}
use Rattle.std.specs.Prelude.{slice_get, option_and_then}
use Rattle.std.specs.Option.{option_flatten}
use Rattle.std.proofs.lemmas.Bool.{cases_Bool}
use Rattle.state_diff.specs.declared.seen.Seen.{Seen}
use Rattle.state_diff.specs.rule.Acceptable.{is_acceptable}
use Rattle.state_diff.specs.rule.Instances.{Tick}
use Rattle.state_diff.proofs.Acceptable.{is_acceptable_is}
use Rattle.observations.specs.declared.container.ContainerObs.{ContainerObs}
use Rattle.observations.specs.rule.Pods.{PodObs}
use Rattle.observations.specs.declared.tick.TickObs.{TickObs}
use Rattle.observations.specs.rule.Observations.{history}
use Rattle.observations.specs.state.Observations.{seen_of}
use Rattle.following.specs.rule.Backwards.{some_container_backwards, some_pod_backwards, is_backwards}
use Rattle.trace.specs.state.Laws.{GoesBack, BackwardsListing}
use Rattle.following.proofs.Forwards.{seen_in_pod, pods_forwards}

-- what is listed of a container, if it may not come next
abbrev Refused : List Tick → Option Seen → Type 0
Refused h entry = (seen : Seen) × (entry ≡ Some seen) × (is_acceptable h entry ≡ false)

refused_entry : (h : List Tick) (entry : Option Seen) → is_acceptable h entry ≡ false → Refused h entry
refused_entry h None e = absurd (cc)
refused_entry h (Some seen) e = (seen, refl, e)

here_or_later : (a rest : Bool) → (a || rest) ≡ true → (a ≡ true) ⊎ (rest ≡ true)
here_or_later true rest e = inl refl
here_or_later false rest e = inr e

unaccepted : (a : Bool) → not a ≡ true → a ≡ false
unaccepted true e = absurd (cc)
unaccepted false e = refl

container_back : (ticks : List TickObs) (pod n : ℕ) (os : List ContainerObs)
    → some_container_backwards ticks pod n os ≡ true
    → (c : ℕ) × Refused (history ticks pod (n + c)) (option_and_then (λ (o : ContainerObs). o.seen) (slice_get os c))
container_back ticks pod n [] e = absurd (cc)
container_back ticks pod n (o ∷ os) e =
    elim (here_or_later (not (is_acceptable (history ticks pod n) o.seen))
    (some_container_backwards ticks pod (n + 1) os) e) [
      | inl here ↦
          let same : n + 0 ≡ n = omega arith in
          let refused = refused_entry (history ticks pod n) o.seen
          (unaccepted (is_acceptable (history ticks pod n) o.seen) here) in
          (0, subst (λ (k : ℕ). Refused (history ticks pod k) o.seen) (sym same) refused)
      | inr rest ↦
          let later = container_back ticks pod (n + 1) os rest in
          let same : n + 1 + later.0 ≡ n + suc later.0 = omega arith in (
            suc later.0,
            subst (λ (k : ℕ). Refused (history ticks pod k)
                (option_and_then (λ (o : ContainerObs). o.seen) (slice_get os later.0))) same later.1,
          )
    ]

pod_later : (ticks : List TickObs) (n : ℕ) (q : Option PodObs) (qs : List (Option PodObs))
    → (p c : ℕ) × Refused (history ticks (n + 1 + p) c) (seen_in_pod (option_flatten (slice_get qs p)) c)
    → (p c : ℕ) × Refused (history ticks (n + p) c) (seen_in_pod (option_flatten (slice_get (q ∷ qs) p)) c)
pod_later ticks n q qs later =
    let same : n + 1 + later.0 ≡ n + suc later.0 = omega arith in (
      suc later.0,
      later.1,
      subst (λ (k : ℕ). Refused (history ticks k later.1)
          (seen_in_pod (option_flatten (slice_get qs later.0)) later.1)) same later.2,
    )

pod_back : (ticks : List TickObs) (n : ℕ) (ps : List (Option PodObs)) → some_pod_backwards ticks n ps ≡ true
    → (p c : ℕ) × Refused (history ticks (n + p) c) (seen_in_pod (option_flatten (slice_get ps p)) c)
pod_back ticks n [] e = absurd (cc)
pod_back ticks n (None ∷ qs) e = pod_later ticks n None qs (pod_back ticks (n + 1) qs e)
pod_back ticks n (Some q ∷ qs) e = elim (here_or_later (some_container_backwards ticks n 0 q.containers)
    (some_pod_backwards ticks (n + 1) qs) e) [
      | inl here ↦
          let found = container_back ticks n 0 q.containers here in
          let same : n + 0 ≡ n = omega arith in
          let place : 0 + found.0 ≡ found.0 = omega arith in (
            0,
            found.0,
            subst (λ (k : ℕ). Refused (history ticks k found.0) (seen_in_pod (Some q) found.0)) (sym same)
                (subst (λ (k : ℕ). Refused (history ticks n k) (seen_in_pod (Some q) found.0)) place found.1),
          )
      | inr rest ↦ pod_later ticks n (Some q) qs (pod_back ticks (n + 1) qs rest)
    ]

goes_back : (ticks : List TickObs) (tick : TickObs) → is_backwards ticks tick ≡ true → GoesBack ticks tick
goes_back ticks tick e =
    let found = pod_back ticks 0 tick.pods e in
    let p = found.0 in
    let c = found.1 in
    let place : 0 + p ≡ p = omega arith in
    let refused = subst (λ (k : ℕ). Refused (history ticks k c) (seen_of tick p c)) place found.2 in
    record {
      pod = p;
      container = c;
      seen = refused.0;
      listed = refused.1;
      behind = λ may.
          let accepted = (is_acceptable_is (history ticks p c) (Some refused.0)).1 may in
          let not_accepted : is_acceptable (history ticks p c) (Some refused.0) ≡ false =
          subst (λ (o : Option Seen). is_acceptable (history ticks p c) o ≡ false) refused.1 refused.2 in
          absurd (cc);
    }

back_goes : (ticks : List TickObs) (tick : TickObs) → GoesBack ticks tick → is_backwards ticks tick ≡ true
back_goes ticks tick is = elim (cases_Bool (is_backwards ticks tick)) [
  | inl back ↦ back
  | inr forth ↦
      let p = is.pod in
      let c = is.container in
      let place : 0 + p ≡ p = omega arith in
      let ok : is_acceptable (history ticks p c) (seen_of tick p c) ≡ true =
      subst (λ (k : ℕ). is_acceptable (history ticks k c) (seen_of tick p c) ≡ true) place
      (pods_forwards ticks 0 tick.pods forth p c) in
      let accepted : is_acceptable (history ticks p c) (Some is.seen) ≡ true =
      subst (λ (o : Option Seen). is_acceptable (history ticks p c) o ≡ true) is.listed ok in
      absurd (is.behind ((is_acceptable_is (history ticks p c) (Some is.seen)).0 accepted))
]

pub backwards_listing : BackwardsListing
backwards_listing ticks tick = (goes_back ticks tick, back_goes ticks tick)
