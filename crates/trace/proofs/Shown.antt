-- What a tick line shows of the pods.
use Rattle.std.proofs.Common.{◌≡◌, ◌∙◌, ℕ, zero, suc, ◌+◌, ◌<◌, true, false, List, [], ◌∷◌, length, Option, Some}
use Rattle.std.proofs.Common.{None, refl, ap, sym, arith}
use Rattle.std.specs.Prelude.{◌↔◌, ⊤, Bool, Ok, IsSome, slice_get, if◌then◌else◌}
use Rattle.std.specs.Option.{option_flatten}
use Rattle.std.proofs.lemmas.List.{length-map}
use Rattle.manifest.specs.declared.pod.ContainerSpec.{ContainerSpec}
use Rattle.manifest.specs.declared.pod.PodSpec.{PodSpec}
use Rattle.observations.specs.rule.Pods.{PodObs}
use Rattle.observations.specs.declared.tick.TickObs.{TickObs}
use Rattle.following.specs.state.Followed.{EndBefore, ComesNext}
use Rattle.tick_lines.specs.declared.line.TickLine.{TickLine}
use Rattle.trace.specs.declared.placing.PlacedEntry.{PlacedEntry}
use Rattle.trace.specs.declared.placing.PlacedListing.{PlacedListing}
use Rattle.trace.specs.declared.placing.PlacedResult.{PlacedResult}
use Rattle.json_fields.specs.rule.Reading.{refused_if}
use Rattle.line_faults.specs.declared.fault.FaultKind.{FaultKind}
use Rattle.roster.specs.rule.Roll.{Roll, is_present}
use Rattle.trace.specs.rule.Observed.{entry_for, listings_of, results_of, pod_observed, pods_from, containers_from}
use Rattle.trace.specs.rule.Observed.{observed}
use Rattle.trace.specs.state.Pod.{container_counts}

pub containers_shown : (ls : List PlacedListing) (rs : List PlacedResult) (n : ℕ) (cs : List ContainerSpec)
    → length (containers_from ls rs n cs) ≡ length cs
containers_shown ls rs n [] = refl
containers_shown ls rs n (c ∷ cs) = ap suc (containers_shown ls rs (n + 1) cs)

pub as_many : (at : ℕ) (es : List PlacedEntry) (departures : List (Option ℕ)) (n : ℕ) (pods : List PodSpec)
    → length (pods_from at es departures n pods) ≡ length pods
as_many at es departures n [] = refl
as_many at es departures n (p ∷ ps) = ap suc (as_many at es departures (n + 1) ps)

-- what is shown of one that is shown if a test holds
shown_is : (test : Bool) (one shown : PodObs) → (if test then Some one else None) ≡ Some shown → one ≡ shown
shown_is true one shown e = cc
shown_is false one shown e = absurd (cc)

shown_if : (test : Bool) (one : PodObs) → (IsSome (if test then Some one else None) ↔ test ≡ true)
shown_if true one = ((λ e. refl), (λ e. refl))
shown_if false one = ((λ e. e), (λ e. e))

pub moment_shown : (at : ℕ) (es : List PlacedEntry) (departures : List (Option ℕ)) (n : ℕ) (pods : List PodSpec)
    (k : ℕ) (shown : PodObs)
    → option_flatten (slice_get (pods_from at es departures n pods) k) ≡ Some shown → shown.at ≡ at
moment_shown at es departures n [] k shown e = absurd (cc)
moment_shown at es departures n (p ∷ ps) zero shown e =
    sym (ap (λ (o : PodObs). o.at) (shown_is (is_present departures n) (pod_observed at (entry_for es n) p) shown e))
moment_shown at es departures n (p ∷ ps) (suc k) shown e = moment_shown at es departures (n + 1) ps k shown e

pub count_shown : (at : ℕ) (es : List PlacedEntry) (departures : List (Option ℕ)) (n : ℕ) (pods : List PodSpec)
    (k : ℕ) (pod : PodSpec) (shown : PodObs) → slice_get pods k ≡ Some pod
    → option_flatten (slice_get (pods_from at es departures n pods) k) ≡ Some shown
    → length shown.containers ≡ length pod.containers
count_shown at es departures n [] k pod shown here e = absurd (cc)
count_shown at es departures n (p ∷ ps) zero pod shown here e =
    let is = shown_is (is_present departures n) (pod_observed at (entry_for es n) p) shown e in
    let same : p ≡ pod = cc in
    sym (ap (λ (o : PodObs). length o.containers) is)
    ∙ containers_shown (listings_of (entry_for es n)) (results_of (entry_for es n)) 0 p.containers
    ∙ ap (λ (q : PodSpec). length q.containers) same
count_shown at es departures n (p ∷ ps) (suc k) pod shown here e =
    count_shown at es departures (n + 1) ps k pod shown here e

-- of the pods exactly those that are present are shown
pub some_shown : (at : ℕ) (es : List PlacedEntry) (departures : List (Option ℕ)) (n : ℕ) (pods : List PodSpec) (k : ℕ)
    → (IsSome (option_flatten (slice_get (pods_from at es departures n pods) k))
    ↔ ((k < length pods) × (is_present departures (n + k) ≡ true)))
some_shown at es departures n [] k = (
  (λ e. let w : false ≡ true = e in absurd (cc)),
  (λ is. let lt = is.0 in absurd (omega (arith, lt))),
)
some_shown at es departures n (p ∷ ps) zero =
    let here : n + 0 ≡ n = omega arith in
    let one = shown_if (is_present departures n) (pod_observed at (entry_for es n) p) in (
      (λ e. (omega arith, ap (is_present departures) here ∙ one.0 e)),
      (λ is. one.1 (ap (is_present departures) (sym here) ∙ is.1)),
    )
some_shown at es departures n (p ∷ ps) (suc k) =
    let there : n + 1 + k ≡ n + suc k = omega arith in
    let rest = some_shown at es departures (n + 1) ps k in (
      (λ e. let w = rest.0 e in
          let lt = w.0 in
          (omega (arith, lt), ap (is_present departures) (sym there) ∙ w.1)),
      (λ is. let lt = is.0 in rest.1 (omega (arith, lt), ap (is_present departures) there ∙ is.1)),
    )

counts_at : (pods : List PodSpec) (k count : ℕ) → slice_get (container_counts pods) k ≡ Some count
    → (pod : PodSpec) × (slice_get pods k ≡ Some pod) × (length pod.containers ≡ count)
counts_at [] k count e = absurd (cc)
counts_at (p ∷ ps) zero count e = (p, refl, let same : length p.containers ≡ count = cc in same)
counts_at (p ∷ ps) (suc k) count e = counts_at ps k count e

-- it may stand behind ticks of these pods that end before it
pub comes_next : (heeds : Bool) (ticks : List TickObs) (at : ℕ) (written : TickLine) (es : List PlacedEntry)
    (roll : Roll)
    → EndBefore ticks at
    → ComesNext ticks (container_counts roll.pods) (observed heeds at written es roll)
comes_next heeds ticks at written es roll later =
    record {
      as_many = as_many at es roll.departures 0 roll.pods
          ∙ sym (length-map roll.pods (λ (p : PodSpec). length p.containers));
      containers = λ k count shown here is.
          let pod = counts_at roll.pods k count here in
          count_shown at es roll.departures 0 roll.pods k pod.0 shown pod.1 is ∙ pod.2;
      moment = moment_shown at es roll.departures 0 roll.pods;
      later = later;
    }

-- a test that refused nothing
pub went_on : (test : Bool) (kind : FaultKind) (u : ⊤) → refused_if test kind ≡ Ok u → test ≡ false
went_on true kind u e = absurd (cc)
went_on false kind u e = refl
