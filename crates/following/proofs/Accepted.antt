-- A tick whose listings the differs accept doesn't go back, and no other does.
use Rattle.std.proofs.Common.{◌≡◌, ◌∙◌, ℕ, zero, suc, ◌+◌, ◌<◌, ◌≤◌, ◌||◌, not, Bool, true, false, List, [], ◌∷◌}
use Rattle.std.proofs.Common.{length, get_or, Option, Some, None, refl, ap, sym, subst, inl, inr, arith}
use Rattle.std.specs.Prelude.{◌↔◌, IsTrue, slice_get, option_and_then, Vec}
use Rattle.std.specs.Global.{Global}
use Rattle.std.specs.Option.{option_flatten}
use Rattle.std.proofs.lemmas.Bool.{cases_lt, or_from}
use Rattle.histories.proofs.Items.{any_default}
use Rattle.histories.proofs.Lists.{some_item}
use Rattle.state_diff.specs.declared.seen.Seen.{Seen}
use Rattle.state_diff.specs.declared.differ.Differ.{Differ}
use Rattle.state_diff.specs.rule.Acceptable.{is_acceptable}
use Rattle.state_diff.specs.state.Differ.{IsStateOf, Accepts}
use Rattle.state_diff.specs.rule.Instances.{Tick}
use Rattle.state_diff.proofs.Acceptable.{is_acceptable_is}
use Rattle.state_diff.proofs.Steps.{is_before}
use Rattle.observations.specs.declared.container.ContainerObs.{ContainerObs}
use Rattle.observations.specs.rule.Pods.{PodObs}
use Rattle.observations.specs.declared.tick.TickObs.{TickObs}
use Rattle.observations.specs.rule.Observations.{shown_of, history}
use Rattle.observations.specs.state.Observations.{seen_of}
use Rattle.observations.proofs.OwnTicks.{seen_shown, seen_nowhere}
use Rattle.following.specs.rule.Backwards.{some_container_backwards, some_pod_backwards, is_backwards}
use Rattle.following.specs.state.Followed.{counts_of, AreFollowed, ComesNext}
use Rattle.following.specs.state.Steps.{PodsAreAccepted, PodsFollow}
use Rattle.following.proofs.Forwards.{seen_in_pod, pods_forwards}

-- what is shown of a pod stands at its number
pub shown_within : (shown : List (Option PodObs)) (n : ℕ) (observed : PodObs)
    → option_flatten (slice_get shown n) ≡ Some observed → n < length shown
shown_within [] n observed is = absurd (cc)
shown_within (o ∷ os) zero observed is = omega arith
shown_within (o ∷ os) (suc n) observed is = let lt = shown_within os n observed is in omega (arith, lt)

-- nothing is listed past the containers
none_past : (os : List ContainerObs) (c : ℕ) → length os ≤ c
    → option_and_then (λ (o : ContainerObs). o.seen) (slice_get os c) ≡ None
none_past [] c le = refl
none_past (o ∷ os) zero le = absurd (omega arith)
none_past (o ∷ os) (suc c) le = none_past os c (omega arith)

count_at : (differs : List (Vec Differ Global)) (p : ℕ) (ds : Vec Differ Global) → p < length differs
    → slice_get (counts_of differs) p ≡ Some (length (get_or differs p ds).items)
count_at [] p ds lt = absurd (omega arith)
count_at (x ∷ xs) zero ds lt = refl
count_at (x ∷ xs) (suc p) ds lt = count_at xs p ds (omega (arith, lt))

-- a differ for each container follows it, and so nothing is listed without one
unlisted : (counts : List ℕ) (tick : TickObs) (ticks : List TickObs) (differs : List (Vec Differ Global)) (p c : ℕ)
    → ComesNext ticks counts tick → counts_of differs ≡ counts → length counts ≡ length differs
    → ((ds : Vec Differ Global) → p < length differs → c < length (get_or differs p ds).items → ⊥)
    → seen_of tick p c ≡ None
unlisted counts tick ticks differs p c comes same long out = by (shown_of tick p) refl
  where
    by : (o : Option PodObs) → shown_of tick p ≡ o → seen_of tick p c ≡ None
    by None none = seen_nowhere tick p c none
    by (Some shown) is =
        let lt : p < length tick.pods = shown_within tick.pods p shown is in
        let within : p < length differs = omega (arith, lt, comes.as_many, long) in
        let ds = some_item differs p within in
        let count : slice_get counts p ≡ Some (length (get_or differs p ds).items) =
        ap (λ (ks : List ℕ). slice_get ks p) (sym same) ∙ count_at differs p ds within in
        let many : length shown.containers ≡ length (get_or differs p ds).items =
        comes.containers p (length (get_or differs p ds).items) shown count is in
        elim (cases_lt c (length (get_or differs p ds).items)) [
          | inl inside ↦ absurd (out ds within inside)
          | inr past ↦ seen_shown tick p c shown is ∙ none_past shown.containers c (omega (arith, many, past))
        ]

goes_on : (a rest : Bool) → a ≡ true → rest ≡ false → (not a || rest) ≡ false
goes_on true rest e f = f
goes_on false rest e f = absurd (cc)

containers_accept : (ticks : List TickObs) (pod n : ℕ) (os : List ContainerObs)
    → ((c : ℕ) → is_acceptable (history ticks pod (n + c))
    (option_and_then (λ (o : ContainerObs). o.seen) (slice_get os c)) ≡ true)
    → some_container_backwards ticks pod n os ≡ false
containers_accept ticks pod n [] f = refl
containers_accept ticks pod n (o ∷ os) f =
    let same : n + 0 ≡ n = omega arith in
    let here : is_acceptable (history ticks pod n) o.seen ≡ true =
    subst (λ (k : ℕ). is_acceptable (history ticks pod k) o.seen ≡ true) same (f zero) in
    let rest = containers_accept ticks pod (n + 1) os (λ c.
    let next : n + suc c ≡ n + 1 + c = omega arith in
    subst (λ (k : ℕ). is_acceptable (history ticks pod k)
    (option_and_then (λ (o : ContainerObs). o.seen) (slice_get os c)) ≡ true) next (f (suc c))) in
    goes_on (is_acceptable (history ticks pod n) o.seen) (some_container_backwards ticks pod (n + 1) os) here rest

pods_accept : (ticks : List TickObs) (n : ℕ) (shown : List (Option PodObs))
    → ((p c : ℕ) → is_acceptable (history ticks (n + p) c) (seen_in_pod (option_flatten (slice_get shown p)) c) ≡ true)
    → some_pod_backwards ticks n shown ≡ false
pods_accept ticks n [] f = refl
pods_accept ticks n (None ∷ qs) f = pods_accept ticks (n + 1) qs (λ p c.
    let next : n + suc p ≡ n + 1 + p = omega arith in
    subst (λ (k : ℕ). is_acceptable (history ticks k c) (seen_in_pod (option_flatten (slice_get qs p)) c) ≡ true) next
    (f (suc p) c))
pods_accept ticks n (Some q ∷ qs) f =
    let same : n + 0 ≡ n = omega arith in
    let here = containers_accept ticks n 0 q.containers (λ c.
    let place : c ≡ 0 + c = omega arith in
    subst (λ (k : ℕ). is_acceptable (history ticks n k) (seen_in_pod (Some q) c) ≡ true) place
    (subst (λ (k : ℕ). is_acceptable (history ticks k c) (seen_in_pod (Some q) c) ≡ true) same (f zero c))) in
    let rest = pods_accept ticks (n + 1) qs (λ p c.
    let next : n + suc p ≡ n + 1 + p = omega arith in
    subst (λ (k : ℕ). is_acceptable (history ticks k c) (seen_in_pod (option_flatten (slice_get qs p)) c) ≡ true) next
    (f (suc p) c)) in
    or_from (some_container_backwards ticks n 0 q.containers) (some_pod_backwards ticks (n + 1) qs) here rest

-- an accepted listing, by the differ and by the history
by_history : (h : List Tick) (d : Differ) (seen : Option Seen) → IsStateOf h d → Accepts d seen
    → is_acceptable h seen ≡ true
by_history h d seen is accepted = (is_acceptable_is h seen).1 ((is.accepts seen).0 accepted)

by_differ : (h : List Tick) (d : Differ) (seen : Option Seen) → IsStateOf h d → is_acceptable h seen ≡ true
    → Accepts d seen
by_differ h d seen is acceptable = (is.accepts seen).1 ((is_acceptable_is h seen).0 acceptable)

as_many : (ticks : List TickObs) (counts : List ℕ) (differs : List (Vec Differ Global))
    → AreFollowed ticks counts differs → length counts ≡ length differs
as_many ticks counts differs all = ap length (sym all.as_many) ∙ counted differs
  where
    counted : (xs : List (Vec Differ Global)) → length (counts_of xs) ≡ length xs
    counted [] = refl
    counted (x ∷ xs) = ap suc (counted xs)

-- where every differ accepts the tick, it doesn't go back
pub forwards : (ticks : List TickObs) (tick : TickObs) (counts : List ℕ) (differs : List (Vec Differ Global))
    → ComesNext ticks counts tick → AreFollowed ticks counts differs
    → PodsAreAccepted tick differs (length differs) → is_backwards ticks tick ≡ false
forwards ticks tick counts differs comes all accepted = pods_accept ticks 0 tick.pods (λ p c.
    let place : p ≡ 0 + p = omega arith in
    subst (λ (k : ℕ). is_acceptable (history ticks k c) (seen_of tick p c) ≡ true) place (each p c))
  where
    unseen : (p c : ℕ) → ((ds : Vec Differ Global) → p < length differs → c < length (get_or differs p ds).items → ⊥)
        → is_acceptable (history ticks p c) (seen_of tick p c) ≡ true
    unseen p c out =
        let none = unlisted counts tick ticks differs p c comes all.as_many (as_many ticks counts differs all) out in
        rw none refl

    listed : (p c : ℕ) (ds : Vec Differ Global) → p < length differs
        → is_acceptable (history ticks p c) (seen_of tick p c) ≡ true
    listed p c ds lt = elim (cases_lt c (length (get_or differs p ds).items)) [
      | inl within ↦
          let d = some_item (get_or differs p ds).items c within in
          by_history (history ticks p c) (get_or (get_or differs p ds).items c d) (seen_of tick p c)
          (all.each p c ds d lt within) (accepted p ds lt c d within)
      | inr ge ↦ unseen p c (λ es a b.
          let same = ap (λ (v : Vec Differ Global). length v.items) (any_default differs p es ds a) in
          omega (arith, b, ge, same))
    ]

    each : (p c : ℕ) → is_acceptable (history ticks p c) (seen_of tick p c) ≡ true
    each p c = elim (cases_lt p (length differs)) [
      | inl lt ↦ listed p c (some_item differs p lt) lt
      | inr ge ↦ unseen p c (λ ds a b. omega (arith, a, ge))
    ]

-- where it doesn't go back, every differ accepts it
pub all_accept : (ticks : List TickObs) (tick : TickObs) (counts : List ℕ) (differs : List (Vec Differ Global))
    → AreFollowed ticks counts differs → is_backwards ticks tick ≡ false
    → PodsAreAccepted tick differs (length differs)
all_accept ticks tick counts differs all forth p ds lt c d within =
    let place : 0 + p ≡ p = omega arith in
    let ok : is_acceptable (history ticks p c) (seen_of tick p c) ≡ true =
    subst (λ (k : ℕ). is_acceptable (history ticks k c) (seen_of tick p c) ≡ true) place
    (pods_forwards ticks 0 tick.pods forth p c) in
    by_differ (history ticks p c) (get_or (get_or differs p ds).items c d) (seen_of tick p c)
    (all.each p c ds d lt within) ok

pub tells : (ticks : List TickObs) (tick : TickObs) (counts : List ℕ) (differs : List (Vec Differ Global))
    (test : Bool) → (IsTrue test ↔ PodsAreAccepted tick differs (length differs))
    → AreFollowed ticks counts differs → ComesNext ticks counts tick
    → (IsTrue test ↔ is_backwards ticks tick ≡ false)
tells ticks tick counts differs test says all comes = (
  (λ t. forwards ticks tick counts differs comes all (says.0 t)),
  (λ forth. says.1 (all_accept ticks tick counts differs all forth)),
)

-- and may follow it
pub all_follow : (ticks : List TickObs) (tick : TickObs) (counts : List ℕ) (differs : List (Vec Differ Global))
    → AreFollowed ticks counts differs → ComesNext ticks counts tick → is_backwards ticks tick ≡ false
    → PodsFollow tick differs
all_follow ticks tick counts differs all comes forth p ds lt shown c d within = record {
  accepted = all_accept ticks tick counts differs all forth p ds lt c d within;
  later = is_before (history ticks p c) (get_or (get_or differs p ds).items c d) tick.at (all.each p c ds d lt within)
      (all.of_pods.in_time p c tick.at comes.later);
}
