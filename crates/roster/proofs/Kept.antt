-- What a roster keeps, from call to call.
use Rattle.std.proofs.Common.{◌≡◌, ◌∙◌, ℕ, ◌<◌, List, [], ◌∷◌, ◌++◌, length, Option, Some, None, refl, ap, sym}
use Rattle.std.proofs.Common.{subst}
use Rattle.std.proofs.Common.{arith}
use Rattle.std.specs.Prelude.{bytes_eq, slice_set, if◌then◌else◌}
use Rattle.std.proofs.lemmas.List.{length-append}
use Rattle.std.proofs.lemmas.Option.{slice_get_within}
use Rattle.histories.proofs.Lists.{set_length}
use Rattle.manifest.specs.declared.pod.PodSpec.{PodSpec}
use Rattle.roster.specs.rule.Roll.{key_of_pod, present_keys, number_in}
use Rattle.roster.specs.state.Holders.{HasHeld, AreApart, IsKept}
use Rattle.roster.proofs.Found.{number_there, number_push}
use Rattle.roster.proofs.Present.{present_length, present_push, present_set, apart_push, apart_set, number_without}

pub none_kept : IsKept [] [] [] []
none_kept = record {
  gone_as_many = refl;
  held_as_many = refl;
  found = λ key. refl;
  apart = λ n m key here there. absurd (cc);
}

-- once a pod has arrived
pub kept_with : (pods : List PodSpec) (departures : List (Option ℕ)) (keys new_keys : List (List ℕ))
    (holders new_holders : List (Option ℕ)) (pod : PodSpec) (key : List ℕ) (number : ℕ)
    → IsKept pods departures keys holders → key ≡ key_of_pod pod
    → number_in (present_keys pods departures) key ≡ None → number ≡ length pods
    → HasHeld keys holders key (Some number) new_keys new_holders
    → IsKept (pods ++ pod ∷ []) (departures ++ None ∷ []) new_keys new_holders
kept_with pods departures keys new_keys holders new_holders pod key number kept is new last held = record {
  gone_as_many = omega (
    arith,
    kept.gone_as_many,
    length-append departures (None ∷ []),
    length-append pods (pod ∷ []),
  );
  held_as_many = held.as_many;
  found = λ k.
      held.held k
      ∙ ap (λ (o : Option ℕ). if bytes_eq k key then Some number else o) (kept.found k)
      ∙ ap (λ (n : ℕ). if bytes_eq k key then Some n else number_in ks k) (last ∙ sym (present_length pods departures))
      ∙ sym (ap (λ (all : List (Option (List ℕ))). number_in all k) more ∙ number_push ks key k new);
  apart = subst AreApart (sym more) (apart_push ks key kept.apart new);
}
  where
    ks : List (Option (List ℕ))
    ks = present_keys pods departures

    more : present_keys (pods ++ pod ∷ []) (departures ++ None ∷ []) ≡ ks ++ Some key ∷ []
    more =
        present_push pods departures pod kept.gone_as_many
        ∙ ap (λ (k : List ℕ). ks ++ Some k ∷ []) (sym is)

-- a pod that is found is one of the pods
pub number_within : (pods : List PodSpec) (departures : List (Option ℕ)) (key : List ℕ) (number : ℕ)
    → length departures ≡ length pods → number_in (present_keys pods departures) key ≡ Some number
    → number < length departures
number_within pods departures key number many there =
    let ks = present_keys pods departures in
    let lt = slice_get_within ks number (Some key) (number_there ks key number there) in
    omega (arith, lt, many, present_length pods departures)

-- once one has left
pub kept_without : (pods : List PodSpec) (departures : List (Option ℕ)) (keys new_keys : List (List ℕ))
    (holders new_holders : List (Option ℕ)) (key : List ℕ) (number ticks : ℕ)
    → IsKept pods departures keys holders → number_in (present_keys pods departures) key ≡ Some number
    → HasHeld keys holders key None new_keys new_holders
    → IsKept pods (slice_set departures number (Some ticks)) new_keys new_holders
kept_without pods departures keys new_keys holders new_holders key number ticks kept there held = record {
  gone_as_many = set_length departures number (Some ticks) ∙ kept.gone_as_many;
  held_as_many = held.as_many;
  found = λ k.
      held.held k
      ∙ ap (λ (o : Option ℕ). if bytes_eq k key then None else o) (kept.found k)
      ∙ sym (ap (λ (all : List (Option (List ℕ))). number_in all k) less
      ∙ number_without ks number key k kept.apart (number_there ks key number there));
  apart = subst AreApart (sym less) (apart_set ks number kept.apart);
}
  where
    ks : List (Option (List ℕ))
    ks = present_keys pods departures

    less : present_keys pods (slice_set departures number (Some ticks)) ≡ slice_set ks number None
    less = present_set pods departures number ticks kept.gone_as_many
