-- The keys of the pods that are present, after one arrives and after one leaves.
use Rattle.std.proofs.Common.{◌≡◌, ◌∙◌, ℕ, zero, suc, Bool, true, false, List, [], ◌∷◌, ◌++◌, length, Option, Some}
use Rattle.std.proofs.Common.{None, refl, ap, sym, subst, inl, inr, arith}
use Rattle.std.specs.Prelude.{bytes_eq, slice_get, slice_set, if◌then◌else◌}
use Rattle.histories.proofs.Lists.{place_split, set_split}
use Rattle.manifest.specs.declared.pod.PodSpec.{PodSpec}
use Rattle.roster.specs.rule.Roll.{key_of_pod, present_keys, number_in}
use Rattle.roster.specs.state.Holders.{AreApart}
use Rattle.roster.proofs.Found.{same_key, number_there, number_given, number_blank}

pub present_length : (pods : List PodSpec) (departures : List (Option ℕ))
    → length (present_keys pods departures) ≡ length pods
present_length [] ds = refl
present_length (p ∷ ps) [] = ap suc (present_length ps [])
present_length (p ∷ ps) (None ∷ ds) = ap suc (present_length ps ds)
present_length (p ∷ ps) (Some t ∷ ds) = ap suc (present_length ps ds)

pub present_push : (pods : List PodSpec) (departures : List (Option ℕ)) (pod : PodSpec)
    → length departures ≡ length pods
    → present_keys (pods ++ pod ∷ []) (departures ++ None ∷ []) ≡ present_keys pods departures
    ++ Some (key_of_pod pod) ∷ []
present_push [] [] pod long = refl
present_push [] (d ∷ ds) pod long = absurd (omega arith)
present_push (p ∷ ps) [] pod long = absurd (omega arith)
present_push (p ∷ ps) (None ∷ ds) pod long =
    ap (λ (ks : List (Option (List ℕ))). Some (key_of_pod p) ∷ ks) (present_push ps ds pod (omega (arith, long)))
present_push (p ∷ ps) (Some t ∷ ds) pod long =
    ap (λ (ks : List (Option (List ℕ))). None ∷ ks) (present_push ps ds pod (omega (arith, long)))

pub present_set : (pods : List PodSpec) (departures : List (Option ℕ)) (n ticks : ℕ)
    → length departures ≡ length pods
    → present_keys pods (slice_set departures n (Some ticks)) ≡ slice_set (present_keys pods departures) n None
present_set [] [] n ticks long = refl
present_set [] (d ∷ ds) n ticks long = absurd (omega arith)
present_set (p ∷ ps) [] n ticks long = absurd (omega arith)
present_set (p ∷ ps) (None ∷ ds) zero ticks long = refl
present_set (p ∷ ps) (Some t ∷ ds) zero ticks long = refl
present_set (p ∷ ps) (None ∷ ds) (suc n) ticks long =
    ap (λ (ks : List (Option (List ℕ))). Some (key_of_pod p) ∷ ks) (present_set ps ds n ticks (omega (arith, long)))
present_set (p ∷ ps) (Some t ∷ ds) (suc n) ticks long =
    ap (λ (ks : List (Option (List ℕ))). None ∷ ks) (present_set ps ds n ticks (omega (arith, long)))

pub apart_push : (keys : List (Option (List ℕ))) (last : List ℕ) → AreApart keys → number_in keys last ≡ None
    → AreApart (keys ++ Some last ∷ [])
apart_push keys last apart new n m key here there =
    elim (place_split keys (Some last) (Some key) n here) [
      | inl a ↦ elim (place_split keys (Some last) (Some key) m there) [
        | inl b ↦ apart n m key a b
        | inr b ↦ absurd (never n key a b.1)
      ]
      | inr a ↦ elim (place_split keys (Some last) (Some key) m there) [
        | inl b ↦ absurd (never m key b a.1)
        | inr b ↦ a.0 ∙ sym b.0
      ]
    ]
  where
    never : (n : ℕ) (key : List ℕ) → slice_get keys n ≡ Some (Some key) → Some last ≡ Some key → ⊥
    never n key at is =
        let same : last ≡ key = cc in
        let w = number_given keys key n at in
        let none : number_in keys key ≡ None = ap (number_in keys) (sym same) ∙ new in
        let both : Some w.0 ≡ None = sym w.1 ∙ none in cc

pub apart_set : (keys : List (Option (List ℕ))) (n : ℕ) → AreApart keys → AreApart (slice_set keys n None)
apart_set keys i apart n m key here there =
    apart n m key (kept n key here) (kept m key there)
  where
    kept : (n : ℕ) (key : List ℕ) → slice_get (slice_set keys i None) n ≡ Some (Some key)
        → slice_get keys n ≡ Some (Some key)
    kept n key at = elim (set_split keys i None (Some key) n at) [
      | inl here ↦ absurd (let none : None ≡ Some key = here.1 in cc)
      | inr other ↦ other.1
    ]

-- the keys once one of them is dropped
pub number_without : (keys : List (Option (List ℕ))) (n : ℕ) (gone key : List ℕ) → AreApart keys
    → slice_get keys n ≡ Some (Some gone)
    → number_in (slice_set keys n None) key ≡ (if bytes_eq key gone then None else number_in keys key)
number_without keys n gone key apart here = by (bytes_eq key gone) refl
  where
    none_at : (o : Option ℕ) → number_in (slice_set keys n None) gone ≡ o → o ≡ None
    none_at None is = refl
    none_at (Some m) is =
        let there = number_there (slice_set keys n None) gone m is in
        elim (set_split keys n None (Some gone) m there) [
          | inl w ↦ absurd (let never : None ≡ Some gone = w.1 in cc)
          | inr other ↦
              let same : n ≡ m = apart n m gone here other.1 in
              let blank = subst (λ (k : ℕ). slice_get (slice_set keys n None) k ≡ Some (Some gone)) (sym same) there in
              elim (set_split keys n None (Some gone) n blank) [
                | inl w ↦ absurd (let never : None ≡ Some gone = w.1 in cc)
                | inr w ↦ absurd (blanked keys n gone here blank)
              ]
        ]
      where
        blanked : (ks : List (Option (List ℕ))) (i : ℕ) (k : List ℕ) → slice_get ks i ≡ Some (Some k)
            → slice_get (slice_set ks i None) i ≡ Some (Some k) → ⊥
        blanked [] i k at is = let none : None ≡ Some (Some k) = at in cc
        blanked (x ∷ xs) zero k at is = let none : Some None ≡ Some (Some k) = is in cc
        blanked (x ∷ xs) (suc i) k at is = blanked xs i k at is

    by : (b : Bool) → bytes_eq key gone ≡ b
        → number_in (slice_set keys n None) key ≡ (if b then None else number_in keys key)
    by true is =
        ap (number_in (slice_set keys n None)) (same_key key gone is)
        ∙ none_at (number_in (slice_set keys n None) gone) refl
    by false is = number_blank keys n gone key here is
