-- The last of some ticks, and those before it.
use Rattle.std.proofs.Common.{◌≡◌, ◌∙◌, ℕ, suc, zero, ◌-◌, ◌<◌, ◌≤◌, List, [], ◌∷◌, ◌++◌}
use Rattle.std.proofs.Common.{length, map, take, get_or, Option, Some, None, refl, ap, sym, arith}
use Rattle.std.specs.Prelude.{option_map}
use Rattle.std.specs.Prelude.{slice_get}
use Rattle.std.proofs.lemmas.List.{get_or-take, length-map, length-take-le, take_all}
use Rattle.std.proofs.lemmas.Option.{slice_get-get_or, slice_get_within}
use Rattle.std.proofs.Math.Seq.{take-append_seam, take-suc}
use Rattle.histories.specs.rule.Histories.{recorded, last_moment, moment_at}
use Rattle.histories.proofs.Places.{length-more}
use Rattle.histories.proofs.Lists.{slice_get-new}
use Rattle.observations.specs.rule.Pods.{PodObs}
use Rattle.pod_state.specs.rule.Pods.{PodEntry, PodTick, pod_tick}
use Rattle.pod_piece.specs.state.Piece.{before_last, last_of}

-- the last of some ticks, and those before it
pub front_more : (h : List PodTick) (x : PodTick) → before_last (h ++ x ∷ []) ≡ h
front_more h x = ap (λ n. take n (h ++ x ∷ [])) {x = length (h ++ x ∷ []) - 1} {y = length h}
    (omega (arith, length-more h x)) ∙ take-append_seam h (x ∷ [])

pub last_more : (h : List PodTick) (x : PodTick) → last_of (h ++ x ∷ []) ≡ Some x
last_more h x = ap (λ n. slice_get (h ++ x ∷ []) n) {x = length (h ++ x ∷ []) - 1} {y = length h}
    (omega (arith, length-more h x)) ∙ slice_get-new h x

pub split_last : (h : List PodTick) (x : PodTick) → last_of h ≡ Some x → h ≡ before_last h ++ x ∷ []
split_last h x is =
    let n = length h - 1 in
    let lt : n < length h = slice_get_within h n x is in
    let same : Some (get_or h n x) ≡ Some x = sym (slice_get-get_or h n x lt) ∙ is in
    let here : get_or h n x ≡ x = cc in
    sym (take_all (suc n) h (omega (arith, lt))) ∙ take-suc h n x lt ∙ ap (λ y. take n h ++ y ∷ []) here

-- the moment of the tick at a place
pub moment_here : (h : List PodTick) (i : ℕ) → moment_at h i ≡ option_map (λ (x : PodTick). x.moment) (slice_get h i)
moment_here [] i = refl
moment_here (x ∷ xs) zero = refl
moment_here (x ∷ xs) (suc i) = moment_here xs i

-- the last tick, by its moment
pub tick_at : (h : List PodTick) (m : ℕ) → last_moment h ≡ Some m → (entry : PodEntry)
    × (last_of h ≡ Some (recorded m entry))
tick_at h m is = there (slice_get h (length h - 1)) refl (sym (moment_here h (length h - 1)) ∙ is)
  where
    there : (o : Option PodTick) → slice_get h (length h - 1) ≡ o → option_map (λ (x : PodTick). x.moment) o ≡ Some m
        → (entry : PodEntry) × (last_of h ≡ Some (recorded m entry))
    there None e at = absurd (let w : None ≡ Some m = at in cc)
    there (Some x) e at = let same : x.moment ≡ m = (let w : Some x.moment ≡ Some m = at in cc) in
        (x.entry, e ∙ ap (λ n. Some (recorded n x.entry)) same)

-- the last moment
moment_of : (items : List PodObs) (i : ℕ) → moment_at (map pod_tick items) i ≡ option_map (λ (o : PodObs). o.at)
    (slice_get items i)
moment_of [] i = refl
moment_of (x ∷ xs) zero = refl
moment_of (x ∷ xs) (suc i) = moment_of xs i

pub last_moment_of : (items : List PodObs) → last_moment (map pod_tick items) ≡ option_map (λ (o : PodObs). o.at)
    (slice_get items (length items - 1))
last_moment_of items = ap (λ m. moment_at (map pod_tick items) (m - 1)) (length-map items pod_tick)
    ∙ moment_of items (length items - 1)

-- the moment before a place
pub moment_taken : (items : List PodObs) (n : ℕ) (last : PodObs) → 0 < n → n ≤ length items
    → last ≡ get_or items (n - 1) last
    → Some last.at ≡ last_moment (map pod_tick (take n items))
moment_taken items n last some within is =
    let long : length (take n items) ≡ n = length-take-le n items within in
    let here : last ≡ get_or (take n items) (n - 1) last =
    is ∙ sym (get_or-take n items (n - 1) last (omega (arith, some))) in
    sym (last_moment_of (take n items)
    ∙ ap (λ m. option_map (λ (o : PodObs). o.at) (slice_get (take n items) (m - 1))) long
    ∙ ap (option_map (λ (o : PodObs). o.at)) (slice_get-get_or (take n items) (n - 1) last (omega (arith, long, some)))
    ∙ ap (λ (o : PodObs). Some o.at) (sym here))
