-- A pod's eviction, by its place among the pod's own ticks, after one more tick and one more eviction.
use Rattle.std.proofs.Common.{◌≡◌, ◌⊎◌, inl, inr, ℕ, zero, suc, ◌<◌, List, [], ◌∷◌, ◌++◌, length, map, take, Bool}
use Rattle.std.proofs.Common.{true, false, cond, Option, Some, None, refl, sym, ap, ◌∙◌, arith}
use Rattle.std.specs.Prelude.{◌==◌, slice_get, option_map}
use Rattle.std.proofs.lemmas.List.{take-append-le, take_all, map_push}
use Rattle.std.proofs.lemmas.Bool.Decides.{eqb_tells}
use Rattle.observations.specs.rule.Pods.{PodObs}
use Rattle.observations.specs.declared.tick.TickObs.{TickObs}
use Rattle.observations.specs.rule.Observations.{shown_of}
use Rattle.observations.proofs.OwnTicks.{own_more, own_rests}
use Rattle.pod_state.specs.rule.Pods.{pod_tick}
use Rattle.pod_piece.specs.declared.order.EvictOrder.{EvictOrder}
use Rattle.pod_piece.specs.declared.piece.EvictionRecord.{EvictionRecord}
use Rattle.eviction.specs.declared.eviction.Eviction.{Eviction}
use Rattle.eviction.specs.rule.Replay.{pod_ticks, EvictedAt, later, evicted_at, own_eviction}

-- a tick that shows the pod is one more of its own; any other is not
pub pod_ticks-more : (ticks : List TickObs) (tick : TickObs) (n : ℕ) (shown : PodObs) → shown_of tick n ≡ Some shown
    → pod_ticks (ticks ++ tick ∷ []) n ≡ pod_ticks ticks n ++ pod_tick shown ∷ []
pod_ticks-more ticks tick n shown is = ap (map pod_tick) (own_more ticks tick n shown is) ∙ map_push pod_tick _ shown

pub pod_ticks-rest : (ticks : List TickObs) (tick : TickObs) (n : ℕ) → shown_of tick n ≡ None
    → pod_ticks (ticks ++ tick ∷ []) n ≡ pod_ticks ticks n
pod_ticks-rest ticks tick n none = ap (map pod_tick) (own_rests ticks tick n none)

-- the evictions with one more, that is not of the pod
abbrev pub IsOf : ℕ → Option Eviction → Type 0
IsOf n None = ⊥
IsOf n (Some eviction) = eviction.pod ≡ n

-- the place and the order of that one
abbrev found_now : ℕ → Eviction → EvictedAt
found_now t eviction = record { tick = t; order = eviction.order }

alike : (a b : ℕ) → ((a ≡ b) × ((a == b) ≡ true)) ⊎ ((a ≡ b → ⊥) × ((a == b) ≡ false))
alike a b = elim (eqb_tells a b) [ inl w ↦ inl (w.1, w.0) | inr w ↦ inr (w.1, w.0) ]

evicted_at-other : (n : ℕ) (es : List (Option Eviction)) (e : Option Eviction) → (IsOf n e → ⊥)
    → evicted_at n (es ++ e ∷ []) ≡ evicted_at n es
evicted_at-other n [] None other = refl
evicted_at-other n [] (Some e) other = elim (alike e.pod n) [
  | inl w ↦ absurd (other w.0)
  | inr w ↦ ap (λ t. cond t (Some (found_now 0 e)) None) w.1
]
evicted_at-other n (None ∷ es) e other = ap (option_map later) (evicted_at-other n es e other)
evicted_at-other n (Some d ∷ es) e other =
    ap (λ rest. cond (d.pod == n) (Some (found_now 0 d)) (option_map later rest)) (evicted_at-other n es e other)

never : (o : Option EvictedAt) → option_map later o ≡ None → o ≡ None
never None e = refl
never (Some f) e = absurd (cc)

not_first : (d : Eviction) (n : ℕ) (rest : Option EvictedAt) → cond (d.pod == n) (Some (found_now 0 d)) rest ≡ None
    → ((d.pod == n) ≡ false) × (rest ≡ None)
not_first d n rest e = elim (alike d.pod n) [
  | inl w ↦
      let f : Some (found_now 0 d) ≡ None = sym (ap (λ t. cond t (Some (found_now 0 d)) rest) w.1) ∙ e in absurd (cc)
  | inr w ↦ (w.1, sym (ap (λ t. cond t (Some (found_now 0 d)) rest) w.1) ∙ e)
]

evicted_at-now : (n : ℕ) (es : List (Option Eviction)) (e : Eviction) → e.pod ≡ n → evicted_at n es ≡ None
    → evicted_at n (es ++ Some e ∷ []) ≡ Some (found_now (length es) e)
evicted_at-now n [] e is none = elim (alike e.pod n) [
  | inl w ↦ ap (λ t. cond t (Some (found_now 0 e)) None) w.1
  | inr w ↦ absurd (w.0 is)
]
evicted_at-now n (None ∷ es) e is none =
    ap (option_map later) (evicted_at-now n es e is (never (evicted_at n es) none))
evicted_at-now n (Some d ∷ es) e is none =
    let first = not_first d n (option_map later (evicted_at n es)) none in
    ap (λ t. cond t (Some (found_now 0 d)) (option_map later (evicted_at n (es ++ Some e ∷ [])))) first.0
    ∙ ap (option_map later) (evicted_at-now n es e is (never (evicted_at n es) first.1))

later_below : (bound : ℕ) (f : EvictedAt) (o : Option EvictedAt) → ((g : EvictedAt) → o ≡ Some g → g.tick < bound)
    → option_map later o ≡ Some f → f.tick < suc bound
later_below bound f None below e = absurd (cc)
later_below bound f (Some g) below e =
    let z : later g ≡ f = cc in
    let t : suc g.tick ≡ f.tick = ap (λ (v : EvictedAt). v.tick) z in
    let lt : g.tick < bound = below g refl in omega arith

evicted_at-below : (n : ℕ) (es : List (Option Eviction)) (f : EvictedAt) → evicted_at n es ≡ Some f
    → f.tick < length es
evicted_at-below n [] f e = absurd (cc)
evicted_at-below n (None ∷ es) f e =
    later_below (length es) f (evicted_at n es) (λ g is. evicted_at-below n es g is) e
evicted_at-below n (Some d ∷ es) f e = elim (alike d.pod n) [
  | inl w ↦
      let first = λ (t : Bool). cond t (Some (found_now 0 d)) (option_map later (evicted_at n es)) in
      let here : Some (found_now 0 d) ≡ Some f = sym (ap first w.1) ∙ e in
      let z : found_now 0 d ≡ f = cc in
      let t : 0 ≡ f.tick = ap (λ (v : EvictedAt). v.tick) z in omega arith
  | inr w ↦
      let first = λ (t : Bool). cond t (Some (found_now 0 d)) (option_map later (evicted_at n es)) in
      later_below (length es) f (evicted_at n es) (λ g is. evicted_at-below n es g is) (sym (ap first w.1) ∙ e)
]

abbrev of_place : ℕ → EvictOrder → EvictionRecord
of_place place order = record { place = place; order = order }

abbrev pub of_pod : List TickObs → ℕ → EvictedAt → EvictionRecord
of_pod ticks n found = record { place = length (pod_ticks (take found.tick ticks) n); order = found.order }

-- one more tick leaves an eviction before it where it was
pub own_eviction-longer : (n : ℕ) (ticks : List TickObs) (x : TickObs) (es : List (Option Eviction))
    → length es ≡ length ticks
    → own_eviction n (ticks ++ x ∷ []) es ≡ own_eviction n ticks es
own_eviction-longer n ticks x es len = by (evicted_at n es) (λ f is. evicted_at-below n es f is)
  where
    by : (o : Option EvictedAt) → ((f : EvictedAt) → o ≡ Some f → f.tick < length es)
        → option_map (of_pod (ticks ++ x ∷ []) n) o ≡ option_map (of_pod ticks n) o
    by None below = refl
    by (Some f) below =
        let lt : f.tick < length es = below f refl in
        let same : take f.tick (ticks ++ x ∷ []) ≡ take f.tick ticks =
        take-append-le f.tick ticks (x ∷ []) (omega arith) in
        ap (λ (h : List TickObs). Some (of_place (length (pod_ticks h n)) f.order)) same

-- and so does an eviction of another pod, or none
pub own_eviction-other : (n : ℕ) (ticks : List TickObs) (es : List (Option Eviction)) (e : Option Eviction)
    → (IsOf n e → ⊥)
    → own_eviction n ticks (es ++ e ∷ []) ≡ own_eviction n ticks es
own_eviction-other n ticks es e other = ap (option_map (of_pod ticks n)) (evicted_at-other n es e other)

-- the pod's first eviction is at its last tick
pub own_eviction-now : (n : ℕ) (ticks : List TickObs) (x : TickObs) (es : List (Option Eviction)) (e : Eviction)
    → length es ≡ length ticks
    → own_eviction n (ticks ++ x ∷ []) es ≡ None → e.pod ≡ n
    → own_eviction n (ticks ++ x ∷ []) (es ++ Some e ∷ [])
    ≡ Some (record { place = length (pod_ticks ticks n); order = e.order })
own_eviction-now n ticks x es e len none is =
    ap (option_map (of_pod (ticks ++ x ∷ []) n)) (evicted_at-now n es e is (unfound (evicted_at n es) none))
    ∙ ap (λ (k : ℕ). Some (of_place (length (pod_ticks (take k (ticks ++ x ∷ [])) n)) e.order)) len
    ∙ ap (λ (h : List TickObs). Some (of_place (length (pod_ticks h n)) e.order))
    (take-append-le (length ticks) ticks (x ∷ []) (omega arith) ∙ take_all (length ticks) ticks (omega arith))
  where
    unfound : (o : Option EvictedAt) → option_map (of_pod (ticks ++ x ∷ []) n) o ≡ None → o ≡ None
    unfound None e = refl
    unfound (Some f) e = absurd (cc)

-- where none of the evictions is of the pod, it has none
pub evicted_none : (n : ℕ) (es : List (Option Eviction))
    → ((t : ℕ) (e : Eviction) → slice_get es t ≡ Some (Some e) → e.pod ≡ n → ⊥) → evicted_at n es ≡ None
evicted_none n [] none = refl
evicted_none n (None ∷ es) none = ap (option_map later) (evicted_none n es (λ t e is. none (suc t) e is))
evicted_none n (Some d ∷ es) none = elim (alike d.pod n) [
  | inl w ↦ absurd (none 0 d refl w.0)
  | inr w ↦
      ap (λ t. cond t (Some (found_now 0 d)) (option_map later (evicted_at n es))) w.1
      ∙ ap (option_map later) (evicted_none n es (λ t e is. none (suc t) e is))
]

-- and where it has none, none of them is of the pod
pub evicted_unless : (n : ℕ) (es : List (Option Eviction)) → evicted_at n es ≡ None → (t : ℕ) (e : Eviction)
    → slice_get es t ≡ Some (Some e) → e.pod ≡ n → ⊥
evicted_unless n [] none t e is same = absurd (cc)
evicted_unless n (None ∷ es) none zero e is same = absurd (cc)
evicted_unless n (None ∷ es) none (suc t) e is same = evicted_unless n es (never (evicted_at n es) none) t e is same
evicted_unless n (Some d ∷ es) none zero e is same =
    let here : d ≡ e = cc in
    let first = not_first d n (option_map later (evicted_at n es)) none in
    let of_pod : d.pod ≡ n = ap (λ (v : Eviction). v.pod) here ∙ same in
    elim (alike d.pod n) [
      | inl w ↦ let both : true ≡ false = sym w.1 ∙ first.0 in absurd (cc)
      | inr w ↦ w.0 of_pod
    ]
evicted_unless n (Some d ∷ es) none (suc t) e is same =
    let first = not_first d n (option_map later (evicted_at n es)) none in
    evicted_unless n es (never (evicted_at n es) first.1) t e is same
