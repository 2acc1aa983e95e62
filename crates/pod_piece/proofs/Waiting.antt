-- The ticks that have come into a pod's status, and those that are still to come.
use Rattle.std.proofs.Common.{◌≡◌, ◌∙◌, inl, inr, ℕ, zero, suc, ◌+◌, ◌-◌, ◌<◌, ◌≤◌, List, [], ◌∷◌, ◌++◌}
use Rattle.std.proofs.Common.{length, map, take, drop, get_or, Option, Some, None, refl, ap, sym, subst, arith}
use Rattle.std.specs.Prelude.{option_map, IfSome}
use Rattle.std.specs.Prelude.{slice_get}
use Rattle.std.proofs.lemmas.List.{length-map, length-take-le, take_all, take-append-le, take-append-drop}
use Rattle.std.proofs.lemmas.Option.{slice_get-get_or, slice_get-map, slice_get_within}
use Rattle.quantity.specs.rule.Duration.{end_of_time}
use Rattle.histories.specs.rule.Histories.{last_moment, moment_at}
use Rattle.histories.specs.state.Histories.{EndsBefore}
use Rattle.histories.proofs.Moments.{last_moment-more, IsRising-more}
use Rattle.histories.proofs.Places.{length-more}
use Rattle.histories.proofs.Lists.{take_more, take_old, place_split, slice_get-kept}
use Rattle.observations.specs.rule.Pods.{PodObs}
use Rattle.pod_state.specs.rule.Pods.{PodTick, pod_tick}
use Rattle.pod_piece.specs.state.Listings.{IsNextTick}
use Rattle.pod_piece.specs.rule.Piece.{Piece, taken, ticks, updated}
use Rattle.pod_piece.specs.state.Piece.{with_tick}
use Rattle.pod_piece.specs.state.Kept.{AreSpread, MayWait}

pub taken_is : (w : ℕ) (h : List PodTick) → taken w h ≡ take (length h - w) h
taken_is zero h = sym (take_all (length h - 0) h (omega arith))
taken_is (suc w) h = refl

pub taken_length : (w : ℕ) (h : List PodTick) → length (taken w h) ≡ length h - w
taken_length w h = ap length (taken_is w h) ∙ length-take-le (length h - w) h (omega arith)

-- all of a piece with none that waits
pub ticks_free : (p : Piece) → p.waiting ≡ 0 → ticks p ≡ p.handed
ticks_free p free = ap (λ w. taken w p.handed) free

-- one tick more has come
pub taken_next : (w : ℕ) (h : List PodTick) (x : PodTick) → 0 < w → w ≤ length h
    → slice_get h (length h - w) ≡ Some x → taken (w - 1) h ≡ taken w h ++ x ∷ []
taken_next w h x some within is =
    taken_is (w - 1) h
    ∙ ap (λ n. take n h) {x = length h - (w - 1)} {y = suc (length h - w)} (omega (arith, some, within))
    ∙ take_more h (length h - w) x is
    ∙ ap (λ k. k ++ x ∷ []) (sym (taken_is w h))

-- one tick more waits
pub taken_handed : (w : ℕ) (h : List PodTick) (x : PodTick) → taken (suc w) (h ++ x ∷ []) ≡ taken w h
taken_handed w h x =
    ap (λ n. take n (h ++ x ∷ [])) {x = length (h ++ x ∷ []) - suc w} {y = length h - w}
    (omega (arith, length-more h x))
    ∙ take-append-le (length h - w) h (x ∷ []) (omega arith) ∙ sym (taken_is w h)

-- the observation that comes next
pub next_is : (items : List PodObs) (w n : ℕ) (observed : PodObs) → n ≡ length items - w → 0 < w → w ≤ length items
    → observed ≡ get_or items n observed
    → slice_get (map pod_tick items) (length (map pod_tick items) - w) ≡ Some (pod_tick observed)
next_is items w n observed long some within is =
    ap (λ m. slice_get (map pod_tick items) m) {x = length (map pod_tick items) - w} {y = n}
    (omega (arith, long, length-map items pod_tick))
    ∙ slice_get-map pod_tick items n
    ∙ ap (option_map pod_tick) (slice_get-get_or items n observed (omega (arith, long, some, within)) ∙ ap Some
    (sym is))

-- the observation of a tick that has come
pub observed_at : (items : List PodObs) (w n : ℕ) (x : PodTick) → slice_get (taken w (map pod_tick items)) n ≡ Some x
    → (observed : PodObs) × (slice_get items n ≡ Some observed) × (pod_tick observed ≡ x)
observed_at items w n x at =
    let h = map pod_tick items in
    let k = length h - w in
    let here : slice_get (take k h) n ≡ Some x =
    subst (λ (ts : List PodTick). slice_get ts n ≡ Some x) (taken_is w h) at in
    let there : slice_get h n ≡ Some x = subst (λ (ts : List PodTick). slice_get ts n ≡ Some x) (take-append-drop k h)
    (slice_get-kept (take k h) (drop k h) n x here) in
    of (slice_get items n) (sym (slice_get-map pod_tick items n) ∙ there)
  where
    of : (o : Option PodObs) → option_map pod_tick o ≡ Some x
        → (observed : PodObs) × (o ≡ Some observed) × (pod_tick observed ≡ x)
    of None e = absurd (let w : None ≡ Some x = e in cc)
    of (Some observed) e = (observed, refl, (let w : Some (pod_tick observed) ≡ Some x = e in cc))

given : (h : List PodTick) (t : ℕ) → t < length h → (m : ℕ) × (moment_at h t ≡ Some m)
given [] t lt = absurd (omega (arith, lt))
given (y ∷ ys) zero lt = (y.moment, refl)
given (y ∷ ys) (suc t) lt = given ys t (omega (arith, lt))

no_moment : (y : PodTick) (ys : List PodTick) → last_moment (y ∷ ys) ≡ None → ⊥
no_moment y ys none =
    let is = given (y ∷ ys) (length (y ∷ ys) - 1) (omega arith) in
    let w : None ≡ Some is.0 = sym none ∙ is.1 in absurd (cc)

-- so many ticks have other moments up to the last one
few_by : (h : List PodTick) (most : ℕ) → IfSome (last_moment h) (λ last. length h ≤ suc last)
    → IfSome (last_moment h) (λ last. last < most) → length h ≤ most
few_by [] most few less = omega arith
few_by (y ∷ ys) most few less = there (last_moment (y ∷ ys)) refl few less
  where
    there : (o : Option ℕ) → last_moment (y ∷ ys) ≡ o → IfSome o (λ n. length (y ∷ ys) ≤ suc n)
        → IfSome o (λ n. n < most) → length (y ∷ ys) ≤ most
    there None none few less = absurd (no_moment y ys none)
    there (Some n) is few less = omega (arith, few, less)

-- the ticks stay apart, and few
pub none_spread : AreSpread []
none_spread = record {
  rising = λ t u m n lt e f. let w : None ≡ Some m = e in absurd (cc);
  few = tt;
  bounded = tt;
}

pub spread_more : (h : List PodTick) (x : PodTick) → AreSpread h → EndsBefore h x.moment → x.moment < end_of_time
    → AreSpread (h ++ x ∷ [])
spread_more h x spread later bounded =
    let last : last_moment (h ++ x ∷ []) ≡ Some x.moment = last_moment-more h x in
    let most = few_by h x.moment spread.few later in
    record {
      rising = IsRising-more h x spread.rising later;
      few = subst (λ (o : Option ℕ). IfSome o (λ m. length (h ++ x ∷ []) ≤ suc m)) (sym last)
          (omega (arith, length-more h x, most));
      bounded = subst (λ (o : Option ℕ). IfSome o (λ m. m < end_of_time)) (sym last) bounded;
    }

pub few_ticks : (h : List PodTick) → AreSpread h → length h ≤ end_of_time
few_ticks h spread = few_by h end_of_time spread.few spread.bounded

-- those that wait may come, and so may one behind them
pub wait_more : (p : Piece) (x : PodTick) → MayWait p → IsNextTick p.pod p.handed x → MayWait (with_tick p x)
wait_more p x may next = λ place tick above at. elim (place_split p.handed x tick place at) [
  | inl old ↦
      let lt : place < length p.handed = slice_get_within p.handed place tick old in
      let most : length (p.handed ++ x ∷ []) ≤ place + suc p.waiting = above in
      subst (λ (h : List PodTick). IsNextTick p.pod h tick)
      (sym (take-append-le place p.handed (x ∷ []) (omega (arith, lt))))
      (may place tick (omega (arith, most, length-more p.handed x)) old)
  | inr new ↦ subst (λ (h : List PodTick). IsNextTick p.pod h tick) (sym (take_old p.handed x place new.0))
      (subst (λ (y : PodTick). IsNextTick p.pod p.handed y) new.1 next)
]

-- and once the next one has come those behind it may
pub wait_less : (p : Piece) → MayWait p → MayWait (updated p)
wait_less p may = λ place tick above at. may place tick (omega (arith, above)) at
