-- The pods of a node take what waits for them into their statuses, one after the other.
use Rattle.std.proofs.Common.{◌≡◌, ◌∙◌, inl, inr, ℕ, suc, ◌+◌, ◌-◌, ◌*◌, ◌<◌, ◌≤◌, List, [], ◌∷◌, ◌++◌}
use Rattle.std.proofs.Common.{length, map, Some, refl, sym, ap, subst, arith}
use Rattle.std.specs.Prelude.{slice_get, option_map}
use Rattle.std.specs.List.{sum_by}
use Rattle.std.proofs.lemmas.Bool.{cases_eq}
use Rattle.std.proofs.lemmas.List.{length-map}
use Rattle.std.proofs.lemmas.List.Sums.{sum_by-cons, sum_by-append}
use Rattle.std.proofs.lemmas.Option.{slice_get-map, slice_get_within, same_Some}
use Rattle.histories.proofs.Places.{length-more}
use Rattle.histories.proofs.Lists.{place_split, given_at, same_at, set_length, set_here, set_others}
use Rattle.observations.specs.rule.Limits.{most_pods}
use Rattle.pod_piece.specs.rule.Piece.{Piece}
use Rattle.pod_piece.specs.state.Piece.{all_updated}
use Rattle.totals.specs.declared.totals.Totals.{Totals}
use Rattle.totals.specs.state.Totals.{plus}
use Rattle.event_book.specs.state.Shares.{AreWithin}
use Rattle.totals.specs.state.Limits.{greatest_total, most_round_events, IsLowAddition}
use Rattle.totals.specs.state.Rounds.{IsAdditionOf, sums_of_additions, AreAdded}
use Rattle.round_updates.specs.state.Update.{AreUpTo, MayUpdate, UpdatesAt}

abbrev totals : ℕ → ℕ → ℕ → Totals
totals updates events orders = record { updates = updates; events = events; orders = orders }

pub same_totals : (u e o u' e' o' : ℕ) → u ≡ u' → e ≡ e' → o ≡ o' → totals u e o ≡ totals u' e' o'
same_totals u e o u' e' o' p q r = λ i. totals (p i) (q i) (r i)

sum_more : (f : Totals → ℕ) (additions : List Totals) (x : Totals)
    → sum_by f (additions ++ x ∷ []) ≡ sum_by f additions + f x
sum_more f additions x =
    let both : sum_by f (additions ++ x ∷ []) ≡ sum_by f additions + sum_by f (x ∷ []) =
    sum_by-append f additions (x ∷ []) in
    let one : sum_by f (x ∷ []) ≡ f x + 0 = sum_by-cons f x [] in
    omega (arith, both, one)

-- nothing added, and one addition more
none_added : (t : Totals) → t ≡ plus t (sums_of_additions [])
none_added t =
    same_totals t.updates t.events t.orders (t.updates + 0) (t.events + 0) (t.orders + 0)
    (omega arith) (omega arith) (omega arith)

one_added : (before now after : Totals) (additions : List Totals) (x : Totals)
    → now ≡ plus before (sums_of_additions additions) → after ≡ plus now x
    → after ≡ plus before (sums_of_additions (additions ++ x ∷ []))
one_added before now after additions x is more =
    let updates = λ (a : Totals). a.updates in
    let events = λ (a : Totals). a.events in
    let orders = λ (a : Totals). a.orders in
    let u : sum_by updates (additions ++ x ∷ []) ≡ sum_by updates additions + x.updates = sum_more updates additions
    x in
    let e : sum_by events (additions ++ x ∷ []) ≡ sum_by events additions + x.events = sum_more events additions x in
    let o : sum_by orders (additions ++ x ∷ []) ≡ sum_by orders additions + x.orders = sum_more orders additions x in
    more ∙ ap (λ (t : Totals). plus t x) is
    ∙ same_totals (before.updates + sum_by updates additions + x.updates)
    (before.events + sum_by events additions + x.events) (before.orders + sum_by orders additions + x.orders)
    (before.updates + sum_by updates (additions ++ x ∷ [])) (before.events + sum_by events (additions ++ x ∷ []))
    (before.orders + sum_by orders (additions ++ x ∷ []))
    (omega (arith, u)) (omega (arith, e)) (omega (arith, o))

-- low additions
low_sums : (additions : List Totals) → ((n : ℕ) (x : Totals) → slice_get additions n ≡ Some x → IsLowAddition x)
    → AreUpTo (length additions * most_round_events) (sums_of_additions additions)
low_sums [] low = record { updates = omega arith; events = omega arith; orders = omega arith }
low_sums (x ∷ additions) low =
    let first = low 0 x refl in
    let rest = low_sums additions (λ n y at. low (suc n) y at) in
    let updates = λ (a : Totals). a.updates in
    let events = λ (a : Totals). a.events in
    let orders = λ (a : Totals). a.orders in
    let u = sum_by-cons updates x additions in
    let e = sum_by-cons events x additions in
    let o = sum_by-cons orders x additions in
    record {
      updates = omega (arith, first.updates, rest.updates, u);
      events = omega (arith, first.updates, first.events, rest.events, e);
      orders = omega (arith, first.updates, first.orders, rest.orders, o);
    }

-- the pods below a number have taken what waited for them, and were entered
pub record AreUpdatedBelow (old : List Piece) (before : Totals) (i : ℕ) (now : List Piece)
    (after : Totals) : Type 0 where
  pub as_many : length now ≡ length old
  pub below : (n : ℕ) (piece : Piece) → n < i → slice_get old n ≡ Some piece → slice_get now n
      ≡ Some (all_updated piece)
  pub rest : (n : ℕ) → i ≤ n → slice_get now n ≡ slice_get old n
  pub additions : List Totals
  pub made : length additions ≡ i
  pub are : (n : ℕ) (piece : Piece) (addition : Totals) → slice_get now n ≡ Some piece
      → slice_get additions n ≡ Some addition → IsAdditionOf piece addition
  pub low : (n : ℕ) (addition : Totals) → slice_get additions n ≡ Some addition → IsLowAddition addition
  pub totals_are : after ≡ plus before (sums_of_additions additions)

pub none_updated : (old : List Piece) (before : Totals) → AreUpdatedBelow old before 0 old before
none_updated old before = record {
  as_many = refl;
  below = λ n piece lt at. absurd (omega arith);
  rest = λ n le. refl;
  additions = [];
  made = refl;
  are = λ n piece addition at there. absurd (cc);
  low = λ n addition there. absurd (cc);
  totals_are = none_added before;
}

pub one_updated : (old : List Piece) (before : Totals) (i : ℕ) (now : List Piece) (after : Totals)
    (new : List Piece) (then : Totals) → AreUpdatedBelow old before i now after → UpdatesAt now i after new then
    → AreUpdatedBelow old before (i + 1) new then
one_updated old before i now after new then so_far step = record {
  as_many = ap length step.set ∙ set_length now i (all_updated step.piece) ∙ so_far.as_many;
  below = λ n piece lt at. elim (cases_eq n i) [
    | inl same ↦
        let was : slice_get old i ≡ Some piece = subst (λ (k : ℕ). slice_get old k ≡ Some piece) same at in
        let is : slice_get now i ≡ Some piece = so_far.rest i (omega arith) ∙ was in
        subst (λ (k : ℕ). slice_get new k ≡ Some (all_updated piece)) (sym same)
        (here ∙ ap (λ (p : Piece). Some (all_updated p)) (same_Some step.piece piece (sym step.at ∙ is)))
    | inr apart ↦
        let less : n < i = (let not : n ≡ i → ⊥ = apart in omega arith) in
        others n apart ∙ so_far.below n piece less at
  ];
  rest = λ n le. others n (λ e. omega arith) ∙ so_far.rest n (omega arith);
  additions = so_far.additions ++ step.added.addition ∷ [];
  made =
      let many : length so_far.additions ≡ i = so_far.made in
      omega (arith, many, length-more so_far.additions step.added.addition);
  are = λ n piece addition at there. elim (place_split so_far.additions step.added.addition addition n there) [
    | inl older ↦
        let lt : n < length so_far.additions = slice_get_within so_far.additions n addition older in
        let many : length so_far.additions ≡ i = so_far.made in
        so_far.are n piece addition (sym (others n (λ e. omega arith)) ∙ at) older
    | inr w ↦
        let is : n ≡ i = w.0 ∙ so_far.made in
        let found : slice_get new i ≡ Some piece = subst (λ (k : ℕ). slice_get new k ≡ Some piece) is at in
        let same : all_updated step.piece ≡ piece = same_Some (all_updated step.piece) piece (sym here ∙ found) in
        subst (λ (p : Piece). IsAdditionOf p addition) same
        (subst (λ (a : Totals). IsAdditionOf (all_updated step.piece) a) w.1 step.added.is_addition)
  ];
  low = λ n addition there. elim (place_split so_far.additions step.added.addition addition n there) [
    | inl older ↦ so_far.low n addition older
    | inr w ↦ subst (λ (a : Totals). IsLowAddition a) w.1 step.added.low
  ];
  totals_are =
      one_added before after then so_far.additions step.added.addition so_far.totals_are step.added.totals;
}
  where
    here : slice_get new i ≡ Some (all_updated step.piece)
    here = ap (λ (ps : List Piece). slice_get ps i) step.set ∙ set_here now i
        (all_updated step.piece) step.piece step.at

    others : (n : ℕ) → (n ≡ i → ⊥) → slice_get new n ≡ slice_get now n
    others n apart =
        ap (λ (ps : List Piece). slice_get ps n) step.set ∙ set_others now i n (all_updated step.piece) apart

-- all of them
pub all_taken : (old : List Piece) (before : Totals) (i : ℕ) (now : List Piece) (after : Totals)
    → AreUpdatedBelow old before i now after → i ≡ length old → now ≡ map all_updated old
all_taken old before i now after are end =
    same_at now (map all_updated old) (are.as_many ∙ sym (length-map old all_updated)) (λ n lt.
    let many : length now ≡ length old = are.as_many in
    let p = given_at old n (omega (arith, lt, many)) in
    are.below n p.0 (omega (arith, lt, many, end)) p.1
    ∙ sym (slice_get-map all_updated old n ∙ ap (option_map all_updated) p.1))

pub all_added : (old : List Piece) (before : Totals) (i : ℕ) (now : List Piece) (after : Totals)
    → AreUpdatedBelow old before i now after → i ≡ length old → AreAdded now before after
all_added old before i now after are end = record {
  additions = are.additions;
  are_additions = record { as_many = are.made ∙ end ∙ sym are.as_many; each = are.are };
  totals = are.totals_are;
}

-- the book has room for the next
pub room_at : (old : List Piece) (before : Totals) (i : ℕ) (now : List Piece) (after : Totals)
    → MayUpdate old before → AreUpdatedBelow old before i now after → i < length old
    → AreUpTo (greatest_total - most_round_events) after
room_at old before i now after may are lt =
    let sums = low_sums are.additions are.low in
    let few : length old ≤ most_pods = may.few in
    let many : length are.additions ≡ i = are.made in
    let u : after.updates ≡ before.updates + (sums_of_additions are.additions).updates =
    ap (λ (t : Totals). t.updates) are.totals_are in
    let e : after.events ≡ before.events + (sums_of_additions are.additions).events =
    ap (λ (t : Totals). t.events) are.totals_are in
    let o : after.orders ≡ before.orders + (sums_of_additions are.additions).orders =
    ap (λ (t : Totals). t.orders) are.totals_are in
    let room = may.room in
    record {
      updates = omega (arith, u, room.updates, few, many, lt, sums.updates);
      events = omega (arith, e, room.events, few, many, lt, sums.events);
      orders = omega (arith, o, room.orders, few, many, lt, sums.orders);
    }

pub pending_at : (old : List Piece) (before : Totals) (i : ℕ) (now : List Piece) (after : Totals)
    → MayUpdate old before → AreUpdatedBelow old before i now after → (piece : Piece) → slice_get now i ≡ Some piece
    → 0 < piece.waiting
pending_at old before i now after may are piece at =
    may.pending i piece (sym (are.rest i (omega arith)) ∙ at)

pub room_for : (t more : Totals) → AreUpTo (greatest_total - most_round_events) t → IsLowAddition more
    → AreWithin (plus t more)
room_for t more room low = record {
  updates = omega (arith, room.updates, low.updates);
  events = omega (arith, room.events, low.updates, low.events);
  orders = omega (arith, room.orders, low.updates, low.orders);
}
