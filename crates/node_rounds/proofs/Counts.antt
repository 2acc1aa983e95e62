-- What the ticks of a round add to the totals, by its pods' rounds.
use Rattle.std.proofs.Common.{◌≡◌, ◌∙◌, ℕ, zero, suc, ◌+◌, ◌≤◌, Bool, true, false, cond, List, [], ◌∷◌}
use Rattle.std.proofs.Common.{◌++◌, length, map, Option, Some, None, refl, ap, sym, arith}
use Rattle.std.specs.Prelude.{slice_get}
use Rattle.std.specs.Option.{option_flatten}
use Rattle.std.specs.List.{cons_option, filter, filter_map, sum_by}
use Rattle.std.proofs.lemmas.List.Elements.{filter_map-append}
use Rattle.std.proofs.lemmas.List.Sums.{sum_by-cons, sum_by-append}
use Rattle.observations.specs.rule.Pods.{PodObs}
use Rattle.observations.specs.declared.tick.TickObs.{TickObs}
use Rattle.observations.specs.rule.Observations.{all_shown, shown_of, own_ticks}
use Rattle.node_signals.specs.declared.event.NodeEvent.{NodeEvent}
use Rattle.pod_state.specs.declared.events.PodEvent.{PodEvent}
use Rattle.pod_state.specs.rule.Pods.{pod_tick}
use Rattle.pod_piece.specs.state.Made.{MadeEvent}
use Rattle.eviction.specs.declared.eviction.Eviction.{Eviction}
use Rattle.eviction.specs.rule.Replay.{pod_ticks}
use Rattle.totals.specs.declared.totals.Totals.{Totals}
use Rattle.totals.specs.rule.Totals.{is_order}
use Rattle.totals.specs.state.Totals.{plus}
use Rattle.totals.specs.state.Rounds.{is_made_order, addition_of, sums_of_additions}
use Rattle.event_list.specs.declared.event.Event.{Event}
use Rattle.event_list.specs.declared.event.EventKind.TheVariants.{Pod}
use Rattle.event_list.specs.declared.tick.TickEvents.{TickEvents}
use Rattle.event_list.specs.rule.Events.{event, of_pods, of_node, of_choice}
use Rattle.event_list.specs.state.Tick.{events_at, of_ticks}
use Rattle.event_list.specs.rule.Totals.{pod_events, totals_of}
use Rattle.event_list.proofs.More.{none_of_choice}
use Rattle.node_rounds.proofs.Told.{weight_of}

-- a count is a sum of ones, and so is one of those that pass a test
abbrev one_each : {A : Type 0} → A → ℕ
one_each x = 1

abbrev one_if : {A : Type 0} → (A → Bool) → A → ℕ
one_if p x = cond (p x) 1 0

length_as_sum : {A : Type 0} (xs : List A) → length xs ≡ sum_by one_each xs
length_as_sum [] = refl
length_as_sum (x ∷ xs) =
    let one : sum_by one_each (x ∷ xs) ≡ 1 + sum_by one_each xs = sum_by-cons one_each x xs in
    omega (arith, one, length_as_sum xs)

filter_as_sum : {A : Type 0} (p : A → Bool) (xs : List A) → length (filter p xs) ≡ sum_by (one_if p) xs
filter_as_sum p [] = refl
filter_as_sum p (x ∷ xs) = by (p x) refl (filter_as_sum p xs) ∙ sym (sum_by-cons (one_if p) x xs)
  where
    by : (b : Bool) → p x ≡ b → length (filter p xs) ≡ sum_by (one_if p) xs
        → length (filter p (x ∷ xs)) ≡ one_if p x + sum_by (one_if p) xs
    by true e rest =
        let long : length (filter p (x ∷ xs)) ≡ suc (length (filter p xs)) =
        ap (λ (b : Bool). length (cond b (x ∷ filter p xs) (filter p xs))) e in
        let one : one_if p x ≡ 1 = ap (λ (b : Bool). cond b 1 0) e in
        omega (arith, long, one, rest)
    by false e rest =
        let long : length (filter p (x ∷ xs)) ≡ length (filter p xs) =
        ap (λ (b : Bool). length (cond b (x ∷ filter p xs) (filter p xs))) e in
        let none : one_if p x ≡ 0 = ap (λ (b : Bool). cond b 1 0) e in
        omega (arith, long, none, rest)

-- sums of sums, in either order
sum_plus : {A : Type 0} (f g : A → ℕ) (xs : List A) → sum_by (λ x. f x + g x) xs ≡ sum_by f xs + sum_by g xs
sum_plus f g [] = refl
sum_plus f g (x ∷ xs) =
    let rest = sum_plus f g xs in
    omega (arith, sum_by-cons (λ y. f y + g y) x xs, sum_by-cons f x xs, sum_by-cons g x xs, rest)

sum_zero : {A : Type 0} (xs : List A) → sum_by (λ (x : A). 0) xs ≡ 0
sum_zero [] = refl
sum_zero {A} (x ∷ xs) =
    let one : sum_by (λ (y : A). 0) (x ∷ xs) ≡ 0 + sum_by (λ (y : A). 0) xs = sum_by-cons (λ (y : A). 0) x xs in
    omega (arith, one, sum_zero xs)

sum_swap : {A B : Type 0} (g : A → B → ℕ) (xs : List A) (ys : List B)
    → sum_by (λ x. sum_by (g x) ys) xs ≡ sum_by (λ y. sum_by (λ x. g x y) xs) ys
sum_swap g [] ys = sym (sum_zero ys)
sum_swap g (x ∷ xs) ys =
    sum_by-cons (λ z. sum_by (g z) ys) x xs
    ∙ ap (λ n. sum_by (g x) ys + n) (sum_swap g xs ys)
    ∙ sym (sum_plus (g x) (λ y. sum_by (λ z. g z y) xs) ys)
    ∙ same_sum (λ y. g x y + sum_by (λ z. g z y) xs) (λ y. sum_by (λ z. g z y) (x ∷ xs)) ys
    (λ y. sym (sum_by-cons (λ z. g z y) x xs))
  where
    same_sum : {C : Type 0} (f h : C → ℕ) (cs : List C) → ((c : C) → f c ≡ h c) → sum_by f cs ≡ sum_by h cs
    same_sum f h [] same = refl
    same_sum f h (c ∷ cs) same =
        sum_by-cons f c cs ∙ ap (λ n. n + sum_by f cs) (same c) ∙ ap (λ n. h c + n) (same_sum f h cs same)
        ∙ sym (sum_by-cons h c cs)

-- the weights of the events of pods among these
pod_events-append : (xs ys : List Event) → pod_events (xs ++ ys) ≡ pod_events xs ++ pod_events ys
pod_events-append xs ys = filter_map-append _ xs ys

weight_of_pod : (f : PodEvent → ℕ) (at n : ℕ) (events : List PodEvent)
    → sum_by f (pod_events (map (λ (e : PodEvent). event at (Pod n e)) events)) ≡ sum_by f events
weight_of_pod f at n [] = refl
weight_of_pod f at n (e ∷ events) =
    sum_by-cons f e (pod_events (map (λ (d : PodEvent). event at (Pod n d)) events))
    ∙ ap (λ k. f e + k) (weight_of_pod f at n events) ∙ sym (sum_by-cons f e events)

weight_of_pods : (f : PodEvent → ℕ) (at n : ℕ) (moment : ℕ) (owns : List (List MadeEvent))
    → sum_by f (pod_events (of_pods at n (map (events_at moment) owns)))
    ≡ sum_by (λ (own : List MadeEvent). sum_by f (events_at moment own)) owns
weight_of_pods f at n moment [] = refl
weight_of_pods f at n moment (own ∷ owns) =
    let first = map (λ (e : PodEvent). event at (Pod n e)) (events_at moment own) in
    let others = of_pods at (n + 1) (map (events_at moment) owns) in
    ap (sum_by f) (pod_events-append first others)
    ∙ sum_by-append f (pod_events first) (pod_events others)
    ∙ ap (λ k. k + sum_by f (pod_events others)) (weight_of_pod f at n (events_at moment own))
    ∙ ap (λ k. sum_by f (events_at moment own) + k) (weight_of_pods f at (n + 1) moment owns)
    ∙ sym (sum_by-cons (λ (o : List MadeEvent). sum_by f (events_at moment o)) own owns)

weight_of_node : (f : PodEvent → ℕ) (at : ℕ) (node_events : List NodeEvent)
    → sum_by f (pod_events (of_node at node_events)) ≡ 0
weight_of_node f at [] = refl
weight_of_node f at (e ∷ node_events) = weight_of_node f at node_events

weight_of_choice : (f : PodEvent → ℕ) (recorded : Bool) (at : ℕ) (choice : Option Eviction)
    → sum_by f (pod_events (of_choice recorded at choice)) ≡ 0
weight_of_choice f recorded at choice = ap (sum_by f) (none_of_choice recorded at choice)

-- each row is that of its tick, by its moment
abbrev pub AreRows : List TickEvents → List TickObs → Type 0
AreRows [] [] = Unit {0}
AreRows (row ∷ rows) (x ∷ ticks) = (row.at ≡ x.at) × AreRows rows ticks
AreRows rows ticks = ⊥

weight_of_ticks : (f : PodEvent → ℕ) (rows : List TickEvents) (ticks : List TickObs) (owns : List (List MadeEvent))
    → AreRows rows ticks
    → sum_by f (pod_events (of_ticks rows owns))
    ≡ sum_by (λ (x : TickObs). sum_by (λ (own : List MadeEvent). sum_by f (events_at x.at own)) owns) ticks
weight_of_ticks f [] [] owns are = refl
weight_of_ticks f [] (x ∷ ticks) owns are = absurd are
weight_of_ticks f (row ∷ rows) [] owns are = absurd are
weight_of_ticks f (row ∷ rows) (x ∷ ticks) owns are =
    let pods = of_pods row.at 0 (map (events_at row.at) owns) in
    let node = of_node row.at row.node_events.items in
    let rest = of_ticks rows owns in
    let g : TickObs → ℕ = λ y. sum_by (λ (own : List MadeEvent). sum_by f (events_at y.at own)) owns in
    let both : sum_by f (pod_events (node ++ rest)) ≡ sum_by f (pod_events node) + sum_by f (pod_events rest) =
    ap (sum_by f) (pod_events-append node rest) ∙ sum_by-append f (pod_events node) (pod_events rest) in
    let none : sum_by f (pod_events node) ≡ 0 = weight_of_node f row.at row.node_events.items in
    let others : sum_by f (pod_events rest) ≡ sum_by g ticks = weight_of_ticks f rows ticks owns are.1 in
    ap (sum_by f) (pod_events-append pods (node ++ rest))
    ∙ sum_by-append f (pod_events pods) (pod_events (node ++ rest))
    ∙ ap (λ k. k + sum_by f (pod_events (node ++ rest))) (weight_of_pods f row.at 0 row.at owns)
    ∙ ap (λ k. sum_by (λ (own : List MadeEvent). sum_by f (events_at row.at own)) owns + k)
    (omega (arith, both, none, others))
    ∙ ap (λ (m : ℕ). sum_by (λ (own : List MadeEvent). sum_by f (events_at m own)) owns + sum_by g ticks) are.0
    ∙ sym (sum_by-cons g x ticks)

-- all pods' events, by their rounds
all_weights : (f : PodEvent → ℕ) (rows : List TickEvents) (ticks : List TickObs) (owns : List (List MadeEvent))
    → AreRows rows ticks
    → ((n : ℕ) (own : List MadeEvent) → slice_get owns n ≡ Some own
    → weight_of f own ≡ sum_by (λ (x : TickObs). sum_by f (events_at x.at own)) ticks)
    → sum_by f (pod_events (of_ticks rows owns)) ≡ sum_by (weight_of f) owns
all_weights f rows ticks owns are weighs =
    weight_of_ticks f rows ticks owns are
    ∙ sum_swap (λ (x : TickObs) (own : List MadeEvent). sum_by f (events_at x.at own)) ticks owns
    ∙ each owns weighs
  where
    each : (owns : List (List MadeEvent))
        → ((n : ℕ) (own : List MadeEvent) → slice_get owns n ≡ Some own
        → weight_of f own ≡ sum_by (λ (x : TickObs). sum_by f (events_at x.at own)) ticks)
        → sum_by (λ (own : List MadeEvent). sum_by (λ (x : TickObs). sum_by f (events_at x.at own)) ticks) owns
        ≡ sum_by (weight_of f) owns
    each [] weighs = refl
    each (own ∷ owns) weighs =
        sum_by-cons (λ (o : List MadeEvent). sum_by (λ (x : TickObs). sum_by f (events_at x.at o)) ticks) own owns
        ∙ ap (λ k. k + sum_by (λ (o : List MadeEvent). sum_by (λ (x : TickObs). sum_by f
        (events_at x.at o)) ticks) owns)
        (sym (weighs 0 own refl))
        ∙ ap (λ k. weight_of f own + k) (each owns (λ n o at. weighs (suc n) o at))
        ∙ sym (sum_by-cons (weight_of f) own owns)

-- how many pods a tick shows, by their numbers
abbrev one_shown : Option PodObs → ℕ
one_shown None = 0
one_shown (Some observed) = 1

abbrev sum_below : (ℕ → ℕ) → ℕ → ℕ
sum_below g zero = 0
sum_below g (suc k) = g 0 + sum_below (λ n. g (suc n)) k

no_more : (g : ℕ → ℕ) (k : ℕ) → ((n : ℕ) → g n ≡ 0) → sum_below g k ≡ 0
no_more g zero none = refl
no_more g (suc k) none =
    let others = no_more (λ m. g (suc m)) k (λ n. none (suc n)) in
    omega (arith, none 0, others)

shown_below : (shown : List (Option PodObs)) (k : ℕ) → length shown ≤ k
    → length (filter_map (λ (o : Option PodObs). o) shown)
    ≡ sum_below (λ n. one_shown (option_flatten (slice_get shown n))) k
shown_below [] k le = sym (no_more (λ n. one_shown (option_flatten (slice_get [] n))) k (λ n. refl))
shown_below (o ∷ shown) zero le = absurd (omega (arith, le))
shown_below (None ∷ shown) (suc k) le =
    let others = shown_below shown k (omega (arith, le)) in
    omega (arith, others)
shown_below (Some o ∷ shown) (suc k) le =
    let others = shown_below shown k (omega (arith, le)) in
    omega (arith, others)

below_plus : (g h : ℕ → ℕ) (k : ℕ) → sum_below (λ n. g n + h n) k ≡ sum_below g k + sum_below h k
below_plus g h zero = refl
below_plus g h (suc k) =
    let rest = below_plus (λ n. g (suc n)) (λ n. h (suc n)) k in
    omega (arith, rest)

below_same : (g h : ℕ → ℕ) (k : ℕ) → ((n : ℕ) → g n ≡ h n) → sum_below g k ≡ sum_below h k
below_same g h zero same = refl
below_same g h (suc k) same =
    ap (λ m. m + sum_below (λ n. g (suc n)) k) (same 0)
    ∙ ap (λ m. h 0 + m) (below_same (λ n. g (suc n)) (λ n. h (suc n)) k (λ n. same (suc n)))

own_count : (x : TickObs) (ticks : List TickObs) (n : ℕ)
    → length (pod_ticks (x ∷ ticks) n) ≡ one_shown (shown_of x n) + length (pod_ticks ticks n)
own_count x ticks n = by (shown_of x n)
  where
    by : (o : Option PodObs)
        → length (map pod_tick (cons_option o (own_ticks ticks n))) ≡ one_shown o + length (pod_ticks ticks n)
    by None = omega arith
    by (Some o) = omega arith

all_updates : (ticks : List TickObs) (k : ℕ)
    → ((t : ℕ) (x : TickObs) → slice_get ticks t ≡ Some x → length x.pods ≤ k)
    → sum_by (λ (x : TickObs). length (all_shown x)) ticks ≡ sum_below (λ n. length (pod_ticks ticks n)) k
all_updates [] k few = sym (no_more (λ n. length (pod_ticks [] n)) k (λ n. refl))
all_updates (x ∷ ticks) k few =
    sum_by-cons (λ (y : TickObs). length (all_shown y)) x ticks
    ∙ ap (λ m. length (all_shown x) + m) (all_updates ticks k (λ t y at. few (suc t) y at))
    ∙ ap (λ m. m + sum_below (λ n. length (pod_ticks ticks n)) k) (shown_below x.pods k (few 0 x refl))
    ∙ sym (below_plus (λ n. one_shown (shown_of x n)) (λ n. length (pod_ticks ticks n)) k)
    ∙ below_same (λ n. one_shown (shown_of x n) + length (pod_ticks ticks n)) (λ n. length (pod_ticks (x ∷ ticks) n)) k
    (λ n. sym (own_count x ticks n))

-- the additions are those of these updates and these events
abbrev pub AreFor : (ℕ → ℕ) → List (List MadeEvent) → List Totals → Type 0
AreFor updates [] [] = Unit {0}
AreFor updates (own ∷ owns) (addition ∷ additions) =
    (addition ≡ addition_of (updates 0) own) × AreFor (λ n. updates (suc n)) owns additions
AreFor updates owns additions = ⊥

added_updates : (updates : ℕ → ℕ) (owns : List (List MadeEvent)) (additions : List Totals)
    → AreFor updates owns additions → sum_by (λ (t : Totals). t.updates) additions ≡ sum_below updates (length owns)
added_updates updates [] [] are = refl
added_updates updates [] (a ∷ additions) are = absurd are
added_updates updates (own ∷ owns) [] are = absurd are
added_updates updates (own ∷ owns) (a ∷ additions) are =
    sum_by-cons (λ (t : Totals). t.updates) a additions
    ∙ ap (λ (t : Totals). t.updates + sum_by (λ (s : Totals). s.updates) additions) are.0
    ∙ ap (λ m. updates 0 + m) (added_updates (λ n. updates (suc n)) owns additions are.1)

added_weights : (f : PodEvent → ℕ) (field : Totals → ℕ)
    → ((n : ℕ) (own : List MadeEvent) → field (addition_of n own) ≡ weight_of f own)
    → (updates : ℕ → ℕ) (owns : List (List MadeEvent)) (additions : List Totals) → AreFor updates owns additions
    → sum_by field additions ≡ sum_by (weight_of f) owns
added_weights f field is updates [] [] are = refl
added_weights f field is updates [] (a ∷ additions) are = absurd are
added_weights f field is updates (own ∷ owns) [] are = absurd are
added_weights f field is updates (own ∷ owns) (a ∷ additions) are =
    sum_by-cons field a additions
    ∙ ap (λ (t : Totals). field t + sum_by field additions) are.0
    ∙ ap (λ m. m + sum_by field additions) (is (updates 0) own)
    ∙ ap (λ m. weight_of f own + m) (added_weights f field is (λ n. updates (suc n)) owns additions are.1)
    ∙ sym (sum_by-cons (weight_of f) own owns)

abbrev totals : ℕ → ℕ → ℕ → Totals
totals updates events orders = record { updates = updates; events = events; orders = orders }

same_totals : (u e o u' e' o' : ℕ) → u ≡ u' → e ≡ e' → o ≡ o' → totals u e o ≡ totals u' e' o'
same_totals u e o u' e' o' p q r = λ i. totals (p i) (q i) (r i)

of_part : (f : PodEvent → ℕ) (evs : List Event) (rows : List TickEvents) (owns : List (List MadeEvent))
    (recorded : Bool) (at : ℕ) (choice : Option Eviction)
    → sum_by f (pod_events (evs ++ (of_ticks rows owns ++ of_choice recorded at choice)))
    ≡ sum_by f (pod_events evs) + sum_by f (pod_events (of_ticks rows owns))
of_part f evs rows owns recorded at choice =
    let more = of_ticks rows owns ++ of_choice recorded at choice in
    let split : sum_by f (pod_events more) ≡ sum_by f (pod_events (of_ticks rows owns)) =
    ap (sum_by f) (pod_events-append (of_ticks rows owns) (of_choice recorded at choice))
    ∙ sum_by-append f (pod_events (of_ticks rows owns)) (pod_events (of_choice recorded at choice))
    ∙ ap (λ n. sum_by f (pod_events (of_ticks rows owns)) + n) (weight_of_choice f recorded at choice) ∙ omega arith in
    ap (sum_by f) (pod_events-append evs more) ∙ sum_by-append f (pod_events evs) (pod_events more)
    ∙ ap (λ n. sum_by f (pod_events evs) + n) split

-- the totals of all ticks, once these are added
pub totals_added : (before ticks : List TickObs) (evs : List Event) (rows : List TickEvents)
    (owns : List (List MadeEvent)) (recorded : Bool) (at : ℕ) (choice : Option Eviction) (additions : List Totals)
    → AreRows rows ticks
    → ((t : ℕ) (x : TickObs) → slice_get ticks t ≡ Some x → length x.pods ≤ length owns)
    → ((f : PodEvent → ℕ) (n : ℕ) (own : List MadeEvent) → slice_get owns n ≡ Some own
    → weight_of f own ≡ sum_by (λ (x : TickObs). sum_by f (events_at x.at own)) ticks)
    → AreFor (λ n. length (pod_ticks ticks n)) owns additions
    → totals_of (before ++ ticks) (evs ++ (of_ticks rows owns ++ of_choice recorded at choice))
    ≡ plus (totals_of before evs) (sums_of_additions additions)
totals_added before ticks evs rows owns recorded at choice additions are few weighs for =
    let count : TickObs → ℕ = λ x. length (all_shown x) in
    let all = evs ++ (of_ticks rows owns ++ of_choice recorded at choice) in
    let events = pod_events all in
    same_totals (sum_by count (before ++ ticks)) (length events) (length (filter is_order events))
    (sum_by count before + sum_by (λ (t : Totals). t.updates) additions)
    (length (pod_events evs) + sum_by (λ (t : Totals). t.events) additions)
    (length (filter is_order (pod_events evs)) + sum_by (λ (t : Totals). t.orders) additions)
    (sum_by-append count before ticks
    ∙ ap (λ n. sum_by count before + n) (all_updates ticks (length owns) few
    ∙ sym (added_updates (λ n. length (pod_ticks ticks n)) owns additions for)))
    (length_as_sum events ∙ of_part one_each evs rows owns recorded at choice
    ∙ ap (λ n. n + sum_by one_each (pod_events (of_ticks rows owns))) (sym (length_as_sum (pod_events evs)))
    ∙ ap (λ n. length (pod_events evs) + n) (all_weights one_each rows ticks owns are (weighs one_each)
    ∙ sym (added_weights one_each (λ t. t.events) (λ n own. length_as_sum own) (λ n. length (pod_ticks ticks n)) owns
    additions for)))
    (filter_as_sum is_order events ∙ of_part (one_if is_order) evs rows owns recorded at choice
    ∙ ap (λ n. n + sum_by (one_if is_order) (pod_events (of_ticks rows owns)))
    (sym (filter_as_sum is_order (pod_events evs)))
    ∙ ap (λ n. length (filter is_order (pod_events evs)) + n)
    (all_weights (one_if is_order) rows ticks owns are (weighs (one_if is_order))
    ∙ sym (added_weights (one_if is_order) (λ t. t.orders) (λ n own. filter_as_sum is_made_order own)
    (λ n. length (pod_ticks ticks n)) owns additions for)))
