-- The events of a piece's round: there is one list of them, it is not long, and it is that of the earlier ticks with
-- those of the last.
use Rattle.std.proofs.Common.{◌≡◌, ◌∙◌, ℕ, suc, ◌+◌, ◌*◌, ◌^◌, ◌-◌, ◌<◌, ◌≤◌, List, [], ◌∷◌, ◌++◌, length, map, take}
use Rattle.std.proofs.Common.{drop, cond, Bool, true, false, Option, Some, refl, ap, sym, subst, append-nil}
use Rattle.std.proofs.Common.{length-append}
use Rattle.std.proofs.Common.{arith}
use Rattle.std.specs.List.{filter}
use Rattle.std.proofs.lemmas.Grind.{flat_map-append}
use Rattle.std.proofs.lemmas.List.{length-map, length-drop, take-append-drop}
use Rattle.std.proofs.lemmas.List.{length-take-le, take_all}
use Rattle.std.proofs.lemmas.List.Elements.{filter-append}
use Rattle.std.proofs.lemmas.List.Sums.{length-filter, count_by-le-length}
use Rattle.histories.proofs.Places.{length-more}
use Rattle.histories.proofs.Lists.{given_at}
use Rattle.manifest.specs.declared.pod.PodSpec.{PodSpec}
use Rattle.manifest.specs.rule.Containers.{most_containers}
use Rattle.pod_state.specs.declared.events.PodEvent.{PodEvent}
use Rattle.pod_state.specs.rule.Pods.{PodTick}
use Rattle.pod_state.proofs.PodEventLemmas.{one_list_of_pod_events}
use Rattle.pod_piece.specs.declared.made.MadeTick.{MadeTick}
use Rattle.pod_piece.specs.rule.Piece.{Piece, ticks}
use Rattle.pod_piece.specs.state.Piece.{before_last, last_of, evicted_at, evicted_before}
use Rattle.pod_piece.specs.state.Made.{MadeEvent, made_at, made_of, AreMadeOver, round_length, round_of}
use Rattle.pod_piece.specs.state.Made.{AreRoundEvents, AreEarlierEvents}
use Rattle.pod_piece.specs.state.Status.{AreEventsAfter, AreLastEvents}
use Rattle.pod_piece.proofs.LastTicks.{split_last}
use Rattle.pod_piece.proofs.Rounds.{made_round, none_made}
use Rattle.totals.specs.declared.totals.Totals.{Totals}
use Rattle.totals.specs.state.Limits.{most_events, most_updates, IsLowAddition}
use Rattle.totals.specs.declared.totals.Entry.{Entry}
use Rattle.totals.specs.rule.Totals.{is_order}
use Rattle.totals.specs.state.Totals.{entry_of, IsEntryOf, one_update}
use Rattle.totals.specs.state.Rounds.{is_made_order, entry_of_made, addition_of, IsAdditionOf}
use Rattle.totals.proofs.Low.{few_events, low}
use Rattle.totals.proofs.Numbers.{totals_same}

-- there is one list
pub one_made : (pod : PodSpec) (delay : ℕ) (evicted : Option ℕ) (before h : List PodTick) (made others : List MadeEvent)
    → AreMadeOver pod delay evicted before h made → AreMadeOver pod delay evicted before h others → made ≡ others
one_made pod delay evicted before [] made others none never = none ∙ sym never
one_made pod delay evicted before (t ∷ h) made others (a, rest, are, over, is) (b, left, were, past, was) =
    let first : a ≡ b =
    one_list_of_pod_events pod delay (evicted_before evicted (length before)) before t a b are were in
    let later : rest ≡ left = one_made pod delay evicted (before ++ t ∷ []) h rest left over past in
    is ∙ (ap (λ (l : List PodEvent). made_at t.moment l ++ rest) first
    ∙ (ap (λ (l : List MadeEvent). made_at t.moment b ++ l) later ∙ sym was))

pub length_made_at : (m : ℕ) (events : List PodEvent) → length (made_at m events) ≡ length events
length_made_at m events = length-map events (λ (e : PodEvent). let x : MadeEvent = record { at = m; event = e } in x)

counted : {X Y : Type 0} (b : Bool) (x : X) (y : Y) (xs : List X) (ys : List Y) → length ys ≡ length xs
    → length (cond b (y ∷ ys) ys) ≡ length (cond b (x ∷ xs) xs)
counted true x y xs ys same = ap suc same
counted false x y xs ys same = same

-- as many of the images pass a test as of the items themselves
passing : {X Y : Type 0} (p : Y → Bool) (f : X → Y) (xs : List X)
    → length (filter p (map f xs)) ≡ length (filter (λ x. p (f x)) xs)
passing p f [] = refl
passing p f (x ∷ xs) =
    counted (p (f x)) x (f x) (filter (λ y. p (f y)) xs) (filter p (map f xs)) (passing p f xs)

abbrev event_made : ℕ → PodEvent → MadeEvent
event_made at e = record { at = at; event = e }

pub orders_made_at : (m : ℕ) (events : List PodEvent)
    → length (filter is_made_order (made_at m events)) ≡ length (filter is_order events)
orders_made_at m events = passing is_made_order (event_made m) events

-- few events come of each tick
pub few_made : (pod : PodSpec) (delay : ℕ) (evicted : Option ℕ) (before h : List PodTick) (made : List MadeEvent)
    → length pod.containers ≤ most_containers → AreMadeOver pod delay evicted before h made
    → length made ≤ length h * most_events
few_made pod delay evicted before [] made few none = let e = ap length none in omega (arith, e)
few_made pod delay evicted before (t ∷ h) made few (events, rest, are, over, is) =
    let first = few_events pod delay (evicted_before evicted (length before)) before t events few are in
    let later = few_made pod delay evicted (before ++ t ∷ []) h rest few over in
    let long = ap length is in
    omega (arith, first, later, long, length-append (made_at t.moment events) rest, length_made_at t.moment events)

-- a round that is not empty has a last tick
pub last_tick : (p : Piece) → 0 < round_length p → (x : PodTick) × (last_of (ticks p) ≡ Some x)
last_tick p some = given_at (ticks p) (length (ticks p) - 1) (omega (arith, some))

-- the events of a round that is not empty
pub round_events : (p : Piece) (rows : List MadeTick) (events : List PodEvent) (x : PodTick) → 0 < round_length p
    → last_of (ticks p) ≡ Some x → AreEarlierEvents p rows → AreLastEvents p events
    → AreRoundEvents p (made_of rows ++ made_at x.moment events)
round_events p rows events x some last earlier are =
    let h = ticks p in
    let g = before_last h in
    let split : h ≡ g ++ x ∷ [] = split_last h x last in
    let long : length h ≡ suc (length g) = ap length split ∙ length-more g x in
    let Earlier : List PodTick → Type 0 =
    λ t. AreMadeOver p.pod p.max_restart_delay (evicted_at p) (take p.begun t) (before_last (drop p.begun t))
    (made_of rows) in
    let Last : List PodTick → Type 0 = λ t. AreEventsAfter p.pod p.max_restart_delay (evicted_at p) t events in
    let Round : List PodTick → Type 0 =
    λ t. AreMadeOver p.pod p.max_restart_delay (evicted_at p) (take p.begun t) (drop p.begun t)
    (made_of rows ++ made_at x.moment events) in
    subst Round (sym split)
    (made_round p.pod p.max_restart_delay (evicted_at p) p.begun g x (made_of rows) events
    (omega (arith, some, long)) (subst Earlier split earlier) (subst Last split are))

-- those of an empty one
pub empty_round : (p : Piece) → round_length p ≡ 0 → AreRoundEvents p []
empty_round p none =
    none_made p.pod p.max_restart_delay (evicted_at p) p.begun (ticks p) [] (omega (arith, none)) refl

-- the events of the first of these ticks, with those of one more
pub made_of-more : (rows : List MadeTick) (i : ℕ) (row : MadeTick) → take (i + 1) rows ≡ take i rows ++ row ∷ []
    → made_of (take (i + 1) rows) ≡ made_of (take i rows) ++ made_at row.at row.events.items
made_of-more rows i row more =
    ap made_of more
    ∙ (flat_map-append (λ (t : MadeTick). made_at t.at t.events.items) (take i rows) (row ∷ [])
    ∙ ap (λ (l : List MadeEvent). made_of (take i rows) ++ l) (append-nil (made_at row.at row.events.items)))

-- the first of them make no more events than all
pub made_of-part : (rows : List MadeTick) (i : ℕ) → length (made_of (take i rows)) ≤ length (made_of rows)
made_of-part rows i =
    let split =
    ap made_of (sym (take-append-drop i rows))
    ∙ flat_map-append (λ (t : MadeTick). made_at t.at t.events.items) (take i rows) (drop i rows) in
    let long = ap length split in
    omega (arith, long, length-append (made_of (take i rows)) (made_of (drop i rows)))

-- the earlier ticks of a round make few events
pub few_earlier : (p : Piece) (rows : List MadeTick) → length p.pod.containers ≤ most_containers
    → AreEarlierEvents p rows → length (made_of rows) ≤ round_length p * most_events
few_earlier p rows few earlier =
    let h = round_of p in
    let some = few_made p.pod p.max_restart_delay (evicted_at p) (take p.begun (ticks p)) (before_last h) (made_of rows)
    few earlier in
    let long : length h ≡ round_length p = length-drop p.begun (ticks p) in
    let fewer : length (before_last h) ≤ length h =
    (let e = length-take-le (length h - 1) h (omega arith) in omega (arith, e)) in
    omega (arith, some, long, fewer)

-- what a round adds is little
pub low_addition : (p : Piece) (totals : Totals) → length p.pod.containers ≤ most_containers
    → round_length p ≤ most_updates → IsAdditionOf p totals → IsLowAddition totals
low_addition p totals few short (made, are, is) =
    let some = few_made p.pod p.max_restart_delay (evicted_at p) (take p.begun (ticks p)) (round_of p) made few are in
    let long : length (round_of p) ≡ round_length p = length-drop p.begun (ticks p) in
    let orders = count_by-le-length is_made_order made in
    let counted = length-filter is_made_order made in
    let updates_is = ap (λ (t : Totals). t.updates) is in
    let events_is = ap (λ (t : Totals). t.events) is in
    let orders_is = ap (λ (t : Totals). t.orders) is in
    record {
      updates = omega (arith, short, updates_is);
      events = omega (arith, some, long, updates_is, events_is);
      orders = omega (arith, some, long, updates_is, orders_is, orders, counted);
    }

-- and determined
pub one_addition : (p : Piece) (totals other : Totals) → IsAdditionOf p totals → IsAdditionOf p other → totals ≡ other
one_addition p totals other (made, are, is) (others, were, was) =
    is
    ∙ (ap (addition_of (round_length p))
    (one_made p.pod p.max_restart_delay (evicted_at p) (take p.begun (ticks p)) (round_of p) made others are were)
    ∙ sym was)

-- what a round that is not empty adds, by the events of its earlier ticks and those of the last
pub round_addition : (p : Piece) (rows : List MadeTick) (events : List PodEvent) (totals : Totals) → 0 < round_length p
    → AreEarlierEvents p rows → AreLastEvents p events → totals.updates ≡ round_length p
    → totals.events ≡ length (made_of rows) + length events
    → totals.orders ≡ length (filter is_made_order (made_of rows)) + length (filter is_order events)
    → IsAdditionOf p totals
round_addition p rows events totals some earlier are updates_is events_is orders_is =
    let last = last_tick p some in
    let x = last.0 in
    let made = made_of rows ++ made_at x.moment events in
    let split =
    ap length (filter-append is_made_order (made_of rows) (made_at x.moment events))
    ∙ length-append (filter is_made_order (made_of rows)) (filter is_made_order (made_at x.moment events)) in (
      made,
      round_events p rows events x some last.1 earlier are,
      totals_same totals (addition_of (round_length p) made) updates_is
          (omega (
            arith,
            events_is,
            length-append (made_of rows) (made_at x.moment events),
            length_made_at x.moment events,
          ))
          (omega (arith, orders_is, split, orders_made_at x.moment events)),
    )

-- the entry of one tick more
pub entry_more : (rows : List MadeTick) (i : ℕ) (row : MadeTick) (entry : Entry) (events orders : ℕ)
    → take (i + 1) rows ≡ take i rows ++ row ∷ [] → entry ≡ entry_of row.events.items
    → events ≡ length (made_of (take i rows)) → orders ≡ length (filter is_made_order (made_of (take i rows)))
    → (events + entry.events ≡ length (made_of (take (i + 1) rows)))
    × (orders + entry.orders ≡ length (filter is_made_order (made_of (take (i + 1) rows))))
entry_more rows i row entry events orders more is events_is orders_is =
    let all = made_of-more rows i row more in
    let before = made_of (take i rows) in
    let now = made_at row.at row.events.items in
    let long = ap length all ∙ length-append before now in
    let ordered = ap (λ (l : List MadeEvent). length (filter is_made_order l)) all
    ∙ ap length (filter-append is_made_order before now)
    ∙ length-append (filter is_made_order before) (filter is_made_order now) in
    let e = ap (λ (f : Entry). f.events) is in
    let o = ap (λ (f : Entry). f.orders) is in (
      omega (arith, long, e, events_is, length_made_at row.at row.events.items),
      omega (arith, ordered, o, orders_is, orders_made_at row.at row.events.items),
    )

-- it is no more than that of all
pub entry_low : (rows : List MadeTick) (i : ℕ)
    → length (filter is_made_order (made_of (take i rows))) ≤ length (made_of rows)
entry_low rows i =
    let part = made_of (take i rows) in
    let orders = count_by-le-length is_made_order part in
    omega (arith, orders, length-filter is_made_order part, made_of-part rows i)

-- the entries of its earlier ticks and of its last one are low
pub few_in_round : (p : Piece) (rows : List MadeTick) (events : List PodEvent) (earlier last : Entry)
    → length p.pod.containers ≤ most_containers → round_length p ≤ most_updates → AreEarlierEvents p rows
    → AreLastEvents p events → earlier ≡ entry_of_made (made_of rows) → last ≡ entry_of events
    → (earlier.events + last.events ≤ 2 ^ 48) × (earlier.orders + last.orders ≤ 2 ^ 48)
few_in_round p rows events earlier last few short before are is was =
    let many = few_earlier p rows few before in
    let one = low p last few (events, are, was) in
    let orders = entry_low rows (length rows) in
    let whole = ap (λ (l : List MadeTick). length (filter is_made_order (made_of l)))
    (take_all (length rows) rows (omega arith)) in
    let e = ap (λ (f : Entry). f.events) is in
    let o = ap (λ (f : Entry). f.orders) is in
    let last_events = one.events in
    let last_orders = one.orders in (
      omega (arith, many, short, e, last_events),
      omega (arith, many, short, o, orders, whole, last_orders),
    )

-- a round of one tick adds one update, with the entry of that tick
pub entry_added : (p : Piece) (entry : Entry) → round_length p ≡ 1 → IsEntryOf p entry
    → IsAdditionOf p (one_update entry)
entry_added p entry one (events, are, is) =
    let Over : List PodTick → Type 0 =
    λ h. AreMadeOver p.pod p.max_restart_delay (evicted_at p) (take p.begun (ticks p)) h [] in
    let long : length (round_of p) ≡ round_length p = length-drop p.begun (ticks p) in
    let none : before_last (round_of p) ≡ [] =
    ap (λ n. take n (round_of p)) {x = length (round_of p) - 1} {y = 0} (omega (arith, long, one)) in
    let events_is = ap (λ (e : Entry). e.events) is in
    let orders_is = ap (λ (e : Entry). e.orders) is in
    round_addition p [] events (one_update entry) (omega (arith, one)) (subst Over (sym none) refl) are (sym one)
    (omega (arith, events_is)) (omega (arith, orders_is))
