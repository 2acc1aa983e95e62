-- The shape of a trace.
use Rattle.std.proofs.Common.{◌≡◌, ◌≢◌, ◌∙◌, ℕ, zero, suc, ◌+◌, ◌≤◌, ◌<◌, true, false, List, [], ◌∷◌, ◌++◌, length}
use Rattle.std.proofs.Common.{Bool, Option, Some, None, Result, Ok, Err, refl, ap, sym, subst, inl, inr, arith}
use Rattle.std.specs.Prelude.{slice_get, slice_set, codes, IfOk, IsSome}
use Rattle.std.proofs.lemmas.List.{length-append}
use Rattle.std.proofs.lemmas.Option.{slice_get_within}
use Rattle.quantity.specs.rule.Duration.{end_of_time}
use Rattle.histories.proofs.Lists.{given_at, place_split, slice_get-kept, set_length, set_others, set_split}
use Rattle.json_fields.specs.rule.Fields.{field_at, text_at}
use Rattle.manifest.specs.declared.pod.PodSpec.{PodSpec}
use Rattle.observations.specs.rule.Pods.{PodObs}
use Rattle.observations.specs.declared.tick.TickObs.{TickObs}
use Rattle.observations.specs.rule.Limits.{most_pods, most_ticks}
use Rattle.node_config.specs.declared.node.Format.{Format}
use Rattle.line_faults.specs.declared.fault.LineFault.{LineFault}
use Rattle.trace.specs.declared.trace_so_far.Trace.{Trace}
use Rattle.tick_lines.specs.declared.line.TickLine.{TickLine}
use Rattle.trace.specs.declared.placing.PlacedEntry.{PlacedEntry}
use Rattle.trace.specs.state.Memory.{GivesAt}
use Rattle.trace.specs.state.Laws.{HasKey, Says, says_node, says_pod, says_gone, says_tick}
use Rattle.trace.specs.rule.Observed.{observed}
use Rattle.trace.specs.rule.TraceSoFar.{TraceSoFar, with_pod, without, heeds}
use Rattle.trace.specs.rule.Pod.{named_in}
use Rattle.roster.specs.rule.Roll.{Roll, key_of_pod, stays, is_present}
use Rattle.trace.specs.state.Sound.{HasArrived, Stays, ShowsEach, AreArrivals, AreDepartures, HaveOwnKeys, HasShape}
use Rattle.trace.specs.rule.Trace.{trace_of}
use Rattle.trace.proofs.Keys.{named}
use Rattle.trace.proofs.Moments.{rising-more, moment_later, moment_low}
use Rattle.trace.proofs.Said.{IsKept, of_trace}
use Rattle.trace.proofs.Shown.{as_many, some_shown, moment_shown, count_shown}

one_more : {A : Type 0} (xs : List A) (x : A) (most : ℕ) → length xs < most → length (xs ++ x ∷ []) ≤ most
one_more xs x most room = let more = length-append xs (x ∷ []) in omega arith

-- the pods that have arrived before a tick
arrived_within : (arrivals : List ℕ) (t n : ℕ) → HasArrived arrivals t n → n < length arrivals
arrived_within [] t n is = absurd is
arrived_within (a ∷ rest) t zero is = omega arith
arrived_within (a ∷ rest) t (suc n) is = let lt = arrived_within rest t n is in omega arith

arrived_all : (arrivals : List ℕ) (t n : ℕ) → ((m arrival : ℕ) → slice_get arrivals m ≡ Some arrival → arrival ≤ t)
    → n < length arrivals → HasArrived arrivals t n
arrived_all [] t n all lt = absurd (omega arith)
arrived_all (a ∷ rest) t zero all lt = all 0 a refl
arrived_all (a ∷ rest) t (suc n) all lt = arrived_all rest t n (λ m arrival e. all (suc m) arrival e) (omega arith)

arrived_more : (arrivals : List ℕ) (arrival t n : ℕ) → HasArrived arrivals t n
    → HasArrived (arrivals ++ arrival ∷ []) t n
arrived_more [] arrival t n is = absurd is
arrived_more (a ∷ rest) arrival t zero is = is
arrived_more (a ∷ rest) arrival t (suc n) is = arrived_more rest arrival t n is

arrived_before : (arrivals : List ℕ) (arrival t n : ℕ) → t < arrival → HasArrived (arrivals ++ arrival ∷ []) t n
    → HasArrived arrivals t n
arrived_before [] arrival t zero lt is = let le : arrival ≤ t = is in absurd (omega arith)
arrived_before [] arrival t (suc n) lt is = absurd is
arrived_before (a ∷ rest) arrival t zero lt is = is
arrived_before (a ∷ rest) arrival t (suc n) lt is = arrived_before rest arrival t n lt is

-- those that have not left after all ticks so far are those that are present
present_stays : (departures : List (Option ℕ)) (t n : ℕ) → is_present departures n ≡ true → Stays departures t n
present_stays departures t n is departure here =
    let never : false ≡ true = ap stays (sym here) ∙ is in
    absurd (cc)

stays_present : (departures : List (Option ℕ)) (t n : ℕ)
    → ((m departure : ℕ) → slice_get departures m ≡ Some (Some departure) → departure ≤ t)
    → n < length departures → Stays departures t n → is_present departures n ≡ true
stays_present departures t n all lt still =
    let here = given_at departures n lt in
    ap stays here.1 ∙ by here.0 here.1
  where
    by : (o : Option ℕ) → slice_get departures n ≡ Some o → stays (Some o) ≡ true
    by None here = refl
    by (Some departure) here =
        let low = all n departure here in
        let high = still departure here in
        absurd (omega (arith, low, high))

-- the departures with one more pod, which has not left
stays_more : (departures : List (Option ℕ)) (t n : ℕ) → Stays departures t n → Stays (departures ++ None ∷ []) t n
stays_more departures t n still departure here = elim (place_split departures None (Some departure) n here) [
  | inl before ↦ still departure before
  | inr last ↦ absurd (let never = last.1 in cc)
]

stays_before : (departures : List (Option ℕ)) (t n : ℕ) → Stays (departures ++ None ∷ []) t n → Stays departures t n
stays_before departures t n still departure here =
    still departure (slice_get-kept departures (None ∷ []) n (Some departure) here)

-- a pod that was present is none of those that had left
was_here : (departures : List (Option ℕ)) (number n departure : ℕ) → is_present departures number ≡ true
    → slice_get departures n ≡ Some (Some departure) → n ≢ number
was_here departures number n departure is here same =
    let never : false ≡ true = ap stays (sym here) ∙ ap (is_present departures) same ∙ is in
    absurd (cc)

still_gone : (departures : List (Option ℕ)) (number now n departure : ℕ) → is_present departures number ≡ true
    → slice_get departures n ≡ Some (Some departure)
    → slice_get (slice_set departures number (Some now)) n ≡ Some (Some departure)
still_gone departures number now n departure is here =
    set_others departures number n (Some now) (was_here departures number n departure is here) ∙ here

-- the departures once a pod leaves later than the tick
stays_after : (departures : List (Option ℕ)) (number now t n : ℕ) → t < now → Stays departures t n
    → Stays (slice_set departures number (Some now)) t n
stays_after departures number now t n lt still departure here =
    elim (set_split departures number (Some now) (Some departure) n here) [
      | inl it ↦ let is : now ≡ departure = (let same = it.1 in cc) in omega (arith, lt, is)
      | inr other ↦ still departure other.1
    ]

stayed : (departures : List (Option ℕ)) (number now t n : ℕ) → is_present departures number ≡ true
    → Stays (slice_set departures number (Some now)) t n → Stays departures t n
stayed departures number now t n is still departure here =
    still departure (still_gone departures number now n departure is here)

-- what a tick shows of the pods
shows_each : (heeds : Bool) (at : ℕ) (written : TickLine) (es : List PlacedEntry) (roll : Roll) (t : ℕ)
    → AreArrivals (length roll.pods) t roll.arrivals → AreDepartures (length roll.pods) t roll.arrivals roll.departures
    → ShowsEach roll.pods roll.arrivals roll.departures t (observed heeds at written es roll)
shows_each heeds at written es roll t all left = record {
  told = λ n. (
    λ lt. arrived_all roll.arrivals t n all.in_range
        (omega (arith, as_many at es roll.departures 0 roll.pods, all.as_many)),
    λ is.
        let within = arrived_within roll.arrivals t n is in
        omega (arith, as_many at es roll.departures 0 roll.pods, all.as_many),
  );
  present = λ n. (
    λ some.
        let is = (some_shown at es roll.departures 0 roll.pods n).0 some in
        let lt = is.0 in (
          arrived_all roll.arrivals t n all.in_range (omega (arith, lt, all.as_many)),
          present_stays roll.departures t n (ap (is_present roll.departures) (zeroth n) ∙ is.1),
        ),
    λ is.
        let within = arrived_within roll.arrivals t n is.0 in
        let lt : n < length roll.departures = omega (arith, within, all.as_many, left.as_many) in
        let here = stays_present roll.departures t n left.in_range lt is.1 in
        (some_shown at es roll.departures 0 roll.pods n).1
        (omega (arith, within, all.as_many), ap (is_present roll.departures) (sym (zeroth n)) ∙ here),
  );
  moment = moment_shown at es roll.departures 0 roll.pods;
  containers = count_shown at es roll.departures 0 roll.pods;
}
  where
    zeroth : (n : ℕ) → n ≡ 0 + n
    zeroth n = omega arith

-- a tick shows what it did after one pod more, which arrives later
shows_more : (roll : Roll) (t : ℕ) (tick : TickObs) (pod : PodSpec) (arrival : ℕ)
    → t < arrival → length roll.arrivals ≡ length roll.pods
    → ShowsEach roll.pods roll.arrivals roll.departures t tick
    → ShowsEach (roll.pods ++ pod ∷ []) (roll.arrivals ++ arrival ∷ []) (roll.departures ++ None ∷ []) t tick
shows_more roll t tick pod arrival lt as_many all = record {
  told = λ n. (
    λ within. arrived_more roll.arrivals arrival t n ((all.told n).0 within),
    λ is. (all.told n).1 (arrived_before roll.arrivals arrival t n lt is),
  );
  present = λ n. (
    λ some.
        let is = (all.present n).0 some in
        (arrived_more roll.arrivals arrival t n is.0, stays_more roll.departures t n is.1),
    λ is. (all.present n).1
        (arrived_before roll.arrivals arrival t n lt is.0, stays_before roll.departures t n is.1),
  );
  moment = all.moment;
  containers = λ n q shown here there. elim (place_split roll.pods pod q n here) [
    | inl before ↦ all.containers n q shown before there
    | inr last ↦
        let some = subst (λ (o : Option PodObs). IsSome o) (sym there) refl in
        let within = arrived_within roll.arrivals t n ((all.present n).0 some).0 in
        absurd (omega (arith, last.0, as_many))
  ];
}

-- and after a pod has left, later than the tick
shows_left : (roll : Roll) (number now t : ℕ) (tick : TickObs) → t < now → is_present roll.departures number ≡ true
    → ShowsEach roll.pods roll.arrivals roll.departures t tick
    → ShowsEach roll.pods roll.arrivals (slice_set roll.departures number (Some now)) t tick
shows_left roll number now t tick lt here all = record {
  told = all.told;
  present = λ n. (
    λ some.
        let is = (all.present n).0 some in
        (is.0, stays_after roll.departures number now t n lt is.1),
    λ is. (all.present n).1 (is.0, stayed roll.departures number now t n here is.1),
  );
  moment = all.moment;
  containers = all.containers;
}

-- the arrivals with one more, after all ticks
arrivals_more : (pods ticks : ℕ) (arrivals : List ℕ) → AreArrivals pods ticks arrivals
    → AreArrivals (pods + 1) ticks (arrivals ++ ticks ∷ [])
arrivals_more pods ticks arrivals all = record {
  as_many = omega (arith, length-append arrivals (ticks ∷ []), all.as_many);
  in_range = λ n arrival here. elim (place_split arrivals ticks arrival n here) [
    | inl before ↦ all.in_range n arrival before
    | inr last ↦ omega (arith, last.1)
  ];
  in_order = λ n m earlier later le here there. elim (place_split arrivals ticks later m there) [
    | inl after ↦ elim (place_split arrivals ticks earlier n here) [
      | inl before ↦ all.in_order n m earlier later le before after
      | inr last ↦ let within = slice_get_within arrivals m later after in absurd (omega (arith, last.0))
    ]
    | inr last ↦ elim (place_split arrivals ticks earlier n here) [
      | inl before ↦ let low = all.in_range n earlier before in omega (arith, last.1)
      | inr same ↦ omega (arith, last.1, same.1)
    ]
  ];
}

-- the departures with one pod more, which has not left
departures_more : (pods ticks : ℕ) (arrivals : List ℕ) (departures : List (Option ℕ)) → length arrivals ≡ pods
    → AreDepartures pods ticks arrivals departures
    → AreDepartures (pods + 1) ticks (arrivals ++ ticks ∷ []) (departures ++ None ∷ [])
departures_more pods ticks arrivals departures as_many all = record {
  as_many = omega (arith, length-append departures (None ∷ []), all.as_many);
  in_range = λ n departure here. elim (place_split departures None (Some departure) n here) [
    | inl before ↦ all.in_range n departure before
    | inr last ↦ absurd (let never = last.1 in cc)
  ];
  later = λ n departure arrival here there. elim (place_split departures None (Some departure) n here) [
    | inl before ↦ elim (place_split arrivals ticks arrival n there) [
      | inl earlier ↦ all.later n departure arrival before earlier
      | inr last ↦
          let within = slice_get_within departures n (Some departure) before in
          absurd (omega (arith, last.0, within, as_many, all.as_many))
    ]
    | inr last ↦ absurd (let never = last.1 in cc)
  ];
}

-- and once a pod leaves, after all ticks
departures_after : (pods ticks number : ℕ) (arrivals : List ℕ) (departures : List (Option ℕ))
    → AreArrivals pods ticks arrivals → AreDepartures pods ticks arrivals departures
    → AreDepartures pods ticks arrivals (slice_set departures number (Some ticks))
departures_after pods ticks number arrivals departures came all = record {
  as_many = set_length departures number (Some ticks) ∙ all.as_many;
  in_range = λ n departure here. elim (set_split departures number (Some ticks) (Some departure) n here) [
    | inl it ↦ let is : ticks ≡ departure = (let same = it.1 in cc) in omega (arith, is)
    | inr other ↦ all.in_range n departure other.1
  ];
  later = λ n departure arrival here there.
      elim (set_split departures number (Some ticks) (Some departure) n here) [
        | inl it ↦
            let is : ticks ≡ departure = (let same = it.1 in cc) in
            let low = came.in_range n arrival there in
            omega (arith, is, low)
        | inr other ↦ all.later n departure arrival other.1 there
      ];
}

-- a pod's key is that of no earlier pod that has not left
apart_more : (roll : Roll) (pod : PodSpec) (ticks : ℕ) → AreArrivals (length roll.pods) ticks roll.arrivals
    → AreDepartures (length roll.pods) ticks roll.arrivals roll.departures
    → HaveOwnKeys roll.pods roll.arrivals roll.departures → (HasKey roll (key_of_pod pod) → ⊥)
    → HaveOwnKeys (roll.pods ++ pod ∷ []) (roll.arrivals ++ ticks ∷ []) (roll.departures ++ None ∷ [])
apart_more roll pod ticks came left own new n m p q arrival lt here there at same =
    elim (place_split roll.pods pod q m there) [
      | inl b ↦
          let before = slice_get_within roll.pods m q b in
          elim (place_split roll.pods pod p n here) [
            | inl a ↦ elim (place_split roll.arrivals ticks arrival m at) [
              | inl c ↦
                  let w = own n m p q arrival lt a b c same in
                  (w.0, slice_get-kept roll.departures (None ∷ []) n (Some w.0) w.1, w.2)
              | inr c ↦ absurd (omega (arith, c.0, before, came.as_many))
            ]
            | inr a ↦ absurd (omega (arith, a.0, before, lt))
          ]
      | inr b ↦ elim (place_split roll.pods pod p n here) [
        | inl a ↦ elim (place_split roll.arrivals ticks arrival m at) [
          | inl c ↦
              let within = slice_get_within roll.arrivals m arrival c in
              absurd (omega (arith, b.0, within, came.as_many))
          | inr c ↦
              let within = slice_get_within roll.pods n p a in
              let found = given_at roll.departures n (omega (arith, within, left.as_many)) in
              let w = by a (same ∙ sym (ap key_of_pod b.1)) found.0 found.1 in
              let low = left.in_range n w.0 w.1 in (
                w.0,
                slice_get-kept roll.departures (None ∷ []) n (Some w.0) w.1,
                omega (arith, low, c.1),
              )
        ]
        | inr a ↦ absurd (omega (arith, a.0, b.0, lt))
      ]
    ]
  where
    by : slice_get roll.pods n ≡ Some p → key_of_pod p ≡ key_of_pod pod → (o : Option ℕ)
        → slice_get roll.departures n ≡ Some o
        → (departure : ℕ) × (slice_get roll.departures n ≡ Some (Some departure))
    by a is None found =
        absurd (new (n, record { pod = p; at = a; present = ap stays found; key_is = is }))
    by a is (Some departure) found = (departure, found)

apart_after : (roll : Roll) (number ticks : ℕ) → is_present roll.departures number ≡ true
    → HaveOwnKeys roll.pods roll.arrivals roll.departures
    → HaveOwnKeys roll.pods roll.arrivals (slice_set roll.departures number (Some ticks))
apart_after roll number ticks is own n m p q arrival lt here there at same =
    let w = own n m p q arrival lt here there at same in
    (w.0, still_gone roll.departures number ticks n w.0 is w.1, w.2)

abbrev IsShaped : TraceSoFar → Type 0
IsShaped past = HasShape past.roll.pods past.roll.arrivals past.roll.departures past.ticks

-- the pod that a line names is present
named_present : (roll : Roll) (key : Option (List ℕ)) (number : ℕ) → named_in roll key ≡ Some number
    → is_present roll.departures number ≡ true
named_present roll None number e = absurd (cc)
named_present roll (Some key) number e = (named roll key number e).present

-- a pod leaves
left_keeps : (past : TraceSoFar) (number : ℕ) → is_present past.roll.departures number ≡ true → IsShaped past
    → IsShaped (without past number)
left_keeps past number is all = record {
  shown = λ t tick here.
      shows_left past.roll number (length past.ticks) t tick (slice_get_within past.ticks t tick here) is
      (all.shown t tick here);
  arrived = all.arrived;
  left = departures_after (length past.roll.pods) (length past.ticks) number past.roll.arrivals past.roll.departures
      all.arrived all.left;
  below = all.below;
  rising = all.rising;
  few_ticks = all.few_ticks;
  few_pods = all.few_pods;
  own_keys = apart_after past.roll number (length past.ticks) is all.own_keys;
}

-- a pod arrives
pod_keeps : (past : TraceSoFar) (pod : PodSpec) → length past.roll.pods < most_pods
    → (HasKey past.roll (key_of_pod pod) → ⊥) → IsShaped past → IsShaped (with_pod past pod)
pod_keeps past pod room new all =
    let roll = past.roll in
    let now = length past.ticks in
    let more : length roll.pods + 1 ≡ length (roll.pods ++ pod ∷ []) = sym (length-append roll.pods (pod ∷ [])) in
    record {
      shown = λ t tick here.
          shows_more roll t tick pod now (slice_get_within past.ticks t tick here) all.arrived.as_many
          (all.shown t tick here);
      arrived = subst (λ (n : ℕ). AreArrivals n now (roll.arrivals ++ now ∷ [])) more
          (arrivals_more (length roll.pods) now roll.arrivals all.arrived);
      left = subst (λ (n : ℕ). AreDepartures n now (roll.arrivals ++ now ∷ []) (roll.departures ++ None ∷ [])) more
          (departures_more (length roll.pods) now roll.arrivals roll.departures all.arrived.as_many all.left);
      below = all.below;
      rising = all.rising;
      few_ticks = all.few_ticks;
      few_pods = one_more roll.pods pod most_pods room;
      own_keys = apart_more roll pod now all.arrived all.left all.own_keys new;
    }

line_keeps : (past : TraceSoFar) (line : List ℕ) (next : TraceSoFar) → IsShaped past → Says past line next
    → IsShaped next
line_keeps past line _ all (says_node d node is e) = all
line_keeps past line _ all (says_pod d pod is new) = pod_keeps past pod is.room new all
line_keeps past line _ all (says_gone d number is named) =
    left_keeps past number (named_present past.roll (text_at (codes "pod") d) number named) all
line_keeps past line _ all (says_tick d at written placed is coded) =
    let now = observed (heeds past) at written placed past.roll in
    let has = is.is_apart.has_places.has_written.has_moment in
    record {
      shown = λ t tick here. elim (place_split past.ticks now tick t here) [
        | inl before ↦ all.shown t tick before
        | inr last ↦
            let roll = past.roll in
            let here = shows_each (heeds past) at written placed roll (length past.ticks) all.arrived all.left in
            subst (λ (u : ℕ). ShowsEach roll.pods roll.arrivals roll.departures u tick) (sym last.0)
            (subst (ShowsEach roll.pods roll.arrivals roll.departures (length past.ticks)) last.1 here)
      ];
      arrived = record {
        as_many = all.arrived.as_many;
        in_range = λ n arrival e. let le = all.arrived.in_range n arrival e in
            omega (arith, length-append past.ticks (now ∷ []));
        in_order = all.arrived.in_order;
      };
      left = record {
        as_many = all.left.as_many;
        in_range = λ n departure e. let le = all.left.in_range n departure e in
            omega (arith, length-append past.ticks (now ∷ []));
        later = all.left.later;
      };
      below = λ t tick here. elim (place_split past.ticks now tick t here) [
        | inl before ↦ all.below t tick before
        | inr last ↦ subst (λ (o : TickObs). o.at < end_of_time) last.1
            (moment_low past.ticks (field_at (codes "at") d) at has.moment)
      ];
      rising = rising-more past.ticks now all.rising (moment_later past.ticks (field_at (codes "at") d) at has.moment);
      few_ticks = one_more past.ticks now most_ticks has.room;
      few_pods = all.few_pods;
      own_keys = all.own_keys;
    }

kept : IsKept IsShaped
kept = record {
  first = λ format. record {
    shown = λ t tick here. absurd (cc);
    arrived = record {
      as_many = refl;
      in_range = λ n arrival e. absurd (cc);
      in_order =
          λ n m earlier later le e f. absurd (cc);
    };
    left = record {
      as_many = refl;
      in_range = λ n departure e. absurd (cc);
      later = λ n departure arrival e f. absurd (cc);
    };
    below = λ t tick here. absurd (cc);
    rising = λ t u x y lt e f. absurd (cc);
    few_ticks = omega arith;
    few_pods = omega arith;
    own_keys = λ n m p q arrival lt here there at same. absurd (cc);
  };
  line = line_keeps;
}

-- what a call answers that gives this trace
pub given_shape : (format : Format) (text : List ℕ) (answer : Result Trace LineFault)
    → GivesAt (λ t. t) answer (trace_of format text)
    → IfOk answer (λ t. HasShape t.pods t.arrivals t.departures t.ticks)
given_shape format text (Ok trace) given = (of_trace IsShaped kept format text trace given).1
given_shape format text (Err fault) given = tt
