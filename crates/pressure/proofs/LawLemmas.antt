-- The laws of conditions.
use Rattle.std.proofs.Common.{◌≡◌, ◌⊎◌, inl, inr, ℕ, ◌-◌, ◌<◌, ◌≤◌, Bool, true, false, List, [], ◌∷◌, ◌++◌, length}
use Rattle.std.proofs.Common.{Option, Some, None, refl, subst, sym, ◌∙◌, append_assoc, append-nil, arith}
use Rattle.std.specs.Option.{unwrap_or}
use Rattle.std.proofs.lemmas.Bool.{cases_lt, cases_order}
use Rattle.histories.specs.rule.Histories.{HoldsAt, IsTransition, moment_at}
use Rattle.pressure.specs.rule.Pressures.{Observation, IsMetAt, IsUnderPressure}
use Rattle.pressure.specs.state.State.{IsLatestMet, later_of}
use Rattle.pressure.specs.state.Laws.{NoPeriodIsMetNow, TrueForThePeriod, OneSince}
use Rattle.pressure.proofs.Since.{since_new, since_stays, none_recorded, since_is, since_unique}
use Rattle.pressure.proofs.Values.{true_by}
use Rattle.pressure.proofs.Latest.{latest_kept, latest_moved}

pub no_period_is_met_now : NoPeriodIsMetNow
no_period_is_met_now h = (
  (λ w. elim w [ inl met ↦ met | inr l ↦ let lt : l.now - l.moment < 0 = l.lately in absurd (omega arith) ]),
  inl,
)

pub true_for_the_period : TrueForThePeriod
true_for_the_period period place moment now h rising was at is_now =
    let before : place < length h - 1 = was.earlier in
    let passed : moment < now = rising place (length h - 1) moment now before at is_now in (
      (λ w. elim w [
        | inl met ↦ absurd (was.last.none_after (length h - 1) before met)
        | inr l ↦
            let same : Some l.now ≡ Some now = sym l.is_now ∙ is_now in
            let e : l.now ≡ now = cc in
            let le : l.moment ≤ moment = not_later l.place l.moment l.met l.is_moment in
            let lately : l.now - l.moment < period = l.lately in
            omega arith
      ]),
      (λ lt. inr (record {
        place = place;
        earlier = before;
        met = was.last.holds;
        moment = moment;
        is_moment = at;
        now = now;
        is_now = is_now;
        lately = omega arith;
      })),
    )
  where
    not_later : (t m : ℕ) → IsMetAt h t → moment_at h t ≡ Some m → m ≤ moment
    not_later t m met at' = elim (cases_order t place) [
      | inl e ↦
          let P : ℕ → Type 0 = λ k. moment_at h k ≡ Some m in
          let same : Some m ≡ Some moment = sym (subst P e at') ∙ at in
          let is : m ≡ moment = cc in
          omega arith
      | inr w ↦ elim w [
        | inl lt ↦ let less : m < moment = rising t place m moment lt at' at in omega arith
        | inr gt ↦ absurd (was.last.none_after t gt met)
      ]
    ]

-- what some observations lead to
record Led (period : ℕ) (h : List Observation) : Type 0 where
  latest : Option ℕ
  is_latest : IsLatestMet h latest
  value : IsUnderPressure period h ⊎ (IsUnderPressure period h → ⊥)
  since : Option ℕ
  is_since : IsTransition h (HoldsAt (IsUnderPressure period) h) since

value_after : (period : ℕ) (h : List Observation) (x : Observation) (latest : Option ℕ) (met : Bool) → x.entry ≡ met
    → IsLatestMet h latest
    → IsUnderPressure period (h ++ x ∷ []) ⊎ (IsUnderPressure period (h ++ x ∷ []) → ⊥)
value_after period h x latest true e is = inl ((true_by period h x latest is).0 (inl e))
value_after period h x None false e is =
    inr (λ u. elim ((true_by period h x None is).1 u) [
      | inl t ↦ let y : x.entry ≡ true = t in absurd (cc)
      | inr p
          ↦ absurd p
    ])
value_after period h x (Some latest) false e is = elim (cases_lt (x.moment - latest) period) [
  | inl lt ↦ inl ((true_by period h x (Some latest) is).0 (inr lt))
  | inr ge ↦ inr (λ u. elim ((true_by period h x (Some latest) is).1 u) [
    | inl t ↦ let y : x.entry ≡ true = t in absurd (cc)
    | inr p ↦ let lt : x.moment - latest < period = p in absurd (omega arith)
  ])
]

latest_after : (h : List Observation) (x : Observation) (latest : Option ℕ) (met : Bool) → x.entry ≡ met
    → IsLatestMet h latest → (o : Option ℕ) × IsLatestMet (h ++ x ∷ []) o
latest_after h x latest true e is = (Some (later_of latest x.moment), latest_moved h x latest e is)
latest_after h x latest false e is = (latest, latest_kept h x latest (λ t. let y : x.entry ≡ true = t in cc) is)

since_after : (period : ℕ) (h : List Observation) (x : Observation) (since : Option ℕ)
    → IsTransition h (HoldsAt (IsUnderPressure period) h) since
    → IsUnderPressure period h ⊎ (IsUnderPressure period h → ⊥) → IsUnderPressure period (h ++ x ∷ []) ⊎
    (IsUnderPressure period (h ++ x ∷ []) → ⊥)
    → (o : Option ℕ) × IsTransition (h ++ x ∷ []) (HoldsAt (IsUnderPressure period) (h ++ x ∷ [])) o
since_after period h x None tr was is =
    (Some x.moment, since_new (IsUnderPressure period) h x (inl (none_recorded (IsUnderPressure period) h tr)))
since_after period h x (Some m) tr (inl was) (inl is) =
    (Some m, since_stays (IsUnderPressure period) h x m ((λ _. is), (λ _. was)) tr)
since_after period h x (Some m) tr (inr was) (inr is) =
    (Some m, since_stays (IsUnderPressure period) h x m ((λ u. absurd (was u)), (λ u. absurd (is u))) tr)
since_after period h x (Some m) tr (inl was) (inr is) =
    (Some x.moment, since_new (IsUnderPressure period) h x (inr (λ same. is (same.0 was))))
since_after period h x (Some m) tr (inr was) (inl is) =
    (Some x.moment, since_new (IsUnderPressure period) h x (inr (λ same. was (same.1 is))))

led_more : (period : ℕ) (h : List Observation) (x : Observation) → Led period h → Led period (h ++ x ∷ [])
led_more period h x l =
    let latest = latest_after h x l.latest x.entry refl l.is_latest in
    let value = value_after period h x l.latest x.entry refl l.is_latest in
    let since = since_after period h x l.since l.is_since l.value value in
    record { latest = latest.0; is_latest = latest.1; value = value; since = since.0; is_since = since.1 }

led_after : (period : ℕ) (later h : List Observation) → Led period h → Led period (h ++ later)
led_after period [] h l = subst (Led period) (sym (append-nil h)) l
led_after period (x ∷ later) h l = subst (Led period) (append_assoc h (x ∷ []) later)
    (led_after period later (h ++ x ∷ []) (led_more period h x l))

led_none : (period : ℕ) → Led period []
led_none period = record {
  latest = None;
  is_latest = λ t met. met;
  value = inr (λ u. elim u [ inl met ↦ met | inr w ↦ w.met ]);
  since = None;
  is_since = λ t s. let lt : t < 0 = s.within in absurd (omega arith);
}

pub one_since : OneSince
one_since = record {
  exists = λ period h. let l = led_after period h [] (led_none period) in
      (unwrap_or l.since 0, since_is period h l.since l.is_since);
  unique = since_unique;
}
