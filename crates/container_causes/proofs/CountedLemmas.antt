-- What the exits of one more tick make of the count of exits.
use Rattle.std.proofs.Common.{◌≡◌, ◌∙◌, ◌⊎◌, inl, inr, ℕ, ℤ, suc, ◌+◌, ◌-◌, ◌<◌, ◌≤◌, true, false, List, [], ◌∷◌, ◌++◌}
use Rattle.std.proofs.Common.{length, Option, Some, None, refl, ap, sym, subst, arith, append-nil}
use Rattle.std.specs.Prelude.{◌↔◌, Contains, IsSomeAnd, IfSome, IsTrue, unwrap_or}
use Rattle.histories.specs.rule.Histories.{IsFirstMoment}
use Rattle.std.proofs.lemmas.Bool.{cases_order}
use Rattle.std.proofs.lemmas.Option.{same_Some}
use Rattle.histories.specs.rule.TheOne.{IsTheOne}
use Rattle.state_diff.specs.declared.seen.Seen.{Seen}
use Rattle.state_diff.specs.declared.seen.CriState.TheVariants.{Running}
use Rattle.state_diff.specs.declared.differ.Differ.{Differ}
use Rattle.state_diff.specs.rule.Instances.{Tick, seen_at, IsOf, Listed, ListedAs, Ends, IsNewest, IsExit, IsExitCode}
use Rattle.state_diff.specs.rule.Instances.{killed_code}
use Rattle.state_diff.specs.state.Instances.{tick}
use Rattle.state_diff.specs.state.Differ.{IsNewestSeen, IsOfNewest, IsNewestRun, IsStateOf as IsDifferOf}
use Rattle.state_diff.specs.state.Differ.{Accepts as DifferAccepts}
use Rattle.state_diff.proofs.Events.{now}
use Rattle.state_diff.proofs.Found.{ended_listed}
use Rattle.state_diff.proofs.Growth.{grows_ends}
use Rattle.state_diff.proofs.Listings.{one_listed}
use Rattle.state_diff.proofs.Places.{added}
use Rattle.state_diff.proofs.Unique.{IsNewest-unique, of_coded}
use Rattle.restarts.specs.rule.Exits.{Exit}
use Rattle.restart_causes.specs.declared.exit_count.ExitCount.{ExitCount}
use Rattle.restart_causes.specs.state.Counted.{IsCountOf}
use Rattle.containers.specs.declared.pod_event_kind.PodEventKind.{PodEventKind}
use Rattle.containers.specs.declared.pod_event_kind.PodEventKind.TheVariants.{Died}
use Rattle.containers.specs.rule.Ticks.{ContainerTick, listings}
use Rattle.containers.specs.rule.Exits.{AreExitsOf, IsRisingList, AreExits}
use Rattle.containers.specs.rule.Events.{IsGone, HasDied}
use Rattle.containers.proofs.ExitLemmas.{AreExitsFor, HasExit, IsGoneNow, OrGone, DiesWith, leaving, gone_more}
use Rattle.containers.proofs.ExitLemmas.{died_more}
use Rattle.containers.proofs.ExitLemmas.{exit_cases, exit_back, dies_listed, dies_newest}
use Rattle.containers.proofs.ListLemmas.{contains_nothing, contains_here, contains_there, contains_old, contains_new}
use Rattle.containers.proofs.ListLemmas.{contains_cases}
use Rattle.containers.proofs.ListLemmas.{rising_head, rising_tail, rising_end, rising_one}
use Rattle.containers.proofs.ViewLemmas.{coded}
use Rattle.containers.proofs.TickLemmas.{listing, onto, onto_at, from, from_at}
use Rattle.container_causes.specs.declared.exits.Leaving.{Leaving}
use Rattle.container_causes.specs.rule.Exits.{IsLastExit, IsCounted}
use Rattle.container_causes.specs.state.Exits.{left, exited, last_exit_of, last_exit_at, attempts_of, exits_of}
use Rattle.container_causes.specs.state.Exits.{IsCountKept}

pub lengths : (k : List Tick) (attempts : List ℕ) (exits : List Exit) → AreExitsOf k attempts exits
    → length attempts ≡ length exits
lengths k [] [] are = refl
lengths k [] (e ∷ exits) are = absurd are
lengths k (a ∷ attempts) [] are = absurd are
lengths k (a ∷ attempts) (e ∷ exits) are = ap suc (lengths k attempts exits are.1)

-- rising numbers are no more than there are numbers
rising_within : (xs : List ℕ) (least most : ℕ) → least ≤ most → IsRisingList xs → ((b : ℕ) → Contains xs b → least ≤ b)
    → ((b : ℕ) → Contains xs b → b < most) → length xs + least ≤ most
rising_within [] least most le rising low high = omega arith
rising_within (x ∷ xs) least most le rising low high =
    let here : x < most = high x (contains_here x xs) in
    let there : least ≤ x = low x (contains_here x xs) in
    let rest : length xs + suc x ≤ most = rising_within xs (suc x) most here (rising_tail x xs rising)
    (λ b c. rising_head x xs b rising c) (λ b c. high b (contains_there x b xs c)) in
    omega arith

-- the attempts with one more
grown_by : (k l : List Tick) (P Q : ℕ → Type 0) (exits later : List Exit) (a : ℕ) (old : AreExitsFor k P exits)
    (new : AreExitsFor l Q later) → ((b : ℕ) → P b → b < a) → ((b : ℕ) → (Q b ↔ (P b ⊎ (a ≡ b))))
    → new.attempts ≡ old.attempts ++ a ∷ []
grown_by k l P Q exits later a old new below split =
    rising_one new.attempts (old.attempts ++ a ∷ []) new.in_order
    (rising_end old.attempts a old.in_order (λ b c. below b ((old.all b).0 c)))
    (λ b. (
      (λ c. elim ((split b).0 ((new.all b).0 c)) [
        | inl p ↦ contains_old old.attempts a b ((old.all b).1 p)
        | inr e ↦
            let R : ℕ → Type 0 = λ y. Contains (old.attempts ++ a ∷ []) y in
            subst R e (contains_new old.attempts a)
      ]),
      (λ c. (new.all b).1 ((split b).1 (elim (contains_cases old.attempts a b c)
          [ inl o ↦ inl ((old.all b).0 o) | inr e ↦ inr e ]))),
    ))

grown_none : (k l : List Tick) (P Q : ℕ → Type 0) (exits later : List Exit) (old : AreExitsFor k P exits)
    (new : AreExitsFor l Q later) → ((b : ℕ) → (Q b ↔ P b)) → new.attempts ≡ old.attempts
grown_none k l P Q exits later old new same =
    rising_one new.attempts old.attempts new.in_order old.in_order
    (λ b. ((λ c. (old.all b).1 ((same b).0 ((new.all b).0 c))), (λ c. (new.all b).1 ((same b).1 ((old.all b).0 c)))))

-- the count of the exits of the attempts of which P holds
abbrev CountFor : List Tick → (ℕ → Type 0) → Option ExitCount → Type 0
CountFor k P count = (exits : List Exit) × (are : AreExitsFor k P exits) × IsCountOf are.attempts exits count

-- what one more exit makes of the count
abbrev pub Counts : Option Leaving → ℕ → Option ExitCount → Option ExitCount → Type 0
Counts leaving at before after = (attempts : List ℕ) (exits : List Exit) → length attempts ≡ length exits
    → IfSome leaving (λ l. length attempts ≤ l.attempt) → IsCountOf attempts exits before
    → IsCountOf (attempts ++ attempts_of leaving) (exits ++ exits_of at leaving) after

counted_one : (k l : List Tick) (P Q : ℕ → Type 0) (leaving : Leaving) (at : ℕ) (before after : Option ExitCount)
    (old : CountFor k P before) → AreExitsFor l Q (old.0 ++ exits_of at (Some leaving))
    → ((b : ℕ) → P b → b < leaving.attempt) → ((b : ℕ) → (Q b ↔ (P b ⊎ (leaving.attempt ≡ b))))
    → Counts (Some leaving) at before after → CountFor l Q after
counted_one k l P Q leaving at before after (exits, are, count) new below split counts =
    let few : length are.attempts + 0 ≤ leaving.attempt = rising_within are.attempts 0 leaving.attempt (omega arith)
    are.in_order (λ b c. omega arith) (λ b c. below b ((are.all b).0 c)) in
    let R : List ℕ → Type 0 = λ list. IsCountOf list (exits ++ exits_of at (Some leaving)) after in (
      exits ++ exits_of at (Some leaving),
      new,
      subst R (sym (grown_by k l P Q exits (exits ++ exits_of at (Some leaving)) leaving.attempt are new below split))
          (counts are.attempts exits (lengths k are.attempts exits are.each) (omega arith) count),
    )

counted_none : (k l : List Tick) (P Q : ℕ → Type 0) (at : ℕ) (before after : Option ExitCount)
    (old : CountFor k P before) → AreExitsFor l Q (old.0 ++ []) → ((b : ℕ) → (Q b ↔ P b))
    → Counts None at before after → CountFor l Q after
counted_none k l P Q at before after (exits, are, count) new same counts =
    let R : List ℕ → Type 0 = λ list. IsCountOf list (exits ++ []) after in (
      exits ++ [],
      new,
      subst R (append-nil are.attempts ∙ sym (grown_none k l P Q exits (exits ++ []) are new same))
          (counts are.attempts exits (lengths k are.attempts exits are.each) tt count),
    )

-- an instance that exits now is greater than those that exited before
above_ended : (k : List Tick) (a : ℕ) → IsNewest k a → (HasExit k a → ⊥) → (b : ℕ) → HasExit k b → b < a
above_ended k a newest lives b p =
    let u = ended_listed k b p.0 p.1.holds in
    let le : b ≤ a = newest.greatest b u.0 u.1 in
    elim (cases_order b a) [
      | inl e ↦ let P : ℕ → Type 0 = λ c. HasExit k c in absurd (lives (subst P e p))
      | inr w ↦ elim w [ inl lt ↦ lt | inr gt ↦ absurd (omega arith) ]
    ]

-- first the instance that is no longer listed
gone_counted : (k : List Tick) (d : Differ) (at : ℕ) (seen : Option Seen) (start : Option ℕ) (death : Option (ℕ × ℤ))
    (before after : Option ExitCount) → IsDifferOf k d → DifferAccepts d seen
    → IsOfNewest k (λ a. IsFirstMoment k (ListedAs k a Running)) start
    → ((a : ℕ) (code : ℤ) → ((death ≡ Some (a, code)) ↔ ((code ≡ killed_code) × IsGoneNow k (tick at seen) a)))
    → CountFor k (HasExit k) before → Counts (left death start at) at before after
    → CountFor (k ++ tick at seen ∷ []) (OrGone k (tick at seen)) after
gone_counted k d at seen start None before after is accepts first iff (exits, are, count) counts =
    let x = tick at seen in
    let none : (a : ℕ) → IsGoneNow k x a → ⊥ = λ a now.
    absurd (let e : None ≡ Some (a, killed_code) = (iff a killed_code).1 (refl, now) in cc) in
    counted_none k (k ++ x ∷ []) (HasExit k) (OrGone k x) at before after (exits, are, count)
    (gone_more k d at seen exits start false is accepts first
    ((λ t. absurd (let e : false ≡ true = t in cc)), (λ w. absurd (none w.0 w.1)))
    (record { attempts = are.attempts; in_order = are.in_order; all = are.all; each = are.each }))
    (λ b. ((λ q. elim q [ inl p ↦ p | inr gone ↦ absurd (none b gone) ]), (λ p. inl p))) counts
gone_counted k d at seen start (Some (a, code)) before after is accepts first iff (exits, are, count) counts =
    let x = tick at seen in
    let gone : IsGoneNow k x a = ((iff a code).0 refl).1 in
    let l = leaving k d x a is gone in
    counted_one k (k ++ x ∷ []) (HasExit k) (OrGone k x) (record { attempt = a; run = at - unwrap_or start at }) at
    before after (exits, are, count)
    (gone_more k d at seen exits start true is accepts first ((λ t. (a, gone)), (λ w. refl))
    (record { attempts = are.attempts; in_order = are.in_order; all = are.all; each = are.each }))
    (above_ended k a l.newest (λ p. l.lives p.0 p.1.holds))
    (λ b. (
      (λ q. elim q [ inl p ↦ inl p | inr g ↦ inr (IsNewest-unique k a b l.newest (leaving k d x b is g).newest) ]),
      (λ q. elim q [ inl p ↦ inl p | inr e ↦ inr (let P : ℕ → Type 0 = λ c. IsGoneNow k x c in subst P e gone) ]),
    )) counts

-- then the listed one
died_counted : (k : List Tick) (d : Differ) (x : Tick) (death : Option (ℕ × ℤ)) (run : Option ℕ)
    (before after : Option ExitCount) → IsDifferOf (k ++ x ∷ []) d
    → ((a : ℕ) (code : ℤ) → ((death ≡ Some (a, code)) ↔ DiesWith k x a code)) → IsNewestRun (k ++ x ∷ []) run
    → CountFor (k ++ x ∷ []) (OrGone k x) before → Counts (exited death run) x.moment before after
    → (exits : List Exit) × (are : AreExits (k ++ x ∷ []) exits) × IsCountOf are.attempts exits after
died_counted k d x None run before after is iff runs (exits, are, count) counts =
    let l = k ++ x ∷ [] in
    let all = died_more k d x exits None run is iff runs are in
    let found = counted_none l l (OrGone k x) (HasExit l) x.moment before after (exits, are, count)
    (record { attempts = all.attempts; in_order = all.in_order; all = all.all; each = all.each })
    (λ b. (
      (λ q. elim (exit_cases k x b q)
          [ inl p ↦ p | inr w ↦ absurd (let e : None ≡ Some (b, w.0) = (iff b w.0).1 w.1 in cc) ]),
      (λ p. exit_back k x b p),
    )) counts in (
      found.0,
      record { attempts = found.1.attempts; in_order = found.1.in_order; all = found.1.all; each = found.1.each },
      found.2,
    )
died_counted k d x (Some (a, code)) None before after is iff none (exits, are, count) counts =
    let died : DiesWith k x a code = (iff a code).0 refl in
    absurd (none a (length k) (dies_newest k d x a code is died) died.0)
died_counted k d x (Some (a, code)) (Some run) before after is iff runs (exits, are, count) counts =
    let l = k ++ x ∷ [] in
    let died : DiesWith k x a code = (iff a code).0 refl in
    let listed : IsSomeAnd x.entry (IsOf a) = dies_listed k x a code died in
    let newest : IsNewest l a = dies_newest k d x a code is died in
    let all = died_more k d x exits (Some (a, code)) (Some run) is iff runs are in
    let other : OrGone k x a → ⊥ = λ q. elim q [
      | inl p ↦
          let g = grows_ends k a x in
          died.0.none_before p.0 (g.below p.0 p.1.holds) (g.old p.0 p.1.holds)
      | inr g ↦ g.1 (added (IsOf a) k x listed)
    ] in
    let found = counted_one l l (OrGone k x) (HasExit l) (record { attempt = a; run = run }) x.moment before after
    (exits, are, count)
    (record { attempts = all.attempts; in_order = all.in_order; all = all.all; each = all.each })
    (λ b p.
    let q = exit_back k x b p in
    let u = ended_listed l b q.0 q.1.holds in
    let le : b ≤ a = newest.greatest b u.0 u.1 in
    elim (cases_order b a) [
      | inl e ↦ let R : ℕ → Type 0 = λ c. OrGone k x c in absurd (other (subst R e p))
      | inr w ↦ elim w [ inl lt ↦ lt | inr gt ↦ absurd (omega arith) ]
    ])
    (λ b. (
      (λ q. elim (exit_cases k x b q) [
        | inl p ↦ inl p
        | inr w ↦ inr (one_listed x.entry a b listed
            (of_coded b w.0 x.entry (now (λ seen. (seen.attempt ≡ b) × (seen.code ≡ Some w.0)) k x w.1.1)))
      ]),
      (λ p. elim p [
        | inl p ↦ exit_back k x b p
        | inr e ↦ (let R : ℕ → Type 0 = λ y. HasExit l y in subst R e (length k, died.0))
      ]),
    )) counts in (
      found.0,
      record { attempts = found.1.attempts; in_order = found.1.in_order; all = found.1.all; each = found.1.each },
      found.2,
    )

-- exits at a tick: of an instance that it doesn't list, and of one that it lists with this code
abbrev GoneAt : List Tick → ℕ → ℕ → Type 0
GoneAt k t a = IsExit k a t × (Listed k a t → ⊥)

abbrev DiedAt : List Tick → ℕ → ℕ → ℤ → Type 0
DiedAt k t a code = IsExit k a t × IsSomeAnd (seen_at k t) (λ seen. (seen.attempt ≡ a) × (seen.code ≡ Some code))

-- the count after one more tick
pub counted_more : (h : List ContainerTick) (x : ContainerTick) (d e : Differ) (start run : Option ℕ)
    (gone died : Option PodEventKind) (left_by died_by : Option (ℕ × ℤ)) (before between after : Option ExitCount)
    → IsDifferOf (listings h) d → DifferAccepts d x.entry.seen → IsDifferOf (listings (h ++ x ∷ [])) e
    → IsOfNewest (listings h) (λ a. IsFirstMoment (listings h) (ListedAs (listings h) a Running)) start
    → IsNewestRun (listings (h ++ x ∷ [])) run
    → IsTheOne (IsGone (h ++ x ∷ []) (length h)) gone → IsTheOne (HasDied (h ++ x ∷ []) (length h)) died
    → ((a : ℕ) (code : ℤ) → ((left_by ≡ Some (a, code)) ↔ (gone ≡ Some (Died a code))))
    → ((a : ℕ) (code : ℤ) → ((died_by ≡ Some (a, code)) ↔ (died ≡ Some (Died a code))))
    → IsCountKept h before → Counts (left left_by start x.moment) x.moment before between
    → Counts (exited died_by run) x.moment between after → IsCountKept (h ++ x ∷ []) after
counted_more h x d e start run gone died left_by died_by before between after is accepts is_after first runs one other
    of_gone of_died (exits, are, count) counts counts_on =
    let k = listings h in
    let y = listing x in
    let first_counted = gone_counted k d x.moment x.entry.seen start left_by before between is accepts first gone_iff
    (exits, record { attempts = are.attempts; in_order = are.in_order; all = are.all; each = are.each }, count) counts
    in
    onto (λ k. (exits : List Exit) × (are : AreExits k exits) × IsCountOf are.attempts exits after) h x
    (died_counted k e y died_by run between after (from (λ k. IsDifferOf k e) h x is_after) died_iff
    (from (λ k. IsNewestRun k run) h x runs) first_counted counts_on)
  where
    gone_iff : (a : ℕ) (code : ℤ)
        → ((left_by ≡ Some (a, code)) ↔ ((code ≡ killed_code) × IsGoneNow (listings h) (listing x) a))
    gone_iff a code = (
      (λ e.
          let w = (one (Died a code)).0 ((of_gone a code).0 e) in
          let same : w.0 ≡ a = cc in
          let killed : code ≡ killed_code = cc in (
            killed,
            from_at (λ k t. GoneAt k t a) h x
                (subst (λ (b : ℕ). GoneAt (listings (h ++ x ∷ [])) (length h) b) same (w.2, w.3)),
          )),
      (λ (killed, now).
          let w = onto_at (λ k t. GoneAt k t a) h x now in
          (of_gone a code).1 ((one (Died a code)).1 (a, ap (λ c. Died a c) killed, w.0, w.1))),
    )

    died_iff : (a : ℕ) (code : ℤ) → ((died_by ≡ Some (a, code)) ↔ DiesWith (listings h) (listing x) a code)
    died_iff a code = (
      (λ e.
          let (b, c, is, exit, listed, at) = (other (Died a code)).0 ((of_died a code).0 e) in
          let same : b ≡ a = cc in
          let of : c ≡ code = cc in
          from_at (λ k t. DiedAt k t a code) h x
          (subst (λ (n : ℤ). DiedAt (listings (h ++ x ∷ [])) (length h) a n) of
          (subst (λ (n : ℕ). DiedAt (listings (h ++ x ∷ [])) (length h) n c) same (
            exit,
            elim at [
              | inl q ↦ q
              | inr u ↦ absurd (u.0 listed)
            ],
          )))),
      (λ now.
          let w = onto_at (λ k t. DiedAt k t a code) h x now in
          (of_died a code).1 ((other (Died a code)).1 (
            a,
            code,
            refl,
            w.0,
            of_coded a code (seen_at (listings (h ++ x ∷ [])) (length h)) w.1,
            inl w.1,
          ))),
    )

pub nonempty : (k : List Tick) (a : ℕ) (attempts : List ℕ) (exits : List Exit) → AreExitsOf k attempts exits
    → Contains attempts a → exits ≡ [] → ⊥
nonempty k a [] exits are c none = contains_nothing a c
nonempty k a (b ∷ attempts) [] are c none = are
nonempty k a (b ∷ attempts) (e ∷ exits) are c none = absurd (cc)

-- where an instance has exited, there is a count
pub some_counted : (h : List ContainerTick) (count : Option ExitCount) (a t : ℕ) → IsCountKept h count
    → IsExit (listings h) a t → IsSomeAnd count (IsCounted h)
some_counted h None a t (exits, are, none) exit =
    absurd (nonempty (listings h) a are.attempts exits are.each ((are.all a).1 (t, exit)) none)
some_counted h (Some count) a t (exits, are, is) exit = record { exits = exits; are_exits = are; counted = is }

-- the newest instance's exit
pub last_found : (h : List ContainerTick) (newest : Option Seen) (at : Option ℕ) (a : ℕ) (code : ℤ)
    → IsNewestSeen (listings h) newest
    → IsOfNewest (listings h) (λ a. IsFirstMoment (listings h) (Ends (listings h) a)) at
    → IsNewest (listings h) a → IsExitCode (listings h) a code
    → IsSomeAnd (last_exit_of newest at) (λ cause. (cause.attempt ≡ a) × IsLastExit h cause)
last_found h None at a code none moment is exited = absurd (none a is.listed.0 is.listed.1)
last_found h (Some seen) at a code seen_is moment is (t, exit, by) =
    there at seen.code (coded (listings h) (Some seen) seen_is code (a, is, (t, exit, by))) (moment.some a is)
  where
    same : seen.attempt ≡ a
    same = IsNewest-unique (listings h) seen.attempt a seen_is.newest is

    there : (at : Option ℕ) (c : Option ℤ) → c ≡ Some code → IsFirstMoment (listings h) (Ends (listings h) a) at
        → IsSomeAnd (last_exit_at seen.attempt c at) (λ cause. (cause.attempt ≡ a) × IsLastExit h cause)
    there at None e first = absurd (cc)
    there None (Some d) e none = absurd (none t exit.holds)
    there (Some m) (Some d) e first = (
      same,
      record {
        newest = seen_is.newest;
        code = subst (λ (n : ℕ). IsExitCode (listings h) n d) (sym same)
            (subst (λ (z : ℤ). IsExitCode (listings h) a z) (sym (same_Some d code e)) (t, exit, by));
        moment = subst (λ (n : ℕ). IsFirstMoment (listings h) (Ends (listings h) n) (Some m)) (sym same) first;
      },
    )

pub none_counted : IsCountKept [] None
none_counted = (
  [],
  record {
    attempts = [];
    in_order = λ i j a b lt e f. absurd (cc);
    all = λ a. ((λ c. absurd (contains_nothing a c)), (λ (t, exit). absurd ((ended_listed [] a t exit.holds).1)));
    each = tt;
  },
  refl,
)
