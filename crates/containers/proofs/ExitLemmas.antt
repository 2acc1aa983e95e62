-- What one more tick makes of the exits.
use Rattle.std.proofs.Common.{◌≡◌, ◌⊎◌, inl, inr, ℕ, ℤ, ◌-◌, ◌<◌, ◌≤◌, Bool, true, false, List, [], ◌∷◌, ◌++◌, length}
use Rattle.std.proofs.Common.{Option, Some, None, refl, subst, sym, ap, ◌∙◌, append-nil, arith}
use Rattle.std.specs.Prelude.{◌↔◌, Contains, IsSome, IsSomeAnd, IsTrue, if◌then◌else◌, unwrap_or}
use Rattle.std.specs.Option.{option_or, option_and}
use Rattle.std.proofs.lemmas.Bool.{cases_order}
use Rattle.histories.specs.rule.Histories.{recorded, IsFirstMoment}
use Rattle.histories.proofs.First.{IsFirst-new, IsFirst-split, none_more}
use Rattle.histories.proofs.Places.{length-more, moment_at-new}
use Rattle.state_diff.specs.declared.seen.Seen.{Seen}
use Rattle.state_diff.specs.declared.seen.CriState.TheVariants.{Running, Exited}
use Rattle.state_diff.specs.declared.differ.Differ.{Differ}
use Rattle.state_diff.specs.rule.Instances.{Tick, seen_at, IsOf, IsOfAs, Listed, ListedAs, Ends, IsNewest, IsExit}
use Rattle.state_diff.specs.state.Instances.{tick}
use Rattle.state_diff.specs.rule.Instances.{IsRun}
use Rattle.state_diff.specs.state.Differ.{IsOfNewest, IsNewestRun, IsStateOf as IsDifferOf, Accepts as DifferAccepts}
use Rattle.state_diff.proofs.Places.{added}
use Rattle.state_diff.proofs.Growth.{grows_seen, grows_ends, IsExit-old}
use Rattle.state_diff.proofs.Listings.{of_weaker, start_unlisted, one_listed}
use Rattle.state_diff.proofs.Events.{coded, now, first_now, live_listed}
use Rattle.state_diff.proofs.Found.{ended_listed}
use Rattle.state_diff.proofs.Unique.{IsNewest-unique, of_coded}
use Rattle.restarts.specs.rule.Exits.{Exit}
use Rattle.restarts.specs.rule.Delays.{IsDelay}
use Rattle.containers.specs.rule.Exits.{IsExitOf, AreExitsOf, IsRisingList, AreExits}
use Rattle.containers.specs.state.Step.{exits_at}
use Rattle.containers.proofs.ListLemmas.{contains_old, contains_new, contains_cases, rising_end}
use Rattle.containers.proofs.TickLemmas.{moment_kept, moment_new, newest_listed, not_started}

-- the delay after the last of two exits
pub last_delay : (P Q : ℕ → Type 0) (left died first second result : Option ℕ) → (IsSome left → IsSomeAnd first P)
    → (IsSome died → IsSomeAnd second Q)
    → (died ≡ None → second ≡ None) → (died ≡ None → (d : ℕ) → P d → Q d) → IsSome left ⊎ IsSome died
    → result ≡ option_or second first → IsSomeAnd result Q
last_delay P Q left (Some d) first second result delay delay' none same some is = there second result (delay' refl) is
  where
    there : (second result : Option ℕ) → IsSomeAnd second Q → result ≡ option_or second first → IsSomeAnd result Q
    there None result q is = absurd q
    there (Some s) result q is = let P : Option ℕ → Type 0 = λ o. IsSomeAnd o Q in subst P (sym is) q
last_delay P Q left None first second result delay delay' none same (inr some) is = absurd (cc)
last_delay P Q left None first second result delay delay' none same (inl some) is =
    there first (delay some) (is ∙ ap (λ o. option_or o first) (none refl))
  where
    there : (first : Option ℕ) → IsSomeAnd first P → result ≡ first → IsSomeAnd result Q
    there None q is = absurd q
    there (Some s) q is = let R : Option ℕ → Type 0 = λ o. IsSomeAnd o Q in subst R (sym is) (same refl s q)

-- the exits of the attempts of which P holds
pub record AreExitsFor (k : List Tick) (P : ℕ → Type 0) (exits : List Exit) : Type 0 where
  pub attempts : List ℕ
  pub in_order : IsRisingList attempts
  pub all : (a : ℕ) → (Contains attempts a ↔ P a)
  pub each : AreExitsOf k attempts exits

abbrev pub HasExit : List Tick → ℕ → Type 0
HasExit k a = (t : ℕ) × IsExit k a t

pub exits_append : (k : List Tick) (attempts : List ℕ) (exits : List Exit) (a : ℕ) (e : Exit)
    → AreExitsOf k attempts exits → IsExitOf k a e → AreExitsOf k (attempts ++ a ∷ []) (exits ++ e ∷ [])
exits_append k [] [] a e are is = (is, tt)
exits_append k [] (f ∷ exits) a e are is = absurd are
exits_append k (b ∷ attempts) [] a e are is = absurd are
exits_append k (b ∷ attempts) (f ∷ exits) a e are is = (are.0, exits_append k attempts exits a e are.1 is)

pub exit_added : (k : List Tick) (P Q : ℕ → Type 0) (exits : List Exit) (a : ℕ) (e : Exit) → AreExitsFor k P exits
    → IsExitOf k a e
    → ((b : ℕ) → P b → b < a) → ((b : ℕ) → (Q b ↔ (P b ⊎ (a ≡ b)))) → AreExitsFor k Q (exits ++ e ∷ [])
exit_added k P Q exits a e are is below split = record {
  attempts = are.attempts ++ a ∷ [];
  in_order = rising_end are.attempts a are.in_order (λ b c. below b ((are.all b).0 c));
  all = λ b. (
    (λ c. (split b).1 (elim (contains_cases are.attempts a b c) [ inl old ↦ inl ((are.all b).0 old) | inr f ↦ inr f ])),
    (λ q. elim ((split b).0 q) [
      | inl p ↦ contains_old are.attempts a b ((are.all b).1 p)
      | inr f ↦ let R : ℕ → Type 0 = λ y. Contains (are.attempts ++ a ∷ []) y in subst R f (contains_new are.attempts a)
    ]),
  );
  each = exits_append k are.attempts exits a e are.each is;
}

pub exit_none : (k : List Tick) (P Q : ℕ → Type 0) (exits : List Exit) → AreExitsFor k P exits → ((b : ℕ) → (Q b ↔ P b))
    → AreExitsFor k Q (exits ++ [])
exit_none k P Q exits are same =
    let R : List Exit → Type 0 = λ es. AreExitsOf k are.attempts es in
    record {
      attempts = are.attempts;
      in_order = are.in_order;
      all = λ b. ((λ c. (same b).1 ((are.all b).0 c)), (λ q. (are.all b).1 ((same b).0 q)));
      each = subst R (sym (append-nil exits)) are.each;
    }

-- an exit with its run stays
pub start_stays : (k : List Tick) (x : Tick) (a : ℕ) (start : Option ℕ) → (IsSomeAnd x.entry (IsOfAs a Running) → ⊥)
    → IsFirstMoment k (ListedAs k a Running) start
    → IsFirstMoment (k ++ x ∷ []) (ListedAs (k ++ x ∷ []) a Running) start
start_stays k x a None not none = none_more (length k) _ _ _ (grows_seen (IsOfAs a Running) k x) none not
start_stays k x a (Some m) not f = moment_kept k x _ _ _ m (grows_seen (IsOfAs a Running) k x) f

pub exit_stays : (k : List Tick) (d : Differ) (x : Tick) (a : ℕ) (e : Exit) → IsDifferOf k d → DifferAccepts d x.entry
    → IsExitOf k a e → IsExitOf (k ++ x ∷ []) a e
exit_stays k d x a e is accepts of = record {
  moment = moment_kept k x _ _ _ e.moment (grows_ends k a x) of.moment;
  run = record {
    exit = of.run.exit;
    exits = moment_kept k x _ _ _ of.run.exit (grows_ends k a x) of.run.exits;
    start = of.run.start;
    starts = start_stays k x a of.run.start (not_started k d x a of.moment.0 is accepts of.moment.1.holds)
        of.run.starts;
    lasts = of.run.lasts;
  };
}

pub exits_stay : (k : List Tick) (d : Differ) (x : Tick) (attempts : List ℕ) (exits : List Exit) → IsDifferOf k d
    → DifferAccepts d x.entry
    → AreExitsOf k attempts exits → AreExitsOf (k ++ x ∷ []) attempts exits
exits_stay k d x [] [] is accepts are = tt
exits_stay k d x [] (e ∷ exits) is accepts are = are
exits_stay k d x (a ∷ attempts) [] is accepts are = are
exits_stay k d x (a ∷ attempts) (e ∷ exits) is accepts are =
    (exit_stays k d x a e is accepts are.0, exits_stay k d x attempts exits is accepts are.1)

pub exits_kept : (k : List Tick) (d : Differ) (x : Tick) (exits : List Exit) → IsDifferOf k d → DifferAccepts d x.entry
    → AreExits k exits → AreExitsFor (k ++ x ∷ []) (HasExit k) exits
exits_kept k d x exits is accepts are = record {
  attempts = are.attempts;
  in_order = are.in_order;
  all = are.all;
  each = exits_stay k d x are.attempts exits is accepts are.each;
}

-- it exits by the new tick, which does not list it
abbrev pub IsGoneNow : List Tick → Tick → ℕ → Type 0
IsGoneNow k x a = IsExit (k ++ x ∷ []) a (length k) × (Listed (k ++ x ∷ []) a (length k) → ⊥)

-- so it was the newest, and had not exited
pub record IsLeaving (k : List Tick) (x : Tick) (a : ℕ) : Type 0 where
  pub newest : IsNewest k a
  pub listed : Listed k a (length k - 1)
  pub lives : (t : ℕ) → Ends k a t → ⊥
  pub unlisted : IsSomeAnd x.entry (IsOf a) → ⊥

pub leaving : (k : List Tick) (d : Differ) (x : Tick) (a : ℕ) → IsDifferOf k d → IsGoneNow k x a → IsLeaving k x a
leaving k d x a is (e, gone) =
    let f = first_now (length k) _ _ _ (grows_ends k a x) e in
    elim (f.0) [
      | inl q ↦ absurd (gone (added (IsOf a) k x (of_weaker a Exited x.entry q)))
      | inr w ↦ let l = (is.listed a).1 (live_listed k d.newest d.listed is.listed a w.1.0 w.1.1 f.1) in record {
        newest = newest_listed k d a is l;
        listed = l;
        lives = f.1;
        unlisted = w.0;
      }
    ]

not_less_same : (a b : ℕ) → b ≤ a → (b ≡ a → ⊥) → b < a
not_less_same a b le ne = elim (cases_order b a) [
  | inl e ↦ absurd (ne e)
  | inr w
      ↦ elim w [ inl lt ↦ lt | inr gt ↦ absurd (omega arith) ]
]

-- the exits with that of the instance which is gone
abbrev pub OrGone : List Tick → Tick → ℕ → Type 0
OrGone k x a = HasExit k a ⊎ IsGoneNow k x a

pub gone_more : (k : List Tick) (d : Differ) (at : ℕ) (seen : Option Seen) (exits : List Exit) (start : Option ℕ)
    (died : Bool) → IsDifferOf k d → DifferAccepts d seen
    → IsOfNewest k (λ a. IsFirstMoment k (ListedAs k a Running)) start
    → (IsTrue died ↔ ((a : ℕ) × IsGoneNow k (tick at seen) a))
    → AreExits k exits
    → AreExitsFor (k ++ tick at seen ∷ []) (OrGone k (tick at seen))
    (exits ++ exits_at at (if died then Some (at - unwrap_or start at) else None))
gone_more k d at seen exits start true is accepts first iff are =
    let w = iff.0 refl in
    let a = w.0 in
    let x = tick at seen in
    let l = leaving k d x a is w.1 in
    exit_added (k ++ x ∷ []) (HasExit k) (OrGone k x) exits a (recorded at (at - unwrap_or start at))
    (exits_kept k d x exits is accepts are)
    (record {
      moment = ends a l;
      run = record {
        exit = at;
        exits = ends a l;
        start = start;
        starts = start_unlisted k a at seen start l.unlisted (first.some a l.newest);
        lasts = refl;
      };
    })
    (λ b p.
    let u = ended_listed k b p.0 p.1.holds in
    let P : ℕ → Type 0 = λ c. Ends k c p.0 in
    not_less_same a b (l.newest.greatest b u.0 u.1) (λ e. l.lives p.0 (subst P e p.1.holds)))
    (λ b. (
      (λ q. elim q [ inl p ↦ inl p | inr g ↦ inr (IsNewest-unique k a b l.newest (leaving k d x b is g).newest) ]),
      (λ q. elim q [ inl p ↦ inl p | inr e ↦ inr (let P : ℕ → Type 0 = λ c. IsGoneNow k x c in subst P e w.1) ]),
    ))
  where
    ends : (a : ℕ) → IsLeaving k (tick at seen) a → IsFirstMoment (k ++ tick at seen ∷ [])
        (Ends (k ++ tick at seen ∷ []) a) (Some at)
    ends a l = moment_new k (tick at seen) _ _ _ (grows_ends k a (tick at seen)) (inr (l.unlisted, l.newest.listed))
        l.lives
gone_more k d at seen exits start false is accepts first iff are =
    let x = tick at seen in
    exit_none (k ++ x ∷ []) (HasExit k) (OrGone k x) exits (exits_kept k d x exits is accepts are)
    (λ b. ((λ q. elim q [ inl p ↦ p | inr g ↦ absurd (let e : IsTrue false = iff.1 (b, g) in cc) ]), (λ p. inl p)))

-- the new tick lists an attempt with a code
abbrev pub DiesWith : List Tick → Tick → ℕ → ℤ → Type 0
DiesWith k x a code = IsExit (k ++ x ∷ []) a (length k) × IsSomeAnd (seen_at (k ++ x ∷ []) (length k))
    (λ seen. (seen.attempt ≡ a) × (seen.code ≡ Some code))

-- an exit was there before, or is at the new tick: of one that is gone, or of the listed one
pub exit_cases : (k : List Tick) (x : Tick) (a : ℕ) → HasExit (k ++ x ∷ []) a
    → OrGone k x a ⊎ ((code : ℤ) × DiesWith k x a code)
exit_cases k x a (t, e) = elim (IsFirst-split (length k) _ _ _ (grows_ends k a x) t e) [
  | inl old ↦ inl (inl (t, old))
  | inr w ↦
      let here : IsExit (k ++ x ∷ []) a (length k) = IsFirst-new (length k) _ _ _ (grows_ends k a x) w.2 w.1 in
      elim (w.1) [
        | inl q ↦ let c = coded a x.entry q in
            inr (c.0, (here, added (λ seen. (seen.attempt ≡ a) × (seen.code ≡ Some c.0)) k x c.1))
        | inr v ↦ inl (inr (here, (λ q. v.0 (now (IsOf a) k x q))))
      ]
]

pub exit_back : (k : List Tick) (x : Tick) (a : ℕ) → OrGone k x a → HasExit (k ++ x ∷ []) a
exit_back k x a (inl p) = (p.0, IsExit-old k a x p.0 p.1)
exit_back k x a (inr g) = (length k, g.0)

-- the listed one is the newest
pub dies_listed : (k : List Tick) (x : Tick) (a : ℕ) (code : ℤ) → DiesWith k x a code → IsSomeAnd x.entry (IsOf a)
dies_listed k x a code died =
    of_coded a code x.entry (now (λ seen. (seen.attempt ≡ a) × (seen.code ≡ Some code)) k x died.1)

pub dies_newest : (k : List Tick) (d : Differ) (x : Tick) (a : ℕ) (code : ℤ) → IsDifferOf (k ++ x ∷ []) d
    → DiesWith k x a code → IsNewest (k ++ x ∷ []) a
dies_newest k d x a code is died =
    let P : ℕ → Type 0 = λ t. Listed (k ++ x ∷ []) a t in
    let e : length k ≡ length (k ++ x ∷ []) - 1 = omega (arith, length-more k x) in
    newest_listed (k ++ x ∷ []) d a is (subst P e (added (IsOf a) k x (dies_listed k x a code died)))

pub died_more : (k : List Tick) (d : Differ) (x : Tick) (exits : List Exit) (died : Option (ℕ × ℤ)) (run : Option ℕ)
    → IsDifferOf (k ++ x ∷ []) d
    → ((a : ℕ) (code : ℤ) → ((died ≡ Some (a, code)) ↔ DiesWith k x a code))
    → IsNewestRun (k ++ x ∷ []) run → AreExitsFor (k ++ x ∷ []) (OrGone k x) exits
    → AreExits (k ++ x ∷ []) (exits ++ exits_at x.moment (option_and died run))
died_more k d x exits None run is iff runs are =
    let all = exit_none (k ++ x ∷ []) (OrGone k x) (HasExit (k ++ x ∷ [])) exits are
    (λ b. (
      (λ q. elim (exit_cases k x b q)
          [ inl p ↦ p | inr w ↦ absurd (let e : None ≡ Some (b, w.0) = (iff b w.0).1 w.1 in cc) ]),
      (λ p. exit_back k x b p),
    )) in
    record { attempts = all.attempts; in_order = all.in_order; all = all.all; each = all.each }
died_more k d x exits (Some (a, code)) run is iff runs are = there run runs
  where
    died : DiesWith k x a code
    died = (iff a code).0 refl

    listed : IsSomeAnd x.entry (IsOf a)
    listed = dies_listed k x a code died

    newest : IsNewest (k ++ x ∷ []) a
    newest = dies_newest k d x a code is died

    there : (run : Option ℕ) → IsNewestRun (k ++ x ∷ []) run → AreExits (k ++ x ∷ []) (exits ++ exits_at x.moment run)
    there None none = absurd (none a (length k) newest died.0)
    there (Some r) (b, n, ran) =
        let same : b ≡ a = IsNewest-unique (k ++ x ∷ []) b a n newest in
        let P : ℕ → Type 0 = λ c. IsRun (k ++ x ∷ []) c r in
        let all = exit_added (k ++ x ∷ []) (OrGone k x) (HasExit (k ++ x ∷ [])) exits a (recorded x.moment r) are
        (record { moment = (length k, died.0, moment_at-new k x); run = subst P same ran })
        (λ c p.
        let q = exit_back k x c p in
        let u = ended_listed (k ++ x ∷ []) c q.0 q.1.holds in
        not_less_same a c (newest.greatest c u.0 u.1) (λ e. let R : ℕ → Type 0 = λ y. OrGone k x y in
        other (subst R e p)))
        (λ c. (
          (λ q. elim (exit_cases k x c q) [
            | inl p ↦ inl p
            | inr w ↦ inr (one_listed x.entry a c listed
                (of_coded c w.0 x.entry (now (λ seen. (seen.attempt ≡ c) × (seen.code ≡ Some w.0)) k x w.1.1)))
          ]),
          (λ p. elim p [
            | inl p ↦ exit_back k x c p
            | inr e
                ↦ (let R : ℕ → Type 0 = λ y. HasExit (k ++ x ∷ []) y in subst R e (length k, died.0))
          ]),
        )) in
        record { attempts = all.attempts; in_order = all.in_order; all = all.all; each = all.each }
      where
        other : OrGone k x a → ⊥
        other (inl p) =
            let lt : p.0 < length k = (grows_ends k a x).below p.0 p.1.holds in
            died.0.none_before p.0 lt ((grows_ends k a x).old p.0 p.1.holds)
        other (inr g) = g.1 (added (IsOf a) k x listed)

pub none_more_exits : (max_restart_delay at : ℕ) (exits : List Exit) (died : Option ℕ) → died ≡ None → (d : ℕ)
    → IsDelay max_restart_delay exits d → IsDelay max_restart_delay (exits ++ exits_at at died) d
none_more_exits max_restart_delay at exits died none d is =
    let P : List Exit → Type 0 = λ es. IsDelay max_restart_delay es d in
    let Q : Option ℕ → Type 0 = λ o. IsDelay max_restart_delay (exits ++ exits_at at o) d in
    subst Q (sym none) (subst P (sym (append-nil exits)) is)
