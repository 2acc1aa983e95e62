-- One raw phase, and what it is of containers with the same facts.
use Rattle.std.proofs.Common.{◌≡◌, inl, inr, ℕ, ℤ, pos, ◌<◌, List, length, get_or, sym, subst}
use Rattle.std.proofs.Common.{◌∙◌, arith}
use Rattle.std.specs.Prelude.{◌↔◌, All, Any}
use Rattle.std.proofs.lemmas.List.{get_or_default}
use Rattle.histories.proofs.Lists.{some_item}
use Rattle.histories.proofs.Picked.{flip}
use Rattle.manifest.specs.declared.policy.Policy.{Policy}
use Rattle.manifest.specs.declared.pod.Role.{Role}
use Rattle.manifest.specs.declared.pod.Role.TheVariants.{Init, Sidecar, App}
use Rattle.phase.specs.declared.phase.Phase.{Phase}
use Rattle.phase.specs.declared.phase.Phase.TheVariants.{Pending, Running, Succeeded, Failed}
use Rattle.phase.specs.rule.Facts.{Facts, HasCompleted, HasFailed}
use Rattle.phase.specs.rule.RawPhase.{Where, IsAwaited, HasInitialized, AreInitialized}
use Rattle.phase.specs.state.PolicyPhase.{IsRawPhase}
use Rattle.phase.specs.rule.ByContainer.{HasStopped, HasFailedForGood, IsRawPhaseBy}

-- two values by the same cases are equal, where they are in each case
pub where_same : {E : Type 0} (P H H' O O' : Type 0) → (H → H' → E) → (O → O' → E) → Where P H O → Where P H' O' → E
where_same P H H' O O' here otherwise (inl w) (inl v) = here w.1 v.1
where_same P H H' O O' here otherwise (inl w) (inr v) = absurd (v.0 w.0)
where_same P H H' O O' here otherwise (inr w) (inl v) = absurd (w.0 v.0)
where_same P H H' O O' here otherwise (inr w) (inr v) = otherwise w.1 v.1

-- the cases of the raw phase
abbrev pub Cases : Type 0 → Type 0 → Type 0 → Type 0 → Phase → Type 0
Cases One Two Three Four phase =
    Where One (phase ≡ Failed)
    (Where Two (phase ≡ Pending)
    (Where Three (phase ≡ Succeeded)
    (Where Four (phase ≡ Failed) (phase ≡ Running))))

cases_unique : (One Two Three Four : Type 0) (p q : Phase) → Cases One Two Three Four p → Cases One Two Three Four q
    → p ≡ q
cases_unique One Two Three Four p q =
    where_same _ _ _ _ _ (λ a b. a ∙ sym b)
    (where_same _ _ _ _ _ (λ a b. a ∙ sym b)
    (where_same _ _ _ _ _ (λ a b. a ∙ sym b)
    (where_same _ _ _ _ _ (λ a b. a ∙ sym b) (λ a b. a ∙ sym b))))

-- there is one raw phase, by the pod's policy and by what each container has of its own
pub IsRawPhase-unique : {C : Type 0} (facts : Facts C) (policy : Policy) (containers : List C) (p q : Phase)
    → IsRawPhase facts policy containers p → IsRawPhase facts policy containers q → p ≡ q
IsRawPhase-unique facts policy containers p q = cases_unique _ _ _ _ p q

pub IsRawPhaseBy-unique : {C : Type 0} (facts : Facts C) (W : C → ℤ → Type 0) (containers : List C) (p q : Phase)
    → IsRawPhaseBy facts W containers p → IsRawPhaseBy facts W containers q → p ≡ q
IsRawPhaseBy-unique facts W containers p q = cases_unique _ _ _ _ p q

-- one description of a container gives the facts of another
pub record SameFacts {C D : Type 0} (f : Facts C) (g : Facts D) (c : C) (d : D) : Type 0 where
  pub is : (role : Role) → (f.is c role ↔ g.is d role)
  pub exited : (code : ℤ) → (f.exited c code ↔ g.exited d code)
  pub set_up : f.set_up c ↔ g.set_up d
  pub was_started : f.was_started c ↔ g.was_started d

-- and whether it is restarted after an exit
pub record SameRestarts {C D : Type 0} (f : Facts C) (g : Facts D) (W : C → ℤ → Type 0) (V : D → ℤ → Type 0) (c : C)
    (d : D) : Type 0 where
  pub facts : SameFacts f g c d
  pub wants : (code : ℤ) → f.exited c code → (W c code ↔ V d code)

-- R relates the items of two lists, one by one
pub record AreSame {C D : Type 0} (R : C → D → Type 0) (cs : List C) (ds : List D) : Type 0 where
  pub as_many : length cs ≡ length ds
  pub each : (k : ℕ) (c : C) (d : D) → k < length cs → R (get_or cs k c) (get_or ds k d)

-- what R carries over holds of all items of the other list, or of some of them
pub All-same : {C D : Type 0} (R : C → D → Type 0) (P : C → Type 0) (Q : D → Type 0)
    → ((c : C) (d : D) → R c d → P c → Q d)
    → (cs : List C) (ds : List D) → AreSame R cs ds → All P cs → All Q ds
All-same {C = C} R P Q to cs ds same all k e lt =
    let lt' : k < length cs = let old : k < length ds = lt in omega (arith, same.as_many) in
    let c : C = some_item cs k lt' in
    to _ _ (same.each k c e lt') (all k c lt')

pub Any-same : {C D : Type 0} (R : C → D → Type 0) (P : C → Type 0) (Q : D → Type 0)
    → ((c : C) (d : D) → R c d → P c → Q d)
    → (cs : List C) (ds : List D) → AreSame R cs ds → Any P cs → Any Q ds
Any-same {C = C} {D = D} R P Q to cs ds same any =
    let lt : any.0 < length ds = let old : any.0 < length cs = any.2 in omega (arith, same.as_many) in
    let d : D = get_or ds any.0 (some_item ds any.0 lt) in
    let S : C → Type 0 = λ c. R c d in (
      any.0,
      d,
      lt,
      get_or_default ds any.0 d (some_item ds any.0 lt) lt,
      to any.1 d (subst S any.3 (same.each any.0 any.1 (some_item ds any.0 lt) any.2)) any.4,
    )

pub lists_turned : {C D : Type 0} (R : C → D → Type 0) (S : D → C → Type 0) → ((c : C) (d : D) → R c d → S d c)
    → (cs : List C) (ds : List D) → AreSame R cs ds → AreSame S ds cs
lists_turned R S turn cs ds same = record {
  as_many = sym same.as_many;
  each = λ k d c lt. turn _ _ (same.each k c d (let old : k < length ds = lt in omega (arith, same.as_many)));
}

pub turned : {C D : Type 0} (f : Facts C) (g : Facts D) (c : C) (d : D) → SameFacts f g c d → SameFacts g f d c
turned f g c d s = record {
  is = λ role. flip (s.is role);
  exited = λ code. flip (s.exited code);
  set_up = flip s.set_up;
  was_started = flip s.was_started;
}

pub restarts_turned : {C D : Type 0} (f : Facts C) (g : Facts D) (W : C → ℤ → Type 0) (V : D → ℤ → Type 0) (c : C)
    (d : D)
    → SameRestarts f g W V c d → SameRestarts g f V W d c
restarts_turned f g W V c d s = record {
  facts = turned f g c d s.facts;
  wants = λ code exited. flip (s.wants code ((s.facts.exited code).1 exited));
}

where_map : (P P' H O O' : Type 0) → (P ↔ P') → (O → O') → Where P H O → Where P' H O'
where_map P P' H O O' is more (inl w) = inl (is.0 w.0, w.1)
where_map P P' H O O' is more (inr w) = inr ((λ p. w.0 (is.1 p)), more w.1)

failed_to : {C D : Type 0} (f : Facts C) (g : Facts D) (c : C) (d : D) → SameFacts f g c d → HasFailed f c
    → HasFailed g d
failed_to f g c d s w = (w.0, (s.exited w.0).0 w.1, w.2)

stopped_to : {C D : Type 0} (f : Facts C) (g : Facts D) (W : C → ℤ → Type 0) (V : D → ℤ → Type 0) (c : C) (d : D)
    → SameRestarts f g W V c d → HasStopped f W c → HasStopped g V d
stopped_to f g W V c d s w = record {
  code = w.code;
  exited = (s.facts.exited w.code).0 w.exited;
  wants_none = λ v. w.wants_none ((s.wants w.code w.exited).1 v);
}

for_good_to : {C D : Type 0} (f : Facts C) (g : Facts D) (W : C → ℤ → Type 0) (V : D → ℤ → Type 0) (c : C) (d : D)
    → SameRestarts f g W V c d → HasFailedForGood f W c → HasFailedForGood g V d
for_good_to f g W V c d s w = record {
  init = (s.facts.is Init).0 w.init;
  code = w.code;
  exited = (s.facts.exited w.code).0 w.exited;
  failed = w.failed;
  wants_none = λ v. w.wants_none ((s.wants w.code w.exited).1 v);
}

awaited_to : {C D : Type 0} (f : Facts C) (g : Facts D) (c : C) (d : D) → SameFacts f g c d → IsAwaited f c
    → IsAwaited g d
awaited_to f g c d s (inl w) = inl ((s.is Init).0 w.0, λ x. w.1 ((s.exited (pos 0)).1 x))
awaited_to f g c d s (inr (inl w)) = inr (inl ((s.is Sidecar).0 w.0, λ x. w.1 (s.was_started.1 x)))
awaited_to f g c d s (inr (inr w)) = inr (inr ((s.is App).0 w.0, λ x. w.1 (s.set_up.1 x)))

initialized_to : {C D : Type 0} (f : Facts C) (g : Facts D) (c : C) (d : D) → SameFacts f g c d → HasInitialized f c
    → HasInitialized g d
initialized_to f g c d s w = record {
  init = λ i. (s.exited (pos 0)).0 (w.init ((s.is Init).1 i));
  sidecar = λ i. s.was_started.0 (w.sidecar ((s.is Sidecar).1 i));
}

-- the same phase where the cases hold of each other
pub cases_map : (One Two Three Four One' Two' Three' Four' : Type 0) (p : Phase) → (One ↔ One') → (Two ↔ Two')
    → (Three ↔ Three') → (Four ↔ Four') → Cases One Two Three Four p → Cases One' Two' Three' Four' p
cases_map One Two Three Four One' Two' Three' Four' p one two three four =
    where_map _ _ _ _ _ one (where_map _ _ _ _ _ two (where_map _ _ _ _ _ three (where_map _ _ _ _ _ four (λ e. e))))

-- the raw phase of containers with the same facts and restarts is the same
pub raw_same : {C D : Type 0} (f : Facts C) (g : Facts D) (W : C → ℤ → Type 0) (V : D → ℤ → Type 0) (cs : List C)
    (ds : List D) (phase : Phase) → AreSame (SameRestarts f g W V) cs ds
    → IsRawPhaseBy f W cs phase → IsRawPhaseBy g V ds phase
raw_same {C = C} {D = D} f g W V cs ds phase same =
    where_map _ _ _ _ _ (any _ _ (for_good_to f g W V), any_back _ _ (for_good_to g f V W))
    (where_map _ _ _ _ _ (
      any _ _ (λ c d s. awaited_to f g c d s.facts),
      any_back _ _ (λ d c s. awaited_to g f d c s.facts),
    )
    (where_map _ _ _ _ _ (
      (λ w. (all _ _ stops w.0, all _ _ completes w.1)),
      (λ w. (all_back _ _ stops_back w.0, all_back _ _ completes_back w.1)),
    )
    (where_map _ _ _ _ _ (
      (λ w. (all _ _ stops w.0, any _ _ failed_app w.1)),
      (λ w. (all_back _ _ stops_back w.0, any_back _ _ failed_app_back w.1)),
    )
    (λ e. e))))
  where
    back : AreSame (SameRestarts g f V W) ds cs
    back = lists_turned (SameRestarts f g W V) (SameRestarts g f V W) (restarts_turned f g W V) cs ds same

    any : (P : C → Type 0) (Q : D → Type 0) → ((c : C) (d : D) → SameRestarts f g W V c d → P c → Q d) → Any P cs
        → Any Q ds
    any P Q to = Any-same (SameRestarts f g W V) P Q to cs ds same

    any_back : (P : C → Type 0) (Q : D → Type 0) → ((d : D) (c : C) → SameRestarts g f V W d c → Q d → P c) → Any Q ds
        → Any P cs
    any_back P Q to = Any-same (SameRestarts g f V W) Q P to ds cs back

    all : (P : C → Type 0) (Q : D → Type 0) → ((c : C) (d : D) → SameRestarts f g W V c d → P c → Q d) → All P cs
        → All Q ds
    all P Q to = All-same (SameRestarts f g W V) P Q to cs ds same

    all_back : (P : C → Type 0) (Q : D → Type 0) → ((d : D) (c : C) → SameRestarts g f V W d c → Q d → P c) → All Q ds
        → All P cs
    all_back P Q to = All-same (SameRestarts g f V W) Q P to ds cs back

    stops : (c : C) (d : D) → SameRestarts f g W V c d → (f.is c App → HasStopped f W c) → g.is d App → HasStopped g V d
    stops c d s w i = stopped_to f g W V c d s (w ((s.facts.is App).1 i))

    stops_back : (d : D) (c : C) → SameRestarts g f V W d c → (g.is d App → HasStopped g V d) → f.is c App
        → HasStopped f W c
    stops_back d c s w i = stopped_to g f V W d c s (w ((s.facts.is App).1 i))

    completes : (c : C) (d : D) → SameRestarts f g W V c d → (f.is c App → HasCompleted f c) → g.is d App
        → HasCompleted g d
    completes c d s w i = (s.facts.exited (pos 0)).0 (w ((s.facts.is App).1 i))

    completes_back : (d : D) (c : C) → SameRestarts g f V W d c → (g.is d App → HasCompleted g d) → f.is c App
        → HasCompleted f c
    completes_back d c s w i = (s.facts.exited (pos 0)).0 (w ((s.facts.is App).1 i))

    failed_app : (c : C) (d : D) → SameRestarts f g W V c d → f.is c App × HasFailed f c → g.is d App × HasFailed g d
    failed_app c d s w = ((s.facts.is App).0 w.0, failed_to f g c d s.facts w.1)

    failed_app_back : (d : D) (c : C) → SameRestarts g f V W d c → g.is d App × HasFailed g d
        → f.is c App × HasFailed f c
    failed_app_back d c s w = ((s.facts.is App).0 w.0, failed_to g f d c s.facts w.1)

-- and so is whether they are initialized
pub initialized_same : {C D : Type 0} (f : Facts C) (g : Facts D) (cs : List C) (ds : List D)
    → AreSame (SameFacts f g) cs ds → AreInitialized f cs → AreInitialized g ds
initialized_same f g cs ds same =
    All-same (SameFacts f g) (HasInitialized f) (HasInitialized g) (initialized_to f g) cs ds same
