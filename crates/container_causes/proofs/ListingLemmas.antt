-- What the tick before listed.
use Rattle.std.proofs.Common.{◌≡◌, ◌∙◌, inl, inr, ℕ, ◌+◌, ◌-◌, List, [], ◌∷◌, ◌++◌, length, Option, Some, None, refl, sym, ap}
use Rattle.std.proofs.Common.{subst, arith}
use Rattle.std.specs.Prelude.{ℤ, IsSomeAnd, option_map, unwrap_or}
use Rattle.std.proofs.lemmas.List.{length_push}
use Rattle.state_diff.specs.declared.seen.Seen.{Seen}
use Rattle.state_diff.specs.declared.differ.Differ.{Differ}
use Rattle.state_diff.specs.rule.Instances.{Tick, IsOf, IsOfAs, Listed, IsNewest, IsExit, IsRun, killed_code}
use Rattle.state_diff.specs.state.Differ.{IsStateOf as IsDifferOf, IsNewestRun}
use Rattle.state_diff.proofs.Growth.{grows_seen}
use Rattle.state_diff.proofs.Found.{gone_before}
use Rattle.state_diff.proofs.Unique.{IsNewest-unique}
use Rattle.containers.specs.declared.pod_event_kind.PodEventKind.TheVariants.{Died}
use Rattle.containers.specs.rule.Ticks.{ContainerTick, listings}
use Rattle.containers.specs.rule.Events.{IsGone, HasDied}
use Rattle.containers.proofs.TickLemmas.{listing, long, from, seen_now, newest_now}
use Rattle.container_causes.specs.declared.listing_causes.KeptTick.{KeptTick}
use Rattle.container_causes.specs.declared.listing_causes.Unlisted.{Unlisted}
use Rattle.container_causes.specs.rule.Listings.{IsUnlisted}
use Rattle.container_causes.specs.state.Listings.{unlisted_of}
use Rattle.container_causes.specs.state.Watched.{kept_tick, IsLastKept}

-- lists that end with one item are one front and one item
same_front : {A : Type 0} (xs ys : List A) (x y : A) → xs ++ x ∷ [] ≡ ys ++ y ∷ [] → (xs ≡ ys) × (x ≡ y)
same_front [] [] x y e = (refl, cc)
same_front [] (z ∷ ys) x y e =
    let long : length (x ∷ []) ≡ length (z ∷ (ys ++ y ∷ [])) = ap length e in
    absurd (omega (arith, length_push ys y))
same_front (z ∷ xs) [] x y e =
    let long : length (z ∷ (xs ++ x ∷ [])) ≡ length (y ∷ []) = ap length e in
    absurd (omega (arith, length_push xs x))
same_front (z ∷ xs) (w ∷ ys) x y e =
    let head : z ≡ w = cc in
    let tail : xs ++ x ∷ [] ≡ ys ++ y ∷ [] = cc in
    let rest = same_front xs ys x y tail in
    (ap (λ k. k ∷ xs) head ∙ ap (λ ks. w ∷ ks) rest.0, rest.1)

-- what is kept of the front
pub front_kept : (h front : List ContainerTick) (x y : ContainerTick) (kept : Option KeptTick)
    → h ++ x ∷ [] ≡ front ++ y ∷ [] → IsLastKept h kept → IsLastKept front kept
front_kept h front x y kept e is =
    subst (λ (k : List ContainerTick). IsLastKept k kept) (same_front h front x y e).0 is

-- what the last tick before x listed
listed_before : (h : List ContainerTick) (x y : ContainerTick) (front : List ContainerTick) (a : ℕ)
    → h ≡ front ++ y ∷ [] → Listed (listings (h ++ x ∷ [])) a (length h - 1) → IsSomeAnd y.entry.seen (IsOf a)
listed_before h x y front a e listed =
    let more : length h ≡ length front + 1 = ap length e ∙ length_push front y in
    let place : length h - 1 ≡ length front = omega (arith, more) in
    let g = grows_seen (IsOf a) (listings h) (listing x) in
    elim (g.split (length h - 1) (from (λ k. Listed k a (length h - 1)) h x listed)) [
      | inl old ↦
          let there : Listed (listings (front ++ y ∷ [])) a (length front) =
          subst (λ (k : List ContainerTick). Listed (listings k) a (length front)) e
          (subst (λ (t : ℕ). Listed (listings h) a t) place old) in
          (seen_now (IsOf a) front y).0 there
      | inr w ↦ let at : length h - 1 ≡ length (listings h) = w.0 in absurd (omega (arith, more, long h))
    ]

-- an instance that is gone has died, and which it was
gone_parts : (h : List ContainerTick) (x : ContainerTick) (a : ℕ) → IsGone (h ++ x ∷ []) (length h) (Died a killed_code)
    → IsExit (listings (h ++ x ∷ [])) a (length h) × (Listed (listings (h ++ x ∷ [])) a (length h) → ⊥)
gone_parts h x a (b, is, exit, gone) =
    let same : b ≡ a = cc in
    subst (λ (k : ℕ). IsExit (listings (h ++ x ∷ [])) k (length h) × (Listed (listings (h ++ x ∷ [])) k (length h) → ⊥))
    same (exit, gone)

seen_given : (a : ℕ) (o : Option Seen) → IsSomeAnd o (IsOf a) → (was : Seen) × (o ≡ Some was) × (was.attempt ≡ a)
seen_given a None q = absurd q
seen_given a (Some s) q = (s, refl, q)

-- the cause, by the two ticks that are kept
pub unlisted_found : (h : List ContainerTick) (x : ContainerTick) (a : ℕ) (before last : Option KeptTick)
    (result : Option Unlisted) → IsLastKept h before → IsLastKept (h ++ x ∷ []) last
    → IsGone (h ++ x ∷ []) (length h) (Died a killed_code)
    → ((b l : KeptTick) (was : Seen) → before ≡ Some b → last ≡ Some l → b.seen ≡ Some was
    → result ≡ Some (unlisted_of b l was))
    → IsSomeAnd result (λ cause. (cause.attempt ≡ a) × IsUnlisted h x cause)
unlisted_found h x a before last result (None, is, kept) (now, is', kept') gone give =
    let w = gone_parts h x a gone in
    let empty : length h - 1 ≡ length h = rw is refl in
    absurd (w.1 (subst (λ (t : ℕ). Listed (listings (h ++ x ∷ [])) a t) empty
    (gone_before (listings (h ++ x ∷ [])) a (length h) w.0 w.1)))
unlisted_found h x a before last result (Some y, (front, is), kept) (None, is', kept') gone give =
    let long : length (h ++ x ∷ []) ≡ 0 = rw is' refl in
    absurd (omega (arith, long, length_push h x))
unlisted_found h x a before last result (Some y, (front, is), kept) (Some z, (all, is'), kept') gone give =
    let w = gone_parts h x a gone in
    let seen = seen_given a y.entry.seen
    (listed_before h x y front a is (gone_before (listings (h ++ x ∷ [])) a (length h) w.0 w.1)) in
    let one : x ≡ z = (same_front h all x z is').1 in
    let now : last ≡ Some (kept_tick x) = kept' ∙ ap (λ t. Some (kept_tick t)) (sym one) in
    rw (give (kept_tick y) (kept_tick x) seen.0 kept now seen.1) (
      seen.2,
      record {
        gone = subst (λ (k : ℕ). IsGone (h ++ x ∷ []) (length h) (Died k killed_code)) (sym seen.2) gone;
        instead = refl;
        last = y;
        is_last = (front, is);
        before = refl;
        was = subst (λ (o : Option Seen). IsSomeAnd o (IsOfAs seen.0.attempt seen.0.state)) (sym seen.1) (refl, refl);
      },
    )

-- an instance that the tick lists and that died is the newest, with its start and its run
pub exited_newest : (h : List ContainerTick) (x : ContainerTick) (d : Differ) (a : ℕ) (code : ℤ)
    → IsDifferOf (listings (h ++ x ∷ [])) d → HasDied (h ++ x ∷ []) (length h) (Died a code)
    → IsNewest (listings (h ++ x ∷ [])) a × ((t : ℕ) × IsExit (listings (h ++ x ∷ [])) a t)
exited_newest h x d a code is (b, k, e, exit, listed, coded) =
    let same : b ≡ a = cc in
    let newest = newest_now h x d b is ((seen_now (IsOf b) h x).0 listed) in
    subst (λ (n : ℕ). IsNewest (listings (h ++ x ∷ [])) n × ((t : ℕ) × IsExit (listings (h ++ x ∷ [])) n t)) same
    (newest, (length h, exit))

pub run_given : (k : List Tick) (a : ℕ) (o : Option ℕ) → IsNewestRun k o → IsNewest k a → (t : ℕ) → IsExit k a t
    → IsRun k a (unwrap_or o 0)
run_given k a None none n t exit = absurd (none a t n exit)
run_given k a (Some run) (b, newest, is) n t exit =
    subst (λ (m : ℕ). IsRun k m run) (IsNewest-unique k b a newest n) is

-- what is kept of a tick names its moment and its listing
pub kept_moment : (last : Option ContainerTick) (kept : Option KeptTick) → kept ≡ option_map kept_tick last
    → option_map (λ (t : KeptTick). t.at) kept ≡ option_map (λ (t : ContainerTick). t.moment) last
kept_moment None kept is = rw is refl
kept_moment (Some y) kept is = rw is refl

pub kept_listing : (last : Option ContainerTick) (kept : Option KeptTick) → kept ≡ option_map kept_tick last
    → option_map (λ (t : KeptTick). t.seen) kept ≡ option_map (λ (t : ContainerTick). t.entry.seen) last
kept_listing None kept is = rw is refl
kept_listing (Some y) kept is = rw is refl
