-- What one more exit makes of the count, and that the count of exits is one.
use Rattle.std.proofs.Common.{◌≡◌, ◌∙◌, inl, inr, ℕ, zero, suc, ◌+◌, ◌<◌, ◌≤◌, Bool, true, false, List, [], ◌∷◌, ◌++◌}
use Rattle.std.proofs.Common.{length, Some, refl, ap, sym, subst, arith}
use Rattle.std.specs.Prelude.{◌↔◌, IsTrue, slice_get, get_or}
use Rattle.std.proofs.lemmas.Bool.{cases_lt}
use Rattle.std.proofs.lemmas.Option.{same_Some, slice_get-get_or, slice_get_within}
use Rattle.histories.specs.rule.Histories.{Recorded, recorded, moment_at}
use Rattle.histories.proofs.Decide.{same_bool}
use Rattle.histories.proofs.Lists.{slice_get-new, slice_get-kept}
use Rattle.histories.proofs.Places.{length-more, moment_at-old, moment_at-new, moment_at-below, entry_at-below}
use Rattle.restarts.specs.rule.Exits.{Exit, IsLong, IsBeginning}
use Rattle.restarts.proofs.Places.{beginning_short, beginning_long, beginning_unique}
use Rattle.restarts.proofs.Numbers.{number_of}
use Rattle.restart_causes.specs.declared.exit_count.ExitCount.{ExitCount}
use Rattle.restart_causes.specs.rule.ExitCounts.{IsExitCount}

-- the first exit of all
pub first_exit : (attempts : List ℕ) (exits : List Exit) (a at run : ℕ) → length attempts ≡ length exits → exits ≡ []
    → IsExitCount (attempts ++ a ∷ []) (exits ++ recorded at run ∷ [])
    (record { number = 1; first = a; since = at; is_first_of_all = true })
first_exit [] [] a at run same none = record {
  start = 0;
  beginning = elim (cases_lt run 600) [
    | inl lt ↦ beginning_short [] (recorded at run) 0 lt (inr (refl, λ t long. long))
    | inr le ↦ beginning_long [] (recorded at run) le
  ];
  counted = refl;
  first = refl;
  since = refl;
  of_all = (λ t. refl, λ e. refl);
}
first_exit (b ∷ attempts) [] a at run same none = absurd (cc)
first_exit attempts (x ∷ exits) a at run same none = absurd (cc)

-- an exit after a long run
pub long_exit : (attempts : List ℕ) (exits : List Exit) (a at run : ℕ) (before : ExitCount)
    → length attempts ≡ length exits → 600 ≤ run → IsExitCount attempts exits before
    → IsExitCount (attempts ++ a ∷ []) (exits ++ recorded at run ∷ [])
    (record { number = 1; first = a; since = at; is_first_of_all = false })
long_exit attempts exits a at run before same long is =
    let P : ℕ → Type 0 = λ n. slice_get (attempts ++ a ∷ []) n ≡ Some a in
    let some : is.start < length exits = moment_at-below exits is.start before.since is.since in
    record {
      start = length exits;
      beginning = beginning_long exits (recorded at run) long;
      counted = omega (arith, length-more exits (recorded at run));
      first = subst P same (slice_get-new attempts a);
      since = moment_at-new exits (recorded at run);
      of_all = ((λ t. absurd (let e : false ≡ true = t in cc)), (λ e. absurd (omega arith)));
    }

-- an exit after another run
pub short_exit : (attempts : List ℕ) (exits : List Exit) (a at run number : ℕ) (before : ExitCount)
    → run < 600 → IsExitCount attempts exits before → number ≡ before.number + 1
    → IsExitCount (attempts ++ a ∷ []) (exits ++ recorded at run ∷ [])
    (record { number = number; first = before.first; since = before.since; is_first_of_all = before.is_first_of_all })
short_exit attempts exits a at run number before short is more = record {
  start = is.start;
  beginning = beginning_short exits (recorded at run) is.start short is.beginning;
  counted = let so : is.start + before.number ≡ length exits = is.counted in
      omega (arith, length-more exits (recorded at run));
  first = slice_get-kept attempts (a ∷ []) is.start before.first is.first;
  since = moment_at-old exits (recorded at run) is.start before.since is.since;
  of_all = is.of_all;
}

-- so many exits count as there are attempts at most
pub number_within : (attempts : List ℕ) (exits : List Exit) (count : ExitCount) → length attempts ≡ length exits
    → IsExitCount attempts exits count → count.number ≤ length attempts
number_within attempts exits count same is =
    let so : is.start + count.number ≡ length exits = is.counted in omega arith

abbrev built : ℕ → ℕ → ℕ → Bool → ExitCount
built number first since is_first_of_all =
    record { number = number; first = first; since = since; is_first_of_all = is_first_of_all }

made : (count other : ExitCount) → count.number ≡ other.number → count.first ≡ other.first → count.since ≡ other.since
    → count.is_first_of_all ≡ other.is_first_of_all → count ≡ other
made count other n f s a =
    ap (λ x. built x count.first count.since count.is_first_of_all) n
    ∙ ap (λ x. built other.number x count.since count.is_first_of_all) f
    ∙ ap (λ x. built other.number other.first x count.is_first_of_all) s
    ∙ ap (λ x. built other.number other.first other.since x) a

pub one_count : (attempts : List ℕ) (exits : List Exit) (count other : ExitCount) → IsExitCount attempts exits count
    → IsExitCount attempts exits other → count ≡ other
one_count attempts exits count other c d =
    let e : c.start ≡ d.start = beginning_unique exits c.start d.start c.beginning d.beginning in
    let m : c.start + count.number ≡ length exits = c.counted in
    let n : d.start + other.number ≡ length exits = d.counted in
    made count other (omega arith)
    (same_Some count.first other.first (sym c.first ∙ ap (λ i. slice_get attempts i) e ∙ d.first))
    (same_Some count.since other.since (sym c.since ∙ ap (λ i. moment_at exits i) e ∙ d.since))
    (same_bool count.is_first_of_all other.is_first_of_all (
      (λ t. d.of_all.1 (sym e ∙ c.of_all.0 t)),
      (λ t. c.of_all.1 (e ∙ d.of_all.0 t)),
    ))

moment_some : (exits : List Exit) (i : ℕ) → i < length exits → (m : ℕ) × (moment_at exits i ≡ Some m)
moment_some [] i lt = absurd (omega arith)
moment_some (x ∷ exits) zero lt = (x.moment, refl)
moment_some (x ∷ exits) (suc i) lt = moment_some exits i (omega arith)

is_zero : (n : ℕ) → (b : Bool) × (IsTrue b ↔ (n ≡ 0))
is_zero zero = (true, ((λ t. refl), (λ e. refl)))
is_zero (suc n) = (false, ((λ t. absurd (let e : false ≡ true = t in cc)), (λ e. absurd (cc))))

pub some_count : (attempts : List ℕ) (exits : List Exit) → length attempts ≡ length exits → (exits ≡ [] → ⊥)
    → (count : ExitCount) × IsExitCount attempts exits count
some_count attempts exits same some =
    let n = number_of exits in
    let start = n.1.start in
    let within : start < length exits = below start n.1.beginning in
    let moment = moment_some exits start within in
    let first = is_zero start in (
      record {
        number = n.0;
        first = get_or attempts start 0;
        since = moment.0;
        is_first_of_all = first.0;
      },
      record {
        start = start;
        beginning = n.1.beginning;
        counted = n.1.counted;
        first = slice_get-get_or attempts start 0 (omega arith);
        since = moment.1;
        of_all = first.1;
      },
    )
  where
    nonempty : (xs : List Exit) → (xs ≡ [] → ⊥) → 0 < length xs
    nonempty [] not = absurd (not refl)
    nonempty (x ∷ xs) not = omega arith

    below : (start : ℕ) → IsBeginning exits start → start < length exits
    below start (inl last) = entry_at-below (λ run. 600 ≤ run) exits start last.holds
    below start (inr w) = let e : start ≡ 0 = w.0 in let lt : 0 < length exits = nonempty exits some in omega arith
