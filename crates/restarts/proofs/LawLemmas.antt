-- The laws of the delays.
use Rattle.std.proofs.Common.{◌≡◌, ℕ, ◌+◌, ◌≤◌, List, [], ◌∷◌, ◌++◌, Option, Some, None, refl, ap, ◌∙◌, sym, min, ◌*◌}
use Rattle.std.proofs.Common.{arith}
use Rattle.histories.specs.rule.Histories.{recorded}
use Rattle.restarts.specs.rule.Exits.{Exit}
use Rattle.restarts.specs.rule.Delays.{IsRestartDue, delay_of}
use Rattle.restarts.specs.state.Laws.{EveryListHasOneDelay, DelayIsOneOfSeven, LongRunResets, DelayDoesNotFall}
use Rattle.restarts.specs.state.Laws.{DelayDoubles, LongRunForgets}
use Rattle.restarts.proofs.Places.{last_moment-after}
use Rattle.restarts.proofs.Numbers.{number_of, number_unique, number_short, number_long, number_forgets}
use Rattle.restarts.proofs.Numbers.{number_remembers}
use Rattle.restarts.proofs.DelayLemmas.{delay_of-rises, delay_of-among, delay_of-doubles}

pub one_delay : EveryListHasOneDelay
one_delay max_restart_delay exits =
    let num = number_of exits in (
      (delay_of max_restart_delay num.0, (num.0, num.1, refl)),
      λ c d p q. p.2 ∙ ap (delay_of max_restart_delay) (number_unique exits p.0 q.0 p.1 q.1) ∙ sym q.2,
    )

pub one_of_seven : DelayIsOneOfSeven
one_of_seven max_restart_delay exits delay few p = rw p.2 (delay_of-among max_restart_delay p.0 few)

pub resets : LongRunResets
resets max_restart_delay exits moment run delay long p =
    let last = recorded moment run in
    p.2 ∙ ap (delay_of max_restart_delay) (number_unique (exits ++ last ∷ []) p.0 1 p.1 (number_long exits last long))

pub does_not_fall : DelayDoesNotFall
does_not_fall max_restart_delay exits moment run before after short p q =
    let last = recorded moment run in
    let next : q.0 ≡ p.0 + 1 = number_unique (exits ++ last ∷ []) q.0 (p.0 + 1) q.1
    (number_short exits last p.0 short p.1) in
    let rises : delay_of max_restart_delay p.0 ≤ delay_of max_restart_delay q.0 =
    delay_of-rises max_restart_delay p.0 q.0 (omega arith) in
    let from : before ≡ delay_of max_restart_delay p.0 = p.2 in
    let to : after ≡ delay_of max_restart_delay q.0 = q.2 in
    omega arith

pub doubles : DelayDoubles
doubles max_restart_delay exits moment run before after short some p q =
    let last = recorded moment run in
    let next : q.0 ≡ p.0 + 1 = number_unique (exits ++ last ∷ []) q.0 (p.0 + 1) q.1
    (number_short exits last p.0 short p.1) in
    let from : before ≡ delay_of max_restart_delay p.0 = p.2 in
    let to : after ≡ delay_of max_restart_delay q.0 = q.2 in
    let twice : delay_of max_restart_delay (p.0 + 1) ≡ min max_restart_delay (2 * delay_of max_restart_delay p.0) =
    delay_of-doubles max_restart_delay p.0
    (omega arith) in
    to ∙ ap (delay_of max_restart_delay) next ∙ twice ∙ ap (λ d. min max_restart_delay (2 * d)) (sym from)

some_exit : (earlier later : List Exit) (x : Exit) → earlier ++ x ∷ later ≡ [] → ⊥
some_exit [] later x is = cc
some_exit (y ∷ earlier) later x is = cc

due_forgets : (max_restart_delay : ℕ) (earlier later : List Exit) (long : Exit) (due : Option ℕ) → 600 ≤ long.entry
    → IsRestartDue max_restart_delay (earlier ++ long ∷ later) due → IsRestartDue max_restart_delay (long ∷ later) due
due_forgets max_restart_delay earlier later long None is none = absurd (some_exit earlier later long none)
due_forgets max_restart_delay earlier later long (Some due) is (last, delay, ends, (n, num, by), so) = (
  last,
  delay,
  sym (last_moment-after earlier long later)
      ∙ ends,
  (n, number_forgets earlier later long n is num, by),
  so,
)

due_remembers : (max_restart_delay : ℕ) (earlier later : List Exit) (long : Exit) (due : Option ℕ) → 600 ≤ long.entry
    → IsRestartDue max_restart_delay (long ∷ later) due → IsRestartDue max_restart_delay (earlier ++ long ∷ later) due
due_remembers max_restart_delay earlier later long None is none = absurd (some_exit [] later long none)
due_remembers max_restart_delay earlier later long (Some due) is (last, delay, ends, (n, num, by), so) = (
  last,
  delay,
  last_moment-after earlier long later ∙ ends,
  (n, number_remembers earlier later long n is num, by),
  so,
)

pub forgets : LongRunForgets
forgets max_restart_delay earlier later moment run backoff is =
    let long = recorded moment run in (
      λ st. record {
        kept = st.kept;
        count = let of = st.count in (of.0, number_forgets earlier later long of.0 is of.1, of.2);
        due = due_forgets max_restart_delay earlier later long backoff.due is st.due;
      },
      λ st. record {
        kept = st.kept;
        count = let of = st.count in (of.0, number_remembers earlier later long of.0 is of.1, of.2);
        due = due_remembers max_restart_delay earlier later long backoff.due is st.due;
      },
    )
