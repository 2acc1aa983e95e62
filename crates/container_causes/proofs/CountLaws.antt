-- The count of a container's exits is one, and gives the delay.
use Rattle.std.proofs.Common.{◌≡◌, ◌∙◌, ℕ, ℤ, List, [], ◌∷◌, Some, refl, ap, sym, subst}
use Rattle.std.specs.Prelude.{Contains}
use Rattle.std.proofs.lemmas.Option.{same_Some}
use Rattle.histories.specs.rule.Histories.{IsFirstMoment}
use Rattle.histories.proofs.First.{IsFirstMoment-unique}
use Rattle.state_diff.specs.rule.Instances.{Ends, IsExit, IsExitCode}
use Rattle.state_diff.proofs.Unique.{IsNewest-unique, IsExitCode-unique}
use Rattle.restarts.specs.rule.Exits.{Exit}
use Rattle.restarts.specs.rule.Delays.{IsDelay}
use Rattle.restarts.proofs.LawLemmas.{one_delay}
use Rattle.restart_causes.specs.declared.exit_count.ExitCount.{ExitCount}
use Rattle.restart_causes.specs.rule.ExitCounts.{IsExitCount, doublings_of, delay_by}
use Rattle.restart_causes.proofs.CountLemmas.{one_count, some_count}
use Rattle.restart_causes.proofs.DelayLemmas.{delay_follows}
use Rattle.containers.specs.rule.Ticks.{ContainerTick, listings}
use Rattle.containers.specs.rule.Exits.{AreExitsOf, IsDelayed}
use Rattle.containers.proofs.ListLemmas.{rising_one}
use Rattle.containers.proofs.RestartLemmas.{exits_one}
use Rattle.container_causes.specs.declared.exits.LastExit.{LastExit}
use Rattle.container_causes.specs.rule.Exits.{IsLastExit, IsCounted}
use Rattle.container_causes.proofs.CountedLemmas.{lengths, nonempty}

pub one_counted : (h : List ContainerTick) (count other : ExitCount) → IsCounted h count → IsCounted h other
    → count ≡ other
one_counted h count other is is' =
    let a = is.are_exits in
    let b = is'.are_exits in
    let attempts : a.attempts ≡ b.attempts = rising_one a.attempts b.attempts a.in_order b.in_order
    (λ n. ((λ c. (b.all n).1 ((a.all n).0 c)), (λ c. (a.all n).1 ((b.all n).0 c)))) in
    let exits : is.exits ≡ is'.exits = exits_one (listings h) is.exits is'.exits a b in
    one_count b.attempts is'.exits count other
    (subst (λ (es : List Exit). IsExitCount b.attempts es count) exits
    (subst (λ (list : List ℕ). IsExitCount list is.exits count) attempts is.counted)) is'.counted

pub counted_of : (max_restart_delay : ℕ) (h : List ContainerTick) (delay a t : ℕ) → IsDelayed max_restart_delay h delay
    → IsExit (listings h) a t → (count : ExitCount) × IsCounted h count
counted_of max_restart_delay h delay a t (exits, are, delayed) exit =
    let found = some_count are.attempts exits (lengths (listings h) are.attempts exits are.each)
    (nonempty (listings h) a are.attempts exits are.each ((are.all a).1 (t, exit))) in
    (found.0, record { exits = exits; are_exits = are; counted = found.1 })

pub delay_of_count : (max_restart_delay : ℕ) (h : List ContainerTick) (count : ExitCount) (delay : ℕ)
    → IsCounted h count → IsDelayed max_restart_delay h delay
    → delay ≡ delay_by max_restart_delay (doublings_of count.number)
delay_of_count max_restart_delay h count delay is (exits, are, delayed) =
    let same : exits ≡ is.exits = exits_one (listings h) exits is.exits are is.are_exits in
    (one_delay max_restart_delay is.exits).1 delay (delay_by max_restart_delay (doublings_of count.number))
    (subst (λ (es : List Exit). IsDelay max_restart_delay es delay) same delayed)
    (delay_follows max_restart_delay is.are_exits.attempts is.exits count is.counted)

abbrev built : ℕ → ℕ → ℤ → LastExit
built attempt at code = record { attempt = attempt; at = at; code = code }

pub one_last_exit : (h : List ContainerTick) (cause other : LastExit) → IsLastExit h cause → IsLastExit h other
    → cause ≡ other
one_last_exit h cause other is is' =
    let attempt : cause.attempt ≡ other.attempt = IsNewest-unique (listings h) cause.attempt other.attempt is.newest
    is'.newest in
    let code : cause.code ≡ other.code = IsExitCode-unique (listings h) other.attempt cause.code other.code
    (subst (λ (a : ℕ). IsExitCode (listings h) a cause.code) attempt is.code) is'.code in
    let at : cause.at ≡ other.at = same_Some cause.at other.at (IsFirstMoment-unique (listings h)
    (Ends (listings h) other.attempt) (Some cause.at) (Some other.at)
    (subst (λ (a : ℕ). IsFirstMoment (listings h) (Ends (listings h) a) (Some cause.at)) attempt is.moment)
    is'.moment) in
    ap (λ x. built x cause.at cause.code) attempt ∙ ap (λ x. built other.attempt x cause.code) at
    ∙ ap (λ x. built other.attempt other.at x) code
