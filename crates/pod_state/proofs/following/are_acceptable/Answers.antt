use Rattle.std.proofs.Common.{◌<◌, length, Option, refl, sym, subst, arith}
use Rattle.std.proofs.lemmas.Bool.{iff_false}
use Rattle.state_diff.specs.declared.seen.Seen.{Seen}
use Rattle.containers.specs.rule.Ticks.{listings}
use Rattle.state_diff.specs.state.Instances.{IsAcceptable}
use Rattle.pod_state.specs.rule.Pods.{ticks_of}
use Rattle.pod_state.specs.state.Listings.{listed_in}
use Rattle.pod_state.proofs.ContainerLemmas.{all_next, acceptable_is}
use Rattle.pod_state.proofs.following.are_acceptable.Goals as goal

pub loop-number-preserved : goal.loop-number-preserved
loop-number-preserved c = λ pod max_restart_delay h are.
    let i = c.loop-number.number in
    let x = c.index-containers-number.result in
    let lt : i < length c.args.containers.now = c.loop-number-test.true in
    let says = acceptable_is pod max_restart_delay h i c.args.containers.now x c.accepts.result c.listed_in.result lt
    c.index-containers-number.is are (λ spec k st. c.accepts.ensures.acceptable spec max_restart_delay k st) in
    let here = subst (λ (o : Option Seen). IsAcceptable (listings (ticks_of h i)) o) c.listed_in.ensures
    (says.0 c.if-not-accepts.false) in
    all_next (λ n. IsAcceptable (listings (ticks_of h n)) (listed_in c.args.observed.now.containers n)) i
    (c.loop-number.invariant pod max_restart_delay h are) here

pub returns-then-not-accepts : goal.returns-then-not-accepts
returns-then-not-accepts c = λ pod max_restart_delay h are.
    let i = c.loop-number.number in
    let x = c.index-containers-number.result in
    let lt : i < length c.args.containers.now = c.loop-number-test.true in
    let says = acceptable_is pod max_restart_delay h i c.args.containers.now x c.accepts.result c.listed_in.result lt
    c.index-containers-number.is are (λ spec k st. c.accepts.ensures.acceptable spec max_restart_delay k st) in (
      (λ t. absurd (cc)),
      (λ all. absurd (iff_false says c.if-not-accepts.true
          (subst (λ (o : Option Seen). IsAcceptable (listings (ticks_of h i)) o) (sym c.listed_in.ensures)
          (all i (omega (arith, lt, are.as_many)))))),
    )

pub returns : goal.returns
returns c = λ pod max_restart_delay h are. (
  (λ t n lt. c.loop-number.invariant pod max_restart_delay h are n (omega (arith, are.as_many, lt))),
  (λ all. refl),
)
