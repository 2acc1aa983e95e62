use Rattle.std.proofs.Common.{◌≡◌, ◌∙◌, ℕ, ◌+◌, ◌<◌, suc, Bool, false, true, List, drop, length, ap, sym, arith}
use Rattle.std.specs.Prelude.{◌&&◌}
use Rattle.std.specs.List.{list_all}
use Rattle.observations.specs.declared.container.ContainerObs.{ContainerObs}
use Rattle.observations.specs.rule.Observations.{listed_in}
use Rattle.eviction.specs.rule.Replay.{has_ended}
use Rattle.eviction.proofs.Ended.{over_step}
use Rattle.eviction.proofs.over.have_ended.Goals as goal

-- whether those from a number on have ended
abbrev From : List ContainerObs → ℕ → Bool
From containers n = list_all (λ (c : ContainerObs). has_ended c.seen) (drop n containers)

pub returns-then-not-has_ended : goal.returns-then-not-has_ended
returns-then-not-has_ended c =
    let shown = c.args.shown.now in
    let n = c.loop-number.number in
    let lt : n < length shown.containers =
    omega (arith, c.loop-number-test.true, c.container_count-number-end.ensures) in
    let here : has_ended (listed_in shown n) ≡ false =
    ap has_ended (sym c.listed_in.ensures) ∙ sym c.has_ended.ensures ∙ c.if-not-has_ended.true in
    sym (c.loop-number.invariant ∙ over_step shown.containers n lt
    ∙ ap (λ (b : Bool). b && From shown.containers (suc n)) here)

pub loop-number-preserved : goal.loop-number-preserved
loop-number-preserved c =
    let shown = c.args.shown.now in
    let n = c.loop-number.number in
    let lt : n < length shown.containers =
    omega (arith, c.loop-number-test.true, c.container_count-number-end.ensures) in
    let here : has_ended (listed_in shown n) ≡ true =
    ap has_ended (sym c.listed_in.ensures) ∙ sym c.has_ended.ensures ∙ c.if-not-has_ended.false in
    let next : suc n ≡ n + 1 = omega arith in
    c.loop-number.invariant ∙ over_step shown.containers n lt
    ∙ ap (λ (b : Bool). b && From shown.containers (suc n)) here ∙ ap (From shown.containers) next
