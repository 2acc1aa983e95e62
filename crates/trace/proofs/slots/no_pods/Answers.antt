use Rattle.std.proofs.Common.{◌≡◌, ◌∙◌, ℕ, None, ap, arith, length, replicate}
use Rattle.trace.proofs.NotedPods.{none_shown}
use Rattle.trace.proofs.slots.no_pods.Goals as goal

pub returns : goal.returns
returns c = λ at ps many.
    let all : c.loop.counter ≡ length ps = omega (arith, many, c.loop-test.false, c.loop.auto.counter-end) in
    c.loop.invariant ∙ ap (λ (k : ℕ). replicate k None) all ∙ none_shown at 0 ps
