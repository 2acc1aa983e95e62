use Rattle.std.proofs.Common.{◌∷◌, List, length, ap, arith, sym, subst}
use Rattle.observations.specs.declared.tick.TickObs.{TickObs}
use Rattle.tick_round.specs.state.Node.{HasTakenSome}
use Rattle.tick_round.proofs.Rest.{none_taken, some_more, all_taken, all_gated}
use Rattle.tick_round.proofs.advance.advance_all.Goals as goal

pub loop-init : goal.loop-init
loop-init g c = record {
  some = subst
      (λ (xs : List TickObs).
      HasTakenSome (g.G.Gate.left c.args.gate.now) c.args.ticks.items c.args.node c.args.node xs)
      (sym c.into_iter-rest.ensures.rest)
      (none_taken (g.G.Gate.left c.args.gate.now) c.args.node c.args.ticks.items c.requires.fits);
  left = omega (arith, c.into_iter-rest.result.rest.ok, c.len-end.ensures);
}

pub loop-preserved : goal.loop-preserved
loop-preserved g c =
    let left = c.in-Some.tick ∷ c.next.new.self.rest.items in
    let rest = c.advance_some.new.more.rest.items in
    record {
      some = some_more (g.G.Gate.left c.args.gate.now) c.args.ticks.items left rest c.args.node c.loop.running
          c.in_ok-running.running
          (subst (λ (xs : List TickObs).
          HasTakenSome (g.G.Gate.left c.args.gate.now) c.args.ticks.items c.args.node c.loop.running xs)
          c.in-Some.ensures.items c.loop.invariant.some) c.in_ok-running.ensures.some;
      left = omega (arith, c.loop.invariant.left, ap length c.in-Some.ensures.items, c.in_ok-running.ensures.fewer);
    }

pub returns-clause-next : goal.returns-clause-next
returns-clause-next g c =
    all_taken (g.G.Gate.left c.args.gate.now) c.args.ticks.items c.loop.rest.rest.items c.args.node c.loop.running
    c.loop.invariant.some (omega (arith, c.loop.invariant.left, c.loop-test.false))

pub returns-clause-gated : goal.returns-clause-gated
returns-clause-gated g c =
    all_gated (g.G.Gate.left c.args.gate.now) c.args.ticks.items c.loop.rest.rest.items c.args.node c.loop.running
    c.loop.invariant.some (omega (arith, c.loop.invariant.left, c.loop-test.false))

pub returns-in_default-clause-next : goal.returns-in_default-clause-next
returns-in_default-clause-next g c =
    all_taken (g.G.Gate.left c.args.gate.now) c.args.ticks.items c.loop.rest.rest.items c.args.node c.loop.running
    c.loop.invariant.some (omega (arith, c.loop.rest.rest.ok, c.in_default.ensures.cases.0))

pub returns-in_default-clause-gated : goal.returns-in_default-clause-gated
returns-in_default-clause-gated g c =
    all_gated (g.G.Gate.left c.args.gate.now) c.args.ticks.items c.loop.rest.rest.items c.args.node c.loop.running
    c.loop.invariant.some (omega (arith, c.loop.rest.rest.ok, c.in_default.ensures.cases.0))
