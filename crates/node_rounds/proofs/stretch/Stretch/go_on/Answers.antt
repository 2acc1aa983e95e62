use Rattle.std.proofs.Common.{List, subst}
use Rattle.observations.specs.declared.tick.TickObs.{TickObs}
use Rattle.node_rounds.specs.state.Stretch.{MayGoOn, GoesOnWith}
use Rattle.node_rounds.proofs.Opens.{may_more, goes_more, may_hand_more, refused_in}
use Rattle.node_rounds.proofs.stretch.Stretch.go_on.Goals as goal

pub take_tick-requires : goal.take_tick-requires
take_tick-requires c =
    may_hand_more c.loop.self c.evict_nobody.new.self c.in-Some.tick c.next.new.self.rest.items
    (subst (λ (xs : List TickObs). MayGoOn c.loop.self xs) c.in-Some.ensures.items c.loop.invariant.may)
    c.in_ok-evict_nobody.ensures

pub loop-preserved : goal.loop-preserved
loop-preserved c =
    let a = c.loop.self in
    let y = c.in-Some.tick in
    let rest = c.next.new.self.rest.items in
    let all = c.args.more.now.rest.items in
    let none = (c.has_room.ensures.0 c.if-not-has_room.false).calm in
    record {
      may = may_more a c.evict_nobody.new.self c.take_tick.new.self y rest
          (subst (λ (xs : List TickObs). MayGoOn a xs) c.in-Some.ensures.items c.loop.invariant.may) none
          c.in_ok-evict_nobody.ensures c.in_ok-take_tick.ensures;
      goes = λ s calm tick is. goes_more s calm tick all a c.evict_nobody.new.self c.take_tick.new.self y rest
          (subst (λ (xs : List TickObs). GoesOnWith s calm tick all a xs) c.in-Some.ensures.items
          (c.loop.invariant.goes s calm tick is)) none c.in_ok-evict_nobody.ensures c.in_ok-take_tick.ensures;
    }

pub returns-in_err-evict_nobody-clause-refused : goal.returns-in_err-evict_nobody-clause-refused
returns-in_err-evict_nobody-clause-refused c = λ s calm tick is.
    let all = c.args.more.now.rest.items in
    let goes = subst (λ (xs : List TickObs). GoesOnWith s calm tick all c.loop.self xs) c.in-Some.ensures.items
    (c.loop.invariant.goes s calm tick is) in
    refused_in _ s calm tick all c.loop.self c.in-Some.tick c.next.new.self.rest.items goes
    (c.has_room.ensures.0 c.if-not-has_room.false)

pub returns-in_err-take_tick-clause-refused : goal.returns-in_err-take_tick-clause-refused
returns-in_err-take_tick-clause-refused c = λ s calm tick is.
    let all = c.args.more.now.rest.items in
    let goes = subst (λ (xs : List TickObs). GoesOnWith s calm tick all c.loop.self xs) c.in-Some.ensures.items
    (c.loop.invariant.goes s calm tick is) in
    refused_in _ s calm tick all c.loop.self c.in-Some.tick c.next.new.self.rest.items goes
    (c.has_room.ensures.0 c.if-not-has_room.false)
