use Rattle.std.proofs.Common.{◌∙◌, ◌-◌, Err, length, arith}
use Rattle.std.proofs.lemmas.Result.{err_from_is_err_and}
use Rattle.kubelet_replay.proofs.NodeLemmas.{none_arrived, arriving_more, all_arrived, as_many_arrived, none_left}
use Rattle.kubelet_replay.proofs.NodeLemmas.{has_room, for_memory}
use Rattle.kubelet_replay.proofs.replayed.arrive.Goals as goal

pub loop-init : goal.loop-init
loop-init g c = none_arrived c.args.arriving.now.rest.items c.args.node.now

pub loop-preserved : goal.loop-preserved
loop-preserved g c =
    arriving_more c.args.arriving.now.rest.items c.loop.counter c.args.node.now c.loop.node c.arrive.new.self
    c.loop.arriving.rest.items c.in-Some.pod c.next.new.self.rest.items
    c.loop.invariant c.in-Some.ensures.items c.in_ok-arrive.ensures.arrived

pub returns-in_default-clause-arrived : goal.returns-in_default-clause-arrived
returns-in_default-clause-arrived g c =
    let all = c.args.arriving.now.rest in
    let rest = c.next.new.self.rest in
    let none = none_left c.next.result _ _ _ rest.items c.next.ensures.cases (omega (arith, rest.ok)) c.in_default.is in
    all_arrived all.items c.loop.counter (length all.items - c.args.left) c.args.node.now c.loop.node
    c.loop.arriving.rest.items rest.items c.loop.invariant (c.in_default.ensures.items ∙ none) none
    (omega (arith, all.ok, c.len.ensures, c.saturating_sub-count.ensures, c.loop.auto.counter-end))

pub returns-clause-arrived : goal.returns-clause-arrived
returns-clause-arrived g c =
    let all = c.args.arriving.now.rest in
    as_many_arrived all.items c.loop.counter (length all.items - c.args.left) c.args.node.now c.loop.node
    c.loop.arriving.rest.items c.loop.invariant
    (omega (arith, all.ok, c.len.ensures, c.saturating_sub-count.ensures, c.loop.auto.counter-end))
    (omega (arith, all.ok, c.len.ensures, c.saturating_sub-count.ensures, c.loop-test.false))

pub arrive-requires : goal.arrive-requires
arrive-requires g c =
    let all = c.args.arriving.now.rest in
    has_room all.items c.loop.counter (length all.items - c.args.left) c.args.node.now c.loop.node
    c.loop.arriving.rest.items c.requires c.loop.invariant
    (omega (arith, all.ok, c.len.ensures, c.saturating_sub-count.ensures, c.loop-test.true))

pub returns-in_err-arrive-clause-err : goal.returns-in_err-arrive-clause-err
returns-in_err-arrive-clause-err g c =
    let may = c.requires in
    let p = err_from_is_err_and c.from_residual.result c.from_residual.ensures.1 in
    rw (p.1, p.2)
    (for_memory may.config _ may.taken c.loop.node (Err c.in_err-arrive.field-0.0)
    (c.loop.invariant.arrived may.config may.arrived may.taken may.after) c.in_err-arrive.ensures.halted)
