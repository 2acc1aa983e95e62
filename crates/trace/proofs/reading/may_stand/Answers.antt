use Rattle.std.proofs.Common.{◌∙◌, sym, subst}
use Rattle.following.specs.state.Followed.{EndBefore}
use Rattle.trace.specs.rule.TraceSoFar.{heeds}
use Rattle.trace.proofs.TakenAhead.{ahead_comes_next, moment_is, unless_refused}
use Rattle.trace.proofs.reading.may_stand.Goals as goal

pub is_backwards-requires : goal.is_backwards-requires
is_backwards-requires c =
    let past = c.args.so_far.now in
    let same = moment_is past.ticks c.args.tick.now.at _ c.in_ok-moment_in.ensures.gives in
    ahead_comes_next (heeds past) past.ticks past.roll c.args.tick.now c.requires
    (subst (EndBefore past.ticks) (sym same) c.in_ok-moment_in.ensures.later)

pub returns-clause-follows : goal.returns-clause-follows
returns-clause-follows c =
    let past = c.args.so_far.now in
    let same = moment_is past.ticks c.args.tick.now.at _ c.in_ok-moment_in.ensures.gives in
    unless_refused _ c.is_backwards.result _ c.refused_if.result c.refused_if.ensures (λ forwards. record {
      comes_next = ahead_comes_next (heeds past) past.ticks past.roll c.args.tick.now c.requires
          (subst (EndBefore past.ticks) (sym same) c.in_ok-moment_in.ensures.later);
      forwards = sym c.is_backwards.ensures ∙ forwards;
    })
