use Rattle.std.proofs.Common.{◌≡◌, ap, sym, subst}
use Rattle.following.specs.state.Followed.{ComesNext}
use Rattle.roster.specs.rule.Roll.{Roll}
use Rattle.trace.specs.rule.Observed.{observed}
use Rattle.trace.specs.rule.TraceSoFar.{TraceSoFar}
use Rattle.trace.specs.state.Pod.{container_counts}
use Rattle.trace.proofs.Shown.{comes_next}
use Rattle.trace.proofs.tick.observed_in.Goals as goal

pub forwards-requires : goal.forwards-requires
forwards-requires c =
    let past = c.args.so_far.now in
    let same : c.so_far.inside.roster ≡ past.roll = ap (λ (p : TraceSoFar). p.roll) c.so_far.view_is in
    let comes = subst (λ (r : Roll). ComesNext past.ticks (container_counts past.roll.pods)
    (observed c.heeds_words.result c.args.at c.args.written.now c.args.placed.now r)) (sym same)
    (comes_next c.heeds_words.result past.ticks c.args.at c.args.written.now c.args.placed.now past.roll
    c.requires.later) in
    subst (ComesNext past.ticks (container_counts past.roll.pods)) (sym c.in_ok-tick.ensures) comes

pub returns-clause-follows : goal.returns-clause-follows
returns-clause-follows c =
    let past = c.args.so_far.now in
    let same : c.so_far.inside.roster ≡ past.roll = ap (λ (p : TraceSoFar). p.roll) c.so_far.view_is in
    let comes = subst (λ (r : Roll). ComesNext past.ticks (container_counts past.roll.pods)
    (observed c.heeds_words.result c.args.at c.args.written.now c.args.placed.now r)) (sym same)
    (comes_next c.heeds_words.result past.ticks c.args.at c.args.written.now c.args.placed.now past.roll
    c.requires.later) in
    record {
      comes_next = subst (ComesNext past.ticks (container_counts past.roll.pods)) (sym c.in_ok-tick.ensures) comes;
      forwards = c.in_ok-forwards.ensures.on;
    }
