use Rattle.std.proofs.Common.{sym, subst}
use Rattle.phase.specs.rule.RawPhase.{IsTerminal}
use Rattle.pod_state.specs.declared.lifecycle.Lifecycle.{Lifecycle}
use Rattle.pod_state.proofs.EndLemmas.{ended_is}
use Rattle.pod_piece.proofs.listings.may_come.Goals as goal

pub accepts-requires : goal.accepts-requires
accepts-requires c = λ term.
    let ended = subst (λ (l : Lifecycle). IsTerminal l.phase) (sym c.lifecycle.ensures) term in
    let w = c.has_ended.ensures.terminal.1 ended in absurd (cc)

pub returns-then-has_ended : goal.returns-then-has_ended
returns-then-has_ended c = λ pod max_restart_delay evicted h is listed.
    let term = subst (λ (l : Lifecycle). IsTerminal l.phase) c.lifecycle.ensures
    (c.has_ended.ensures.terminal.0 c.if-has_ended.true) in
    c.are_acceptable.ensures pod h
    (listed.ended ((ended_is pod evicted h c.args.state.now.lifecycle.phase is.progress.so_far.phase).0 term))

pub returns-else-has_ended : goal.returns-else-has_ended
returns-else-has_ended c = λ pod max_restart_delay evicted h is listed.
    c.accepts.ensures pod max_restart_delay evicted h is
