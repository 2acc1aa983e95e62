use Rattle.histories.specs.rule.Histories.{recorded}
use Rattle.std.proofs.lemmas.Bool.{iff_false}
use Rattle.pod_state.proofs.EndLemmas as ends
use Rattle.pod_state.proofs.ViewLemmas.{raw_after}
use Rattle.pod_state.proofs.lifecycle.Lifecycle.next_phase.Goals as goal

pub returns-then-is_terminal : goal.returns-then-is_terminal
returns-then-is_terminal c = λ pod end h at entry are now is.
    ends.phase_ended pod end h (recorded at entry) c.args.self.now.phase is
    (c.is_terminal.ensures.0 c.if-is_terminal.true)

pub returns-then-ends : goal.returns-then-ends
returns-then-ends c = λ pod end h at entry are now is.
    ends.phase_by_node pod end h (recorded at entry) c.args.self.now.phase is
    (iff_false c.is_terminal.ensures c.if-is_terminal.false)
    ((now (iff_false c.is_terminal.ensures c.if-is_terminal.false)).0 c.if-ends.true)

pub returns-else-ends : goal.returns-else-ends
returns-else-ends c = λ pod end h at entry are now is.
    ends.phase_lives pod end h (recorded at entry) c.args.self.now.phase c.raw_phase_by.result is
    (iff_false c.is_terminal.ensures c.if-is_terminal.false)
    (iff_false (now (iff_false c.is_terminal.ensures c.if-is_terminal.false)) c.if-ends.false)
    (raw_after pod _ c.args.containers.now c.raw_phase_by.result
    (are (iff_false c.is_terminal.ensures c.if-is_terminal.false)) c.raw_phase_by.ensures)
