use Rattle.histories.specs.rule.Histories.{recorded}
use Rattle.std.proofs.Common.{◌++◌, ◌∷◌, []}
use Rattle.pod_state.specs.rule.Pods.{IsPhase}
use Rattle.pod_state.proofs.LifecycleLemmas as lemmas
use Rattle.pod_state.proofs.lifecycle.Lifecycle.advance.Goals as goal

pub returns : goal.returns
returns c = λ pod end h entry are ready gates now is.
    let phase : IsPhase pod end (h ++ recorded c.args.at entry ∷ []) c.next_phase-phase.result =
    c.next_phase-phase.ensures pod end h c.args.at entry are now is.so_far.phase in
    let containers =
    lemmas.ready_more pod end h (recorded c.args.at entry) c.args.ready c.args.self.now.phase c.next_phase-phase.result
    c.are_ready-containers_ready.result ready is.so_far.phase phase c.are_ready-containers_ready.ensures in
    lemmas.progress_more pod end h (recorded c.args.at entry) c.args.self.now c.next_phase-phase.result
    c.advance.new.self _ is phase
    (lemmas.initialized_more pod end h (recorded c.args.at entry) c.args.self.now c.args.containers.now
    c.next_phase-phase.result c.next_initialized.result are is.so_far phase
    c.next_initialized.ensures.ended c.next_initialized.ensures.lives)
    containers
    (lemmas.both_more pod end h (recorded c.args.at entry) c.args.gates c.args.self.now.phase c.next_phase-phase.result
    c.are_ready-containers_ready.result c.are_both.result gates is.so_far.phase phase containers c.are_both.ensures)
    c.advance.ensures
