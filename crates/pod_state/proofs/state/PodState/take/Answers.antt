use Rattle.std.proofs.Common.{◌≡◌, ◌∙◌, ◌++◌, ◌∷◌, [], ℕ, List, length, false, refl, sym, subst, arith}
use Rattle.std.proofs.lemmas.Bool.{iff_false}
use Rattle.phase.specs.declared.restart_view.RestartView.{RestartView}
use Rattle.containers.specs.declared.container.Container.{Container}
use Rattle.containers.specs.declared.events.ContainerEvents.{ContainerEvents}
use Rattle.pod_state.specs.rule.Pods.{pod_tick}
use Rattle.pod_state.specs.state.Pods.{AreViewsOf}
use Rattle.pod_state.specs.state.Lifecycles.{IsNext}
use Rattle.pod_state.specs.rule.Events.{AreMade}
use Rattle.pod_state.specs.state.Containers.{AreContainersOf}
use Rattle.pod_state.specs.state.States.{AllAccept}
use Rattle.pod_state.proofs.FewLemmas.{one_next, one_made, one_view, two_next, two_made, two_views}
use Rattle.pod_state.proofs.StateLemmas.{after_end, events_ended}
use Rattle.pod_state.proofs.state.PodState.take.Goals as goal

pub returns-then-has_ended-clause-ok : goal.returns-then-has_ended-clause-ok
returns-then-has_ended-clause-ok c = λ max_restart_delay evicted h stays st.
    let pod = c.args.pod.now in
    let ended = c.has_ended.ensures.terminal.0 c.if-has_ended.true in
    let x = pod_tick c.args.observed.now in
    after_end pod max_restart_delay evicted h x c.args.self.now _ st ended refl
    c.deleting_with-self.ensures (c.next-self.ensures (length pod.gates) h)
    (subst (λ (m : ℕ). IsNext m [] false false false c.args.self.now.lifecycle c.advance.new.self)
    c.at.ensures c.advance.ensures pod evicted h x.entry (λ lives. absurd (lives ended))
    (λ lives. absurd (lives ended)) (λ lives. absurd (lives ended)) (λ lives. absurd (lives ended)) st.progress)

pub returns-then-has_ended-clause-events : goal.returns-then-has_ended-clause-events
returns-then-has_ended-clause-events c = λ max_restart_delay evicted h stays st.
    events_ended c.args.pod.now max_restart_delay evicted h (pod_tick c.args.observed.now) c.args.self.now _ st
    (c.has_ended.ensures.terminal.0 c.if-has_ended.true) c.new.ensures.items

-- of one container
one_long : (c : goal.After-views-1) → length c.args.self.now.containers.items ≡ 1
one_long c = omega (arith, c.len.ensures, c.if-len-eq1.true, c.args.self.now.containers.ok.0)

pub settle-requires-clause-containers : goal.settle-requires-clause-containers
settle-requires-clause-containers c = λ pod max_restart_delay h before.
    one_next pod max_restart_delay h (pod_tick c.args.observed.now) c.args.self.now.containers.items c.index.result.now
    c.step.new.container (one_long c) c.index.ensures (c.step.ensures.state pod max_restart_delay h) before

pub settle-requires-clause-made : goal.settle-requires-clause-made
settle-requires-clause-made c = λ max_restart_delay h before.
    one_made c.args.pod.now max_restart_delay h (pod_tick c.args.observed.now) c.args.self.now.containers.items
    c.index.result.now
    c.step.result (one_long c) c.index.ensures (c.step.ensures.made max_restart_delay h) before

pub settle-requires-clause-views : goal.settle-requires-clause-views
settle-requires-clause-views c = λ max_restart_delay h are.
    one_view c.args.pod.now max_restart_delay h c.step.new.container c.view_of.result
    (c.view_of.ensures max_restart_delay h) are

-- of two
two_long : (c : goal.After-views-then-len-eq2-1) → length c.args.self.now.containers.items ≡ 2
two_long c = omega (arith, c.len-2.ensures, c.if-len-eq2.true, c.args.self.now.containers.ok.0)

pub settle-requires-then-len-eq2-clause-containers : goal.settle-requires-then-len-eq2-clause-containers
settle-requires-then-len-eq2-clause-containers c = λ pod max_restart_delay h before.
    two_next pod max_restart_delay h (pod_tick c.args.observed.now) c.args.self.now.containers.items
    c.index-then-len-eq2.result.now c.index-then-len-eq2-2.result.now c.step-then-len-eq2.new.container
    c.step-then-len-eq2-2.new.container (two_long c) c.index-then-len-eq2.ensures c.index-then-len-eq2-2.ensures
    (c.step-then-len-eq2.ensures.state pod max_restart_delay h)
    (c.step-then-len-eq2-2.ensures.state pod max_restart_delay h) before

pub settle-requires-then-len-eq2-clause-made : goal.settle-requires-then-len-eq2-clause-made
settle-requires-then-len-eq2-clause-made c = λ max_restart_delay h before.
    two_made c.args.pod.now max_restart_delay h (pod_tick c.args.observed.now) c.args.self.now.containers.items
    c.index-then-len-eq2.result.now c.index-then-len-eq2-2.result.now c.step-then-len-eq2.result
    c.step-then-len-eq2-2.result (two_long c) c.index-then-len-eq2.ensures c.index-then-len-eq2-2.ensures
    (c.step-then-len-eq2.ensures.made max_restart_delay h) (c.step-then-len-eq2-2.ensures.made max_restart_delay h)
    before

pub settle-requires-then-len-eq2-clause-views : goal.settle-requires-then-len-eq2-clause-views
settle-requires-then-len-eq2-clause-views c = λ max_restart_delay h are.
    two_views c.args.pod.now max_restart_delay h c.step-then-len-eq2.new.container c.step-then-len-eq2-2.new.container
    c.view_of-then-len-eq2.result c.view_of-then-len-eq2-2.result (c.view_of-then-len-eq2.ensures max_restart_delay h)
    (c.view_of-then-len-eq2-2.ensures max_restart_delay h) are

-- of more
pub next_containers-requires-clause-accepted : goal.next_containers-requires-clause-accepted
next_containers-requires-clause-accepted c =
    let lives = iff_false c.has_ended.ensures.terminal c.if-has_ended.false in
    subst (λ (cs : List Container). AllAccept cs c.args.observed.now.containers) (sym c.deref.ensures.value)
    (c.requires.follows.accepted lives)

pub settle-requires-2-clause-containers : goal.settle-requires-2-clause-containers
settle-requires-2-clause-containers c = λ pod max_restart_delay h before.
    subst (λ (cs : List Container). AreContainersOf pod max_restart_delay (h ++ pod_tick c.args.observed.now ∷ []) cs)
    (sym c.deref-3.ensures.value)
    (c.in_ok-all.ensures.containers pod max_restart_delay h
    (subst (λ (cs : List Container). AreContainersOf pod max_restart_delay h cs) (sym c.deref.ensures.value) before))

pub settle-requires-2-clause-made : goal.settle-requires-2-clause-made
settle-requires-2-clause-made c = λ max_restart_delay h before.
    let pod = c.args.pod.now in
    subst (λ (ms : List ContainerEvents). AreMade pod max_restart_delay h (pod_tick c.args.observed.now) ms)
    (sym c.deref-4.ensures.value)
    (c.in_ok-all.ensures.made max_restart_delay h
    (subst (λ (cs : List Container). AreContainersOf pod max_restart_delay h cs) (sym c.deref.ensures.value) before))

pub settle-requires-2-clause-views : goal.settle-requires-2-clause-views
settle-requires-2-clause-views c = λ max_restart_delay h are.
    let pod = c.args.pod.now in
    subst (λ (vs : List RestartView). AreViewsOf pod h vs) (sym c.deref-5.ensures.value)
    (c.in_ok-views.ensures max_restart_delay h
    (subst (λ (cs : List Container). AreContainersOf pod max_restart_delay h cs) (c.deref-3.ensures.value
    ∙ sym c.deref-2.ensures.value)
    are))
