use Rattle.std.proofs.Common.{rules, ◌≡◌, ◌∙◌, ◌++◌, length, Option, refl, ap, sym, arith, append-nil}
use Rattle.std.specs.Prelude.{slice_get}
use Rattle.std.specs.Option.{option_flatten}
use Rattle.std.proofs.lemmas.Option.{slice_get_past}
use Rattle.histories.proofs.Lists.{rest_more}
use Rattle.histories.proofs.Places.{length-more}
use Rattle.observations.specs.rule.Pods.{PodObs}
use Rattle.node_pods.specs.state.Pods.{handed_one, handed_each}
use Rattle.node_pods.proofs.Steps.{none_changed, one_changed, all_changed, with_shown_length, with_shown_at}
use Rattle.node_pods.proofs.Steps.{shown_next, may_take_next, nothing_left, behind, length_front}
use Rattle.node_pods.proofs.each.hand_all.Goals as goal

pub loop-observed-init : goal.loop-observed-init
loop-observed-init c = record {
  place = refl;
  rest = search rules;
  changed = none_changed (λ n p. handed_one p (option_flatten (slice_get c.args.shown.items n)))
      c.args.pieces.now.items;
}

pub loop-observed-preserved : goal.loop-observed-preserved
loop-observed-preserved c =
    let all = c.args.shown.items in
    let front = c.loop-observed.yielded in
    let i = c.loop-observed.number in
    let next = behind all front c.loop-observed.observed-iterator.rest.items c.in-Some.observed
    c.next.new.self.rest.items c.loop-observed.invariant.rest c.in-Some.ensures.steps.0 in
    record {
      place = omega (arith, c.loop-observed.invariant.place, length-more front c.in-Some.observed);
      rest = rest_more all front c.in-Some.observed c.next.new.self.rest.items next;
      changed = one_changed (λ n p. handed_one p (option_flatten (slice_get all n)))
          (λ p. handed_one p c.in-Some.observed) i c.args.pieces.now.items
          c.loop-observed.pieces.items c.hand_at.new.pieces.items
          (λ p. ap (λ (o : Option (Option PodObs)). handed_one p (option_flatten o))
          (sym (shown_next all front c.in-Some.observed c.next.new.self.rest.items i next
          c.loop-observed.invariant.place)))
          c.loop-observed.invariant.changed c.in_ok-hand_at.ensures.ok;
    }

pub hand_at-requires-clause-within : goal.hand_at-requires-clause-within
hand_at-requires-clause-within c =
    let all = c.args.shown.items in
    let front = c.loop-observed.yielded in
    let next = behind all front c.loop-observed.observed-iterator.rest.items c.in-Some.observed
    c.next.new.self.rest.items c.loop-observed.invariant.rest c.in-Some.ensures.steps.0 in
    let place = c.loop-observed.invariant.place in
    let long = length_front all front c.in-Some.observed c.next.new.self.rest.items next in
    omega (arith, place, long, c.requires.within, c.loop-observed.invariant.changed.as_many)

pub hand_at-requires-clause-next : goal.hand_at-requires-clause-next
hand_at-requires-clause-next c =
    let all = c.args.shown.items in
    let front = c.loop-observed.yielded in
    let next = behind all front c.loop-observed.observed-iterator.rest.items c.in-Some.observed
    c.next.new.self.rest.items c.loop-observed.invariant.rest c.in-Some.ensures.steps.0 in
    may_take_next c.args.pieces.now.items c.loop-observed.pieces.items all c.loop-observed.number c.in-Some.observed
    (λ n p. handed_one p (option_flatten (slice_get all n))) c.requires c.loop-observed.invariant.changed
    (shown_next all front c.in-Some.observed c.next.new.self.rest.items c.loop-observed.number next
    c.loop-observed.invariant.place)

pub returns-clause-ok : goal.returns-clause-ok
returns-clause-ok c =
    let all = c.args.shown.items in
    let old = c.args.pieces.now.items in
    let i = c.loop-observed.number in
    let left = c.loop-observed.observed-iterator.rest in
    let none = nothing_left left.items (omega (arith, left.ok, c.in-None.ensures.steps.0)) in
    let whole : all ≡ c.loop-observed.yielded = c.loop-observed.invariant.rest
    ∙ ap (λ os. c.loop-observed.yielded ++ os) none ∙ append-nil c.loop-observed.yielded in
    all_changed (λ n p. handed_one p (option_flatten (slice_get all n))) i old c.loop-observed.pieces.items
    (handed_each old all) c.loop-observed.invariant.changed (with_shown_length handed_one old all)
    (λ n p at. with_shown_at handed_one (λ q. refl) old all n p at)
    (λ n p le at. ap (λ (o : Option (Option PodObs)). handed_one p (option_flatten o))
    (slice_get_past all n (omega (arith, le, c.loop-observed.invariant.place, ap length whole))))
