use Rattle.std.proofs.Common.{◌++◌, ◌∷◌, [], Some}
use Rattle.pod_state.proofs.PodEventLemmas.{place_more}
use Rattle.pod_state.proofs.events.add_events.Goals as goal

pub returns : goal.returns
returns c =
    let k = Some c.args.number in
    let made = c.args.made.now in
    let old = c.args.events.now.items in
    let one = made.gone ∷ [] in
    let two = one ++ made.started ∷ [] in
    let three = two ++ made.died ∷ [] in
    let four = three ++ made.passed ∷ [] in
    let five = four ++ made.kill ∷ [] in
    let six = five ++ made.readiness ∷ [] in
    let seven = six ++ made.backoff ∷ [] in
    place_more k seven made.restart old _ _
    (place_more k six made.backoff old _ _
    (place_more k five made.readiness old _ _
    (place_more k four made.kill old _ _
    (place_more k three made.passed old _ _
    (place_more k two made.died old _ _
    (place_more k one made.started old _ _ c.in_ok-add_event.ensures c.in_ok-add_event-2.ensures)
    c.in_ok-add_event-3.ensures) c.in_ok-add_event-4.ensures) c.in_ok-add_event-5.ensures)
    c.in_ok-add_event-6.ensures) c.in_ok-add_event-7.ensures) c.in_ok-add_event-8.ensures
