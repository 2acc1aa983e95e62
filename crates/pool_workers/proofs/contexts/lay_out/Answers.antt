use Rattle.std.proofs.Common.{◌≡◌, ◌≤◌, List, All, map, length, vec_len, vec_capacity, sym, ◌∙◌, subst, arith}
use Rattle.std.specs.List.{sum_by}
use Rattle.std.proofs.lemmas.List.Elements.{All-weaker}
use Rattle.crossbeam_deque.specs.Handles.{stealer_deque, worker_deque}
use Rattle.piece_deques.specs.state.Ends.{IsOpen, pushed_weight}
use Rattle.piece_deques.proofs.Lists.{ones, sum_map}
use Rattle.pool_workers.specs.state.Permits.{FilledDeque, owner_deque}
use Rattle.pool_workers.proofs.Dealing.{as_many, all_laid}
use Rattle.pool_workers.proofs.Laid.{to_laid}
use Rattle.pool_workers.specs.state.Slots.{IsHost, IsSlot, IsDealtSlot}
use Rattle.pool_workers.proofs.FilledDeques.{same_pushed}
use Rattle.pool_workers.proofs.contexts.lay_out.Goals as goal

pub permit_all-requires-clause-hosts : goal.permit_all-requires-clause-hosts
permit_all-requires-clause-hosts g c =
    let n = vec_len c.args.pieces in
    All-weaker (IsOpen n n) (IsHost 0)
    (λ w h. record { is_owner = h.is_owner; parts = (let alone = h.alone in omega arith); none = h.none })
    c.deal.new.owners.items c.deal.ensures.opened

pub permit_all-requires-clause-slots : goal.permit_all-requires-clause-slots
permit_all-requires-clause-slots g c =
    let buffers = c.args.buffers in
    let dealt = c.deal.new.owners.items in
    All-weaker (IsSlot (vec_len c.args.pieces) (map worker_deque buffers.owners.items))
    (λ slot. map stealer_deque slot.thieves.items ≡ map worker_deque dealt)
    (λ slot h. h.thieves ∙ sym c.deal.ensures.deques) buffers.slots.items c.requires.buffers.slots

pub make_contexts-requires-clause-dealt_slots : goal.make_contexts-requires-clause-dealt_slots
make_contexts-requires-clause-dealt_slots g c =
    let buffers = c.args.buffers in
    let n = vec_len c.args.pieces in
    let room = n in
    let owners = c.permit_all.new.owners.items in
    let dealt = c.deal.new.owners.items in
    let dealt_slots = c.permit_all.new.dealt_slots.items in
    let filled = map owner_deque owners in
    let slots =
    All-weaker (IsSlot room (map worker_deque buffers.owners.items)) (λ slot. room ≤ vec_capacity slot.done)
    (λ slot h. h.room_is) buffers.slots.items c.requires.buffers.slots in
    let granted = c.permit_all.ensures.dealt_slots room slots in
    let here =
    subst (λ (p : List FilledDeque). All (IsDealtSlot room p) dealt_slots) (sym c.permit_all.ensures.filled) granted in
    let a = same_pushed owners dealt c.permit_all.ensures.filled (λ _. 1) in
    let b = c.deal.ensures.pushed (λ _. 1) in
    let d = c.requires.buffers.none (λ _. 1) in
    let e = ones c.args.pieces.items in
    let many : sum_by (pushed_weight (λ _. 1)) owners ≡ n = omega (arith, c.args.pieces.ok.0) in
    All-weaker (IsDealtSlot room filled) (IsDealtSlot (sum_by (pushed_weight (λ _. 1)) owners) filled)
    (λ dealt_slot h. record { permits = h.permits; room_is = (let had = h.room_is in omega arith) }) dealt_slots here

pub returns-clause-laid : goal.returns-clause-laid
returns-clause-laid g c =
    let owners = c.permit_all.new.owners in
    let dealt = c.deal.new.owners.items in
    let contexts = c.make_contexts.new.contexts in
    let e = c.make_contexts.ensures in
    let kept = as_many worker_deque dealt c.args.buffers.owners.items c.deal.ensures.deques in
    let many : length c.args.buffers.owners.items ≡ vec_len owners =
    omega (arith, kept, c.permit_all.ensures.owners, c.deal.new.owners.ok.0) in
    to_laid c.args.pieces.items contexts.items (vec_len owners) (map owner_deque owners.items)
    (sym e.len ∙ contexts.ok.0) e.filled e.laid
    (all_laid owners.items dealt c.args.buffers.owners.items c.args.pieces.items (vec_len owners)
    c.permit_all.ensures.filled c.deal.ensures.dealt (c.requires.buffers.none (λ _. 1)) many)
    (λ weight. (
    let b = sum_map owner_deque (λ (p : FilledDeque). sum_by weight p.pushed) owners.items in
    let d = same_pushed owners.items dealt c.permit_all.ensures.filled weight in
    let p = c.deal.ensures.pushed weight in
    let f = c.requires.buffers.none weight in
    omega arith))
