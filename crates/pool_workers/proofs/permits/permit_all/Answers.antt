use Rattle.std.proofs.Common.{◌≡◌, ◌≤◌, All, map, vec_len, vec_capacity, sym, ◌∙◌, subst, arith}
use Rattle.std.proofs.lemmas.List.Elements.{All-weaker}
use Rattle.crossbeam_deque.specs.Handles.{worker_deque, stealer_deque}
use Rattle.piece_deques.proofs.Lists.{front, last, grown}
use Rattle.pool_workers.specs.state.Permits.{owner_deque}
use Rattle.pool_workers.specs.state.Slots.{IsHost, IsDealtSlot}
use Rattle.pool_workers.proofs.FilledDeques.{same_deques}
use Rattle.pool_workers.proofs.permits.permit_all.Goals as goal

pub loop-slot-preserved : goal.loop-slot-preserved
loop-slot-preserved g c =
    let l = c.loop-slot in
    let i = l.invariant in
    let slot = c.in-Some.slot in
    let left = c.pop.new.self in
    let pop = c.in-Some.ensures.items in
    let e = c.permit_slot-dealt_slot.ensures in
    let owners = c.permit_slot-dealt_slot.new.owners in
    let new = c.push_reserved.new.self in
    let put = c.push_reserved.ensures in
    let deques = same_deques owners.items l.owners.items e.filled in
    record {
      owners = e.len ∙ i.owners;
      filled = e.filled ∙ i.filled;
      hosts = subst (λ n. All (IsHost n) owners.items) (sym put.len)
          (e.hosts (vec_len l.dealt_slots) (omega (arith, i.len, i.few, c.in-Some.ensures.cases)) i.hosts);
      len = omega (arith, i.len, put.len, c.in-Some.ensures.cases);
      few = i.few;
      room = omega (arith, i.room, put.len, put.capacity, c.in-Some.ensures.cases);
      slots =
          All-weaker (λ slot. map stealer_deque slot.thieves.items ≡ map worker_deque l.owners.items)
          (λ slot. map stealer_deque slot.thieves.items ≡ map worker_deque owners.items)
          (λ slot same. same ∙ sym deques) left.items
          (front (λ slot. map stealer_deque slot.thieves.items ≡ map worker_deque l.owners.items) l.slots.items
          left.items slot pop i.slots);
      dealt_slots = λ room first. (
          let q = i.dealt_slots room first in
          let mine = last (λ slot. room ≤ vec_capacity slot.done) l.slots.items left.items slot pop q.1 in (
            grown (IsDealtSlot room (map owner_deque owners.items)) l.dealt_slots.items new.items
                c.permit_slot-dealt_slot.result put.items
                (subst (λ filled. All (IsDealtSlot room filled) l.dealt_slots.items) (sym e.filled) q.0)
                (record { permits = e.permits ∙ sym e.filled; room_is = omega (arith, mine, e.room) }),
            front (λ slot. room ≤ vec_capacity slot.done) l.slots.items left.items slot pop q.1,
          ));
    }
