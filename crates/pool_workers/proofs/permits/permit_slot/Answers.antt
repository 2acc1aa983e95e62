use Rattle.std.proofs.Common.{◌≡◌, ◌+◌, ◌<◌, map, length, set, take, drop, vec_len, sym, ap, ◌∙◌, subst, arith}
use Rattle.std.specs.List.{sum_by, AllWithin}
use Rattle.std.proofs.lemmas.List.Sorted.{sum_by-IsPermutation}
use Rattle.crossbeam_deque.specs.Handles.{view, IsPassOf, worker_deque, stealer_deque, worker_view}
use Rattle.piece_deques.proofs.Lists.{front, last, map_reverse, map_set, below_set, above_set, sum_grown}
use Rattle.worker_results.specs.declared.handle.StealHandle.{StealHandle}
use Rattle.pool_workers.specs.state.Permits.{owner_deque, permit_deque, IsInOrder}
use Rattle.pool_workers.proofs.Room.{filled_same}
use Rattle.pool_workers.specs.state.Slots.{IsHost, IsRich}
use Rattle.pool_workers.proofs.FilledDeques.{paired, granted}
use Rattle.pool_workers.proofs.permits.permit_slot.Goals as goal

pub invariant_of-push_reserved : goal.invariant_of-push_reserved
invariant_of-push_reserved g c =
    let l = c.loop-thief in
    let at = c.len-at.result in
    let old = c.index_mut.result.now in
    let s = c.new_permit-permit.ensures in
    let p = paired stealer_deque worker_deque l.owners.items old (vec_len l.thieves) at
    (omega (arith, c.in-Some.ensures.cases, c.len-at.ensures))
    (omega (arith, c.in-Some.ensures.cases, c.len-at.ensures, l.invariant.within, l.owners.ok.0))
    c.index_mut.ensures.value l.thieves.items c.pop.new.self.items c.in-Some.thief c.in-Some.ensures.items
    l.invariant.thieves in
    record {
      in_order = last IsInOrder l.thieves.items c.pop.new.self.items c.in-Some.thief c.in-Some.ensures.items
          l.invariant.in_order;
      fits = subst (λ d. IsPassOf d c.new_permit-permit.result) (sym p.1) s.fits;
      one = ap (λ v. v.parts) s.permit;
      few = (let n = ap (λ v. length v.taken) s.permit in omega arith);
    }

pub loop-thief-preserved : goal.loop-thief-preserved
loop-thief-preserved g c =
    let l = c.loop-thief in
    let i = l.invariant in
    let at = c.len-at.result in
    let n = vec_len l.thieves in
    let owners = l.owners.items in
    let old = c.index_mut.result.now in
    let new = c.new_permit-permit.new.owner in
    let permit = c.new_permit-permit.result in
    let s = c.new_permit-permit.ensures in
    let row = c.in-Some.ensures.items in
    let was = c.index_mut.ensures.value in
    let left = c.pop.new.self in
    let put = c.push_reserved.ensures in
    let next : n ≡ at + 1 = omega (arith, c.in-Some.ensures.cases, c.len-at.ensures) in
    let in' : at < length owners = omega (arith, i.within, l.owners.ok.0) in
    let p = paired stealer_deque worker_deque owners old n at next in' was l.thieves.items left.items c.in-Some.thief
    row i.thieves in
    let pushed : (worker_view new).pushed ≡ (worker_view old).pushed = ap (λ v. v.pushed) s.owner in
    let pushed' : (view permit).pushed ≡ (worker_view old).pushed = ap (λ v. v.pushed) s.permit in
    let same : owner_deque new ≡ owner_deque old =
    filled_same (worker_deque new) (worker_deque old) (worker_view new).pushed (worker_view old).pushed s.same.0
    pushed in
    let filled = map_set owner_deque owners at old new was same in
    let deques = map_set worker_deque owners at old new was s.same.0 in
    record {
      len = i.len;
      filled = filled ∙ i.filled;
      within = omega (arith, i.within, c.len-at.ensures);
      room = omega (arith, i.room, put.len, put.capacity, c.len-at.ensures);
      thieves = p.0
          ∙ (ap (take at) (sym deques) ∙ ap (λ k. take k (map worker_deque (set owners at new))) c.len-at.ensures);
      in_order = front IsInOrder l.thieves.items left.items c.in-Some.thief row i.in_order;
      permits =
          granted permit_deque owner_deque owners old n at next in' was l.handles.items c.push_reserved.new.self.items _
          put.items i.permits
          (filled_same (stealer_deque c.in-Some.thief) (worker_deque old) (view permit).pushed (worker_view old).pushed
          p.1 pushed')
          ∙ (ap (drop at) (sym filled) ∙ ap (λ k. drop k (map owner_deque (set owners at new))) c.len-at.ensures);
      fresh = λ h. (
          let a = sum_grown (λ (r : StealHandle g.row.D.Denot). sum_by h (view r.permit).taken) l.handles.items
          c.push_reserved.new.self.items _ put.items in
          let b : sum_by h (view permit).taken ≡ 0 = ap (λ v. sum_by h v.taken) s.permit in
          omega (arith, i.fresh h));
      rich = subst (AllWithin IsRich (set owners at new) 0) c.len-at.ensures
          (below_set IsRich owners at new (subst (AllWithin IsRich owners 0) next i.rich));
      hosts = λ m few first. (
          let q = i.hosts m few first in
          let low = subst (AllWithin (IsHost m) owners 0) next q.0 in
          let high = subst (λ k. AllWithin (IsHost (m + 1)) owners k (vec_len l.owners)) next q.1 in
          let o : IsHost m old = subst (IsHost m) (sym was) (low at old (omega arith) (omega arith)) in
          let parts = ap (λ v. v.parts) s.owner in
          let had = o.parts in
          let mine : IsHost (m + 1) new = record {
            is_owner = record { in_order = s.same.1 ∙ o.is_owner.in_order; some = omega (arith, few) };
            parts = omega (arith, few);
            none = ap (λ v. v.taken) s.owner ∙ o.none;
          } in (
            subst (AllWithin (IsHost m) (set owners at new) 0) c.len-at.ensures
                (below_set (IsHost m) owners at new low),
            subst (λ k. AllWithin (IsHost (m + 1)) (set owners at new) k (vec_len l.owners)) c.len-at.ensures
                (above_set (IsHost (m + 1)) owners at (vec_len l.owners) new in' mine high),
          ));
    }

pub invariant_of-result-clause-fresh : goal.invariant_of-result-clause-fresh
invariant_of-result-clause-fresh g c = λ h.
    sum_by-IsPermutation
    (λ (r : StealHandle g.row.D.Denot). sum_by h (view r.permit).taken) _ _ c.reverse.ensures.permutation
    ∙ c.loop-thief.invariant.fresh h

pub returns-clause-permits : goal.returns-clause-permits
returns-clause-permits g c =
    let l = c.loop-thief in
    let none : vec_len l.thieves ≡ 0 = c.in_default.ensures.cases.0 in
    ap (map permit_deque) c.reverse.ensures.items
    ∙ (map_reverse permit_deque l.handles.items
    ∙ (l.invariant.permits ∙ (ap (λ k. drop k (map owner_deque l.owners.items)) none ∙ l.invariant.filled)))
