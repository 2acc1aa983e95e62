use Rattle.std.proofs.Common.{◌≡◌, ◌+◌, ◌<◌, ◌∷◌, [], ◌++◌, map, take, get_or, sym, ap, subst, ◌∙◌, arith, length}
use Rattle.std.proofs.Common.{vec_len}
use Rattle.crossbeam_deque.specs.Handles.{worker_deque, stealer_deque}
use Rattle.histories.proofs.Lists.{map_more}
use Rattle.piece_deques.proofs.Lists.{grown, take_map_more}
use Rattle.piece_deques.specs.state.Ends.{IsOwner}
use Rattle.pool_workers.specs.state.Permits.{IsInOrder}
use Rattle.pool_workers.proofs.buffers.stealers.Goals as goal

pub stealers-preserved : goal.stealers-preserved
stealers-preserved g c =
    let l = c.stealers in
    let owners = c.args.owners.now in
    let n = vec_len l.thieves in
    let put = c.push_reserved.ensures in
    let thief = c.in_ok-thief.thief in
    let in' : n < length owners.items = omega (arith, owners.ok.0) in
    let more = take_map_more worker_deque owners.items n c.index.result.now in' (search arith) in
    let at : c.index.result.now ≡ get_or owners.items n c.index.result.now = search arith in
    let owns = subst IsOwner (sym at) (c.requires n c.index.result.now in') in
    let next : n + 1 ≡ vec_len c.push_reserved.new.self = omega (arith, put.len) in
    record {
      room = omega (arith, l.invariant.room, put.capacity);
      within = omega (arith, put.len);
      in_order = grown IsInOrder l.thieves.items c.push_reserved.new.self.items thief put.items l.invariant.in_order
          (c.in_ok-thief.ensures.1 ∙ owns.in_order);
      same =
          ap (map stealer_deque) put.items
          ∙ (map_more stealer_deque l.thieves.items thief
          ∙ (ap (λ l. l ++ stealer_deque thief ∷ []) l.invariant.same
          ∙ (ap (λ d. take n (map worker_deque owners.items) ++ d ∷ []) c.in_ok-thief.ensures.0
          ∙ (sym more ∙ ap (λ k. take k (map worker_deque owners.items)) next))));
    }
