use Rattle.std.proofs.Common.{◌≡◌, ◌+◌, List, map, length, vec_len, refl, sym, subst, ap, ◌∙◌, arith}
use Rattle.std.specs.List.{sum_by}
use Rattle.std.proofs.lemmas.List.{length-map}
use Rattle.std.proofs.lemmas.List.Sorted.{All-permutation}
use mathlib.Core.Option.{some}
use lib.ListN.{get_elem?}
use Rattle.piece_deques.specs.state.Ends.{pushed_weight}
use Rattle.piece_deques.proofs.Lists.{front, last, grown, moved, none_all, to_move}
use Rattle.pool_workers.specs.state.Permits.{FilledDeque, owner_deque}
use Rattle.pool_workers.specs.state.Contexts.{Tag, context_deque, context_tag, IsLaid}
use Rattle.pool_workers.specs.state.Slots.{IsHost, IsDealtSlot}
use Rattle.pool_workers.proofs.FilledDeques.{next_slot, row_pushed, owners_pushed, stands_next}
use Rattle.pool_workers.proofs.contexts.make_contexts.Goals as goal

pub loop-owner-init : goal.loop-owner-init
loop-owner-init g c =
    let owners = c.args.owners in
    let n = vec_len owners in
    let filled = map owner_deque owners.items in
    let rev = c.reverse.new.self in
    let contexts = c.args.contexts.now in
    let r = c.requires in
    let e : length contexts.items ≡ 0 = ap (λ l. length l) r.none in
    record {
      hosts = All-permutation (IsHost n) owners.items rev.items c.reverse.ensures.permutation r.hosts;
      dealt_slots = r.dealt_slots;
      len = omega (arith, r.len, c.reverse.ensures.len);
      all = omega (arith, contexts.ok.0, c.reverse.ensures.len);
      room = r.room;
      order = to_move context_deque owner_deque owners.items rev.items contexts.items r.none c.reverse.ensures.items;
      laid = none_all (λ b. IsLaid n filled (context_tag b)) contexts.items r.none;
      some = omega (arith, r.share, c.reverse.ensures.len);
      parts = omega (arith, contexts.ok.0);
      totals = refl;
    }

pub make_context-context-requires-clause-owner : goal.make_context-context-requires-clause-owner
make_context-context-requires-clause-owner g c =
    let mine = last (IsHost (vec_len c.args.owners)) c.loop-owner.left.items c.pop.new.self.items c.in-Some.owner
    c.in-Some.ensures.items c.loop-owner.invariant.hosts in
    mine.is_owner

pub make_context-context-requires-clause-none : goal.make_context-context-requires-clause-none
make_context-context-requires-clause-none g c =
    let mine = last (IsHost (vec_len c.args.owners)) c.loop-owner.left.items c.pop.new.self.items c.in-Some.owner
    c.in-Some.ensures.items c.loop-owner.invariant.hosts in
    mine.none

pub make_context-context-requires-clause-own : goal.make_context-context-requires-clause-own
make_context-context-requires-clause-own g c =
    let owners = c.args.owners in
    let filled = map owner_deque owners.items in
    let l = c.loop-owner in
    let permits = next_slot owners.items l.dealt_slots.items c.pop-in-Some.new.self.items c.in-Some-pop.dealt_slot
    c.in-Some-pop.ensures.items l.invariant.dealt_slots in
    let many : length (map context_deque l.contexts.items) ≡ c.len-own.result =
    length-map l.contexts.items context_deque ∙ (sym l.contexts.ok.0 ∙ sym c.len-own.ensures) in
    subst (λ (p : List FilledDeque). get_elem? p c.len-own.result ≡ some (owner_deque c.in-Some.owner))
    (sym permits.permits)
    (stands_next context_deque owner_deque l.contexts.items l.left.items c.pop.new.self.items c.in-Some.owner filled
    c.len-own.result c.in-Some.ensures.items l.invariant.order many)

pub make_context-context-requires-clause-room : goal.make_context-context-requires-clause-room
make_context-context-requires-clause-room g c =
    let owners = c.args.owners.items in
    let slot = c.in-Some-pop.dealt_slot in
    let permits = next_slot owners c.loop-owner.dealt_slots.items c.pop-in-Some.new.self.items slot
    c.in-Some-pop.ensures.items c.loop-owner.invariant.dealt_slots in
    let a = row_pushed slot.handles.items (map owner_deque owners) permits.permits in
    let b = owners_pushed owners in
    let room = permits.room_is in
    omega arith

pub loop-owner-preserved : goal.loop-owner-preserved
loop-owner-preserved g c =
    let owners = c.args.owners in
    let n = vec_len owners in
    let filled = map owner_deque owners.items in
    let room = sum_by (pushed_weight (λ _. 1)) owners.items in
    let l = c.loop-owner in
    let i = l.invariant in
    let owner = c.in-Some.owner in
    let dealt_slot = c.in-Some-pop.dealt_slot in
    let left = c.pop.new.self in
    let dealt_slots = c.pop-in-Some.new.self in
    let pop = c.in-Some.ensures.items in
    let pop' = c.in-Some-pop.ensures.items in
    let b = c.make_context-context.result in
    let e = c.make_context-context.ensures in
    let new = c.push_reserved.new.self in
    let put = c.push_reserved.ensures in
    let mine = last (IsHost n) l.left.items left.items owner pop i.hosts in
    let permits = next_slot owners.items l.dealt_slots.items dealt_slots.items dealt_slot pop' i.dealt_slots in
    record {
      hosts = front (IsHost n) l.left.items left.items owner pop i.hosts;
      dealt_slots = front (IsDealtSlot room filled) l.dealt_slots.items dealt_slots.items dealt_slot pop' i.dealt_slots;
      len = omega (arith, i.len, c.in-Some.ensures.cases, c.in-Some-pop.ensures.cases);
      all = omega (arith, i.all, put.len, c.in-Some.ensures.cases);
      room = omega (arith, i.room, put.capacity);
      order = moved context_deque owner_deque l.left.items left.items owner l.contexts.items new.items b filled pop
          put.items (ap (λ (t : Tag). t.filled) e.tag) i.order;
      laid = grown (λ b. IsLaid n filled (context_tag b)) l.contexts.items new.items b put.items i.laid
          (record {
            parts = ap (λ (t : Tag). t.parts + n) e.tag ∙ mine.parts;
            permits = ap (λ (t : Tag). t.permits) e.tag ∙ permits.permits;
            share = ap (λ (t : Tag). t.share) e.tag;
          });
      some = omega (arith, i.some, e.parts, c.in-Some.ensures.cases);
      parts = omega (arith, i.parts, e.parts, put.len);
      totals = e.totals ∙ i.totals;
    }
