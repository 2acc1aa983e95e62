use Rattle.std.proofs.Common.{◌≤◌, Option, List, length, refl, ap, ◌∙◌, subst, arith}
use Rattle.std.specs.Option.{option_to_list}
use Rattle.std.proofs.lemmas.List.Elements.{All-weaker}
use Rattle.observations.specs.rule.Limits.{most_pods}
use Rattle.pod_piece.specs.rule.Piece.{Piece}
use Rattle.totals.specs.state.Totals.{plus}
use Rattle.totals.specs.state.Rounds.{AreAdditionsOf}
use Rattle.piece_deques.proofs.Lists.{front, last, grown, ones}
use Rattle.worker_results.specs.state.Done.{IsDone, weigh}
use Rattle.worker_results.specs.state.Gated.{IsFinished}
use Rattle.worker_results.proofs.Numbers.{weigh_more}
use Rattle.worker_results.proofs.Sums.{plus_assoc, sums_more}
use Rattle.pool_workers.proofs.Additions.{settled, within_round}
use Rattle.worker_results.proofs.Gated.{all_gated}
use Rattle.pool_workers.proofs.settle.settle.Goals as goal

pub entered-init : goal.entered-init
entered-init g c =
    let total = c.args.total in
    let join = ap (λ s. s.totals) c.join.ensures in
    record {
      right = total.right;
      right_uncounted = total.right_uncounted;
      each = λ weight. (
          let none = ap (λ (r : Option Piece). weigh weight (option_to_list r)) c.requires.none in
          omega (arith, c.requires.each weight));
      room = c.requires.room;
      whole = ap (λ s. s.parts) c.join.ensures ∙ c.requires.whole;
      added = record { added = total.share.totals; are_sums = total.counts; is = join };
    }

pub add_whole-requires-clause-room : goal.add_whole-requires-clause-room
add_whole-requires-clause-room g c =
    let l = c.entered in
    let i = l.invariant in
    let each = i.each (λ _. 1) in
    let a = ones l.done.items in
    let b = ones l.uncounted.items in
    let d = ones g.D.Deal.all in
    let few = c.requires.few in
    let few_done : length l.done.items ≤ most_pods = omega arith in
    let low = c.requires.low in
    let mine = c.of_round-more.ensures.low in
    let sums = i.added.are_sums in
    let is = i.added.is in
    let updates = sums.few_updates in
    let short = mine.updates in
    let events = mine.events in
    let orders = mine.orders in
    record {
      updates = within_round low.updates (ap (λ t. t.updates) is) (omega arith) few_done (omega arith);
      events = within_round low.events (ap (λ t. t.events) is) sums.few_events few_done (omega arith);
      orders = within_round low.orders (ap (λ t. t.orders) is) sums.few_orders few_done (omega arith);
    }

pub push_reserved-requires : goal.push_reserved-requires
push_reserved-requires g c =
    let l = c.entered in
    let each = l.invariant.each (λ _. 1) in
    let a = ones l.done.items in
    let b = ones l.uncounted.items in
    let d = ones g.D.Deal.all in
    omega (arith, l.done.ok.0, l.uncounted.ok.0, l.invariant.room, c.in-Some.ensures.cases)

pub entered-preserved : goal.entered-preserved
entered-preserved g c =
    let done' = IsFinished g.D.Deal.left g.D.Deal.all in
    let l = c.entered in
    let i = l.invariant in
    let left = c.pop.new.self in
    let piece = c.in-Some.piece in
    let pop = c.in-Some.ensures.items in
    let new = c.push_reserved.new.self in
    let put = c.push_reserved.ensures in
    let more = c.of_round-more.result in
    let e = c.add_whole.ensures in
    let base = c.args.share.totals in
    let old = i.added.added in
    record {
      right = grown done' l.done.items new.items piece put.items i.right
          (last done' l.uncounted.items left.items piece pop i.right_uncounted);
      right_uncounted = front done' l.uncounted.items left.items piece pop i.right_uncounted;
      each = λ weight. (
          let a = weigh_more weight l.done.items new.items piece put.items in
          let b = weigh_more weight left.items l.uncounted.items piece pop in
          omega (arith, i.each weight));
      room = omega (arith, put.capacity, i.room);
      whole = ap (λ s. s.parts) e;
      added = record {
        added = plus old more;
        are_sums = sums_more l.done.items new.items piece more old (plus old more) put.items
            refl c.of_round-more.ensures.addition c.of_round-more.ensures.low
            i.added.are_sums;
        is =
            ap (λ s. s.totals) e
            ∙ (ap (λ t. plus t more) i.added.is ∙ plus_assoc base old more);
      };
    }

pub returns : goal.returns
returns g c =
    let l = c.entered in
    let i = l.invariant in
    let found = c.look_over.ensures in
    let order = c.in_order-pieces.ensures in
    let pieces = c.in_order-pieces.result.items in
    let are : AreAdditionsOf pieces found.0 =
    subst (λ (ps : List Piece). AreAdditionsOf ps found.0) c.deref.ensures.value found.1 in
    record {
      are_updated = order.placed;
      gated = all_gated g.D.Deal.left g.D.Deal.all _ _ c.requires.numbered order.placed order.same i.right;
      entered = (
        found.0,
        are,
        settled g.D.Deal.all l.done.items pieces found.0 c.args.share.totals l.share _ c.requires.numbered
            order.placed order.same are i.added i.whole,
      );
    }

pub in_order-pieces-requires-clause-right : goal.in_order-pieces-requires-clause-right
in_order-pieces-requires-clause-right g c =
    All-weaker (IsFinished g.D.Deal.left g.D.Deal.all) (IsDone g.D.Deal.all) (λ p f. f.is_done) _
    c.entered.invariant.right
