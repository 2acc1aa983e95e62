-- The pieces that go out for a round may be updated.
use Rattle.std.proofs.Common.{◌≡◌, ℕ, suc, ◌+◌, ◌*◌, ◌<◌, ◌≤◌, List, [], ◌∷◌, length, Option, Some, None, refl, sym}
use Rattle.std.proofs.Common.{subst, arith}
use Rattle.std.specs.Prelude.{slice_get}
use Rattle.std.specs.List.{filter_map, sum_by}
use Rattle.std.proofs.lemmas.List.Sums.{sum_by-cons}
use Rattle.observations.specs.rule.Pods.{PodObs}
use Rattle.observations.specs.declared.tick.TickObs.{TickObs}
use Rattle.observations.specs.rule.Observations.{all_shown}
use Rattle.observations.specs.rule.Limits.{most_pods}
use Rattle.pod_piece.specs.rule.Piece.{Piece}
use Rattle.totals.specs.declared.totals.Totals.{Totals}
use Rattle.totals.specs.state.Limits.{AreLow}
use Rattle.node_pods.specs.state.Pods.{sent_from}
use Rattle.node_pods.proofs.Sent.{sent_at, sent_few}
use Rattle.node_rounds.specs.state.Node.{State}
use Rattle.node_rounds.specs.state.Round.{IsKept}
use Rattle.node_rounds.specs.state.Stretch.{handed_all}
use Rattle.round_updates.specs.state.Update.{MayUpdate}
use Rattle.node_rounds.proofs.Handing.{handed_all-length}

-- ticks that show no more pods than a node may have make no more updates than that each
few_shown : (shown : List (Option PodObs)) → length (filter_map (λ (o : Option PodObs). o) shown) ≤ length shown
few_shown [] = omega arith
few_shown (None ∷ shown) = let le = few_shown shown in omega (arith, le)
few_shown (Some o ∷ shown) = let le = few_shown shown in omega (arith, le)

few_updates : (ticks : List TickObs)
    → ((t : ℕ) (x : TickObs) → slice_get ticks t ≡ Some x → length x.pods ≤ most_pods)
    → sum_by (λ (x : TickObs). length (all_shown x)) ticks ≤ length ticks * most_pods
few_updates [] few = omega arith
few_updates (x ∷ ticks) few =
    let u : TickObs → ℕ = λ y. length (all_shown y) in
    let one : sum_by u (x ∷ ticks) ≡ u x + sum_by u ticks = sum_by-cons u x ticks in
    let first : u x ≤ length x.pods = few_shown x.pods in
    let some : length x.pods ≤ most_pods = few 0 x refl in
    let rest : sum_by u ticks ≤ length ticks * most_pods = few_updates ticks (λ t y at. few (suc t) y at) in
    omega (arith, one, first, some, rest)

pub may_update : (s : State) (xs : List TickObs) (pieces : List Piece) (book : Totals) → IsKept s
    → pieces ≡ sent_from 0 (handed_all s.pods.pieces xs) → book ≡ s.totals → MayUpdate pieces book
may_update s xs pieces book kept sent same =
    let all = handed_all s.pods.pieces xs in
    let had = kept.taken in
    let u : s.totals.updates ≤ length kept.ticks * most_pods =
    subst (λ (t : Totals). t.updates ≤ length kept.ticks * most_pods) (sym had.totals)
    (few_updates kept.ticks (λ t x at. let le = had.shown t x at in omega (arith, le, had.few_pods))) in
    record {
      few = subst (λ (ps : List Piece). length ps ≤ most_pods) (sym sent)
          (omega (arith, sent_few 0 all, handed_all-length s.pods.pieces xs, had.pieces.as_many, had.few_pods));
      pending = λ n q at.
          let w = sent_at 0 all n q (subst (λ (ps : List Piece). slice_get ps n ≡ Some q) sent at) in
          subst (λ (p : Piece). 0 < p.waiting) (sym w.is) w.pending;
      room = subst (λ (t : Totals). AreLow t) (sym same) (record {
        updates = omega (arith, u, had.few_ticks);
        events = omega (arith, u, had.few_ticks, kept.events.events);
        orders = omega (arith, u, had.few_ticks, kept.events.orders);
      });
    }
