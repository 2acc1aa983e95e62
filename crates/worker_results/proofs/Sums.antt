-- What the rounds of pieces add up to.
use Rattle.std.proofs.Common.{◌≡◌, ℕ, List, [], ◌∷◌, ◌++◌, length}
use Rattle.std.proofs.Common.{sym, refl, ap, ◌∙◌, subst, arith, length-append}
use Rattle.std.specs.List.{sum_by}
use Rattle.std.specs.List.Sorted.{IsPermutation}
use Rattle.std.proofs.lemmas.List.Sums.{sum_by-cons, sum_by-append}
use Rattle.std.proofs.lemmas.List.Sorted.{All-permutation, IsPermutation-sym, sum_by-IsPermutation}
use Rattle.pod_piece.specs.rule.Piece.{Piece}
use Rattle.totals.specs.declared.totals.Totals.{Totals}
use Rattle.totals.specs.state.Totals.{plus, nothing}
use Rattle.totals.specs.state.Rounds.{IsAdditionOf}
use Rattle.totals.specs.state.Limits.{IsLowAddition}
use Rattle.totals.proofs.Made.{one_addition}
use Rattle.totals.proofs.Numbers.{totals_same}
use Rattle.piece_deques.proofs.Lists.{all_left, all_right, ones}
use Rattle.worker_results.specs.state.Done.{HaveAdditions, AreSumsOf}

-- Sums

pub no_sums : (pieces : List Piece) (totals : Totals) → pieces ≡ [] → totals ≡ nothing → AreSumsOf pieces totals
no_sums pieces totals none is =
    subst (λ t. AreSumsOf pieces t) (sym is)
    (subst (λ ps. AreSumsOf ps nothing) (sym none)
    (record {
      sums = λ addition have. record { updates = refl; events = refl; orders = refl };
      few_updates = omega arith;
      few_events = omega arith;
      few_orders = omega arith;
    }))

-- one piece
one_sum : (piece : Piece) (more : Totals) → IsAdditionOf piece more → IsLowAddition more → AreSumsOf (piece ∷ []) more
one_sum piece more is low = record {
  sums = λ other have. (
      let same = one_addition piece more (other piece) is (have 0 piece (omega arith)) in
      record {
        updates = let e = ap (λ (t : Totals). t.updates) same in omega
            (arith, sum_by-cons (λ (p : Piece). (other p).updates) piece []);
        events = let e = ap (λ (t : Totals). t.events) same in omega
            (arith, sum_by-cons (λ (p : Piece). (other p).events) piece []);
        orders = let e = ap (λ (t : Totals). t.orders) same in omega
            (arith, sum_by-cons (λ (p : Piece). (other p).orders) piece []);
      });
  few_updates = let few = low.updates in omega arith;
  few_events = let few = low.updates in let some = low.events in omega arith;
  few_orders = let few = low.updates in let some = low.orders in omega arith;
}

-- pieces together
pub sums_both : (xs ys both : List Piece) (a b totals : Totals) → both ≡ xs ++ ys → totals ≡ plus a b
    → AreSumsOf xs a → AreSumsOf ys b → AreSumsOf both totals
sums_both xs ys both a b totals are is first second =
    let long = ap (λ l. length l) are ∙ length-append xs ys in
    let updates = ap (λ (t : Totals). t.updates) is in
    let events = ap (λ (t : Totals). t.events) is in
    let orders = ap (λ (t : Totals). t.orders) is in
    record {
      sums = λ addition have. (
          let all = subst (HaveAdditions addition) are have in
          let x = first.sums addition (all_left (λ p. IsAdditionOf p (addition p)) xs ys all) in
          let y = second.sums addition (all_right (λ p. IsAdditionOf p (addition p)) xs ys all) in
          let f : Piece → ℕ = λ p. (addition p).updates in
          let g : Piece → ℕ = λ p. (addition p).events in
          let h : Piece → ℕ = λ p. (addition p).orders in
          record {
            updates =
                let s = ap (sum_by f) are in
                let xu = x.updates in
                let yu = y.updates in
                omega (arith, sum_by-append f xs ys);
            events =
                let s = ap (sum_by g) are in
                let xe = x.events in
                let ye = y.events in
                omega (arith, sum_by-append g xs ys);
            orders =
                let s = ap (sum_by h) are in
                let xo = x.orders in
                let yo = y.orders in
                omega (arith, sum_by-append h xs ys);
          });
      few_updates =
          let x = first.few_updates in let y = second.few_updates in omega arith;
      few_events =
          let x = first.few_events in let y = second.few_events in omega arith;
      few_orders =
          let x = first.few_orders in let y = second.few_orders in omega arith;
    }

-- one piece more
pub sums_more : (xs ys : List Piece) (piece : Piece) (more old new : Totals) → ys ≡ xs ++ piece ∷ []
    → new ≡ plus old more → IsAdditionOf piece more → IsLowAddition more → AreSumsOf xs old → AreSumsOf ys new
sums_more xs ys piece more old new put is is_addition low before =
    sums_both xs (piece ∷ []) ys old more new put is before (one_sum piece more is_addition low)

-- pieces in another order
pub sums_permuted : (xs ys : List Piece) (totals : Totals) → IsPermutation xs ys → AreSumsOf xs totals
    → AreSumsOf ys totals
sums_permuted xs ys totals perm are =
    let long : length ys ≡ length xs =
    (let same = sum_by-IsPermutation (λ (_ : Piece). 1) xs ys perm in omega (arith, ones xs, ones ys)) in
    record {
      sums = λ addition have. (
          let back = All-permutation (λ p. IsAdditionOf p (addition p)) ys xs (IsPermutation-sym xs ys perm) have in
          let sums = are.sums addition back in
          record {
            updates = sums.updates ∙ sym (sum_by-IsPermutation (λ p. (addition p).updates) xs ys perm);
            events = sums.events ∙ sym (sum_by-IsPermutation (λ p. (addition p).events) xs ys perm);
            orders = sums.orders ∙ sym (sum_by-IsPermutation (λ p. (addition p).orders) xs ys perm);
          });
      few_updates = let few = are.few_updates in omega arith;
      few_events = let few = are.few_events in omega arith;
      few_orders = let few = are.few_orders in omega arith;
    }

pub plus_assoc : (a b c : Totals) → plus (plus a b) c ≡ plus a (plus b c)
plus_assoc a b c = totals_same (plus (plus a b) c) (plus a (plus b c)) (omega arith) (omega arith) (omega arith)
