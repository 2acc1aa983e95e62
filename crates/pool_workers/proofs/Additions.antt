-- What the rounds of pieces add, in the order of the pieces' numbers.
use Rattle.std.proofs.Common.{◌≡◌, ℕ, zero, suc, ◌+◌, ◌*◌, ◌^◌, ◌<◌, ◌≤◌, List, [], ◌∷◌, ◌++◌, map, length}
use Rattle.std.proofs.Common.{get_or, Some, sym, refl, ap, ◌∙◌, subst, arith, inl, inr}
use Rattle.std.specs.Prelude.{slice_get}
use Rattle.std.specs.List.{sum_by}
use Rattle.std.specs.List.Sorted.{IsPermutation}
use Rattle.std.proofs.lemmas.List.{length-append}
use Rattle.std.proofs.lemmas.Option.{slice_get-get_or, slice_get_within}
use Rattle.histories.proofs.Lists.{place_split}
use Rattle.observations.specs.rule.Limits.{most_pods}
use Rattle.pod_piece.specs.rule.Piece.{Piece}
use Rattle.pod_piece.specs.state.Piece.{all_updated}
use Rattle.totals.specs.declared.totals.Totals.{Totals}
use Rattle.totals.specs.state.Totals.{plus, nothing}
use Rattle.totals.specs.state.Rounds.{IsAdditionOf, AreAdditionsOf, sums_of_additions}
use Rattle.event_book.specs.state.Shares.{ShareState, share_with}
use Rattle.totals.specs.state.Limits.{greatest_total, most_round_events}
use Rattle.totals.proofs.Numbers.{totals_same}
use Rattle.piece_deques.proofs.Lists.{sum_map}
use Rattle.piece_deques.specs.state.Rule.{AreNumbered}
use Rattle.worker_results.specs.state.Done.{HaveAdditions, AreSumsOf}
use Rattle.worker_results.proofs.Sums.{sums_permuted}
use Rattle.pool_workers.specs.state.Order.{AreAdded}

pub no_additions : (pieces : List Piece) → pieces ≡ [] → AreAdditionsOf pieces []
no_additions pieces none =
    subst (λ ps. AreAdditionsOf ps []) (sym none)
    (record { as_many = refl; each = λ n piece addition at is. absurd (cc) })

-- one piece more
pub additions_more : (xs ys : List Piece) (es : List Totals) (piece : Piece) (addition : Totals) → ys ≡ xs ++ piece ∷ []
    → AreAdditionsOf xs es → IsAdditionOf piece addition → AreAdditionsOf ys (es ++ addition ∷ [])
additions_more xs ys es piece addition put are is =
    let many = are.as_many in
    subst (λ ps. AreAdditionsOf ps (es ++ addition ∷ [])) (sym put)
    (record {
      as_many = omega (arith, length-append xs (piece ∷ []), length-append es (addition ∷ []));
      each = λ n p e at there. elim (place_split xs piece p n at) [
        | inl old ↦ elim (place_split es addition e n there) [
          | inl older ↦ are.each n p e old older
          | inr w ↦ let lt : n < length xs = slice_get_within xs n p old in let last = w.0 in absurd (omega arith)
        ]
        | inr v ↦ elim (place_split es addition e n there) [
          | inl older ↦ let lt : n < length es = slice_get_within es n e older in let last = v.0 in absurd (omega arith)
          | inr w ↦ subst (λ q. IsAdditionOf q e) v.1 (subst (λ f. IsAdditionOf piece f) w.1 is)
        ]
      ];
    })

-- what each piece adds, by its place
listed : (addition : Piece → Totals) (pieces : List Piece) (es : List Totals) → length es ≡ length pieces
    → ((n : ℕ) (p : Piece) → slice_get pieces n ≡ Some p → addition p ≡ get_or es n nothing) → map addition pieces ≡ es
listed addition [] [] len same = refl
listed addition [] (e ∷ es) len same = absurd (omega arith)
listed addition (p ∷ ps) [] len same = absurd (omega arith)
listed addition (p ∷ ps) (e ∷ es) len same =
    let first : addition p ≡ e = same 0 p refl in
    let ended = listed addition ps es (omega arith) (λ n q at. same (suc n) q at) in
    λ k. first k ∷ ended k

module _ (pieces : List Piece) (es : List Totals) (numbered : AreNumbered pieces) (are : AreAdditionsOf pieces es) where
  abbrev by_number : Piece → Totals
  by_number p = get_or es p.number nothing

  have_additions : HaveAdditions by_number pieces
  have_additions k d in' =
      let piece = get_or pieces k d in
      let there = slice_get-get_or pieces k d in' in
      let is = slice_get-get_or es k nothing (let many = are.as_many in omega arith) in
      subst (λ n. IsAdditionOf piece (get_or es n nothing)) (sym (numbered k piece there))
      (are.each k piece (get_or es k nothing) there is)

  all_listed : map by_number pieces ≡ es
  all_listed = listed by_number pieces es are.as_many (λ n p at. ap (λ k. get_or es k nothing) (numbered n p at))

  same_sum : (f : Totals → ℕ) → sum_by (λ (p : Piece). f (by_number p)) pieces ≡ sum_by f es
  same_sum f = sym (sum_map by_number f pieces) ∙ ap (sum_by f) all_listed

  sums_are : (totals : Totals) → AreSumsOf pieces totals → totals ≡ sums_of_additions es
  sums_are totals sums =
      let added = sums.sums by_number have_additions in
      totals_same totals (sums_of_additions es)
      (added.updates ∙ same_sum (λ (t : Totals). t.updates))
      (added.events ∙ same_sum (λ (t : Totals). t.events))
      (added.orders ∙ same_sum (λ (t : Totals). t.orders))

-- what a round of pieces adds to a low number leaves room for one piece more
pub within_round : {base added total more count : ℕ} → base ≤ 2 ^ 62 → total ≡ base + added
    → added ≤ count * most_round_events → count ≤ most_pods → more ≤ most_round_events → total + more ≤ greatest_total
within_round low is few many one = omega arith

-- the number of a piece stays its place
numbered_map : (all : List Piece) (at : ℕ → ℕ)
    → ((n : ℕ) (p : Piece) → slice_get all n ≡ Some p → p.number ≡ at n)
    → (n : ℕ) (p : Piece) → slice_get (map all_updated all) n ≡ Some p → p.number ≡ at n
numbered_map [] at numbered n p e = absurd (cc)
numbered_map (x ∷ xs) at numbered zero p e =
    let same : all_updated x ≡ p = cc in ap (λ (q : Piece). q.number) (sym same) ∙ numbered 0 x refl
numbered_map (x ∷ xs) at numbered (suc n) p e =
    numbered_map xs (λ k. at (suc k)) (λ k q there. numbered (suc k) q there) n p e

share_same : (share : ShareState) (parts : ℕ) (totals : Totals) → share.parts ≡ parts → share.totals ≡ totals
    → share ≡ share_with parts totals
share_same share parts totals same_parts same_totals = λ k. share_with (same_parts k) (same_totals k)

-- the share with which the pieces were entered that are in order now
pub settled : (all done pieces : List Piece) (es : List Totals) (base : Totals) (share : ShareState) (parts : ℕ)
    → AreNumbered all → pieces ≡ map all_updated all → IsPermutation done pieces → AreAdditionsOf pieces es
    → AreAdded done base share.totals → share.parts ≡ parts
    → share ≡ share_with parts (plus base (sums_of_additions es))
settled all done pieces es base share parts numbered are_updated perm are added whole =
    let in_place : AreNumbered pieces = subst AreNumbered (sym are_updated) (numbered_map all (λ n. n) numbered) in
    let sums =
    sums_are pieces es in_place are added.added (sums_permuted done pieces added.added perm added.are_sums) in
    share_same share parts (plus base (sums_of_additions es)) whole (added.is ∙ ap (plus base) sums)
