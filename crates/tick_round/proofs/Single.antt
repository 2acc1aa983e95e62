-- A round of one tick: one tick waits for each piece that goes out, and what it adds to the totals is its entry.
use Rattle.std.proofs.Common.{◌≡◌, ◌∙◌, ℕ, suc, ◌+◌, ◌≤◌, List, [], ◌∷◌, length, map, Some, refl, ap, sym, subst}
use Rattle.std.proofs.Common.{arith}
use Rattle.std.specs.Prelude.{slice_get, option_map}
use Rattle.std.specs.List.{sum_by}
use Rattle.std.proofs.lemmas.List.{length-append, length-map}
use Rattle.std.proofs.lemmas.List.Sums.{sum_by-cons}
use Rattle.std.proofs.lemmas.Option.{slice_get_within, slice_get-map}
use Rattle.histories.proofs.Lists.{given_at}
use Rattle.observations.specs.declared.tick.TickObs.{TickObs}
use Rattle.observations.specs.rule.Observations.{all_shown}
use Rattle.piece_deques.proofs.Lists.{sum_map}
use Rattle.pod_piece.specs.rule.Piece.{Piece, updated}
use Rattle.pod_piece.specs.state.Piece.{all_updated, pods_in}
use Rattle.pod_piece.specs.state.Made.{round_length}
use Rattle.eviction.specs.rule.Replay.{pod_ticks}
use Rattle.totals.specs.declared.totals.Entry.{Entry}
use Rattle.totals.specs.declared.totals.Totals.{Totals}
use Rattle.totals.specs.state.Totals.{sums_of, plus, one_update}
use Rattle.totals.specs.state.Rounds.{IsAdditionOf, sums_of_additions, AreAdded}
use Rattle.totals.proofs.Made.{entry_added}
use Rattle.node_pods.specs.state.Pods.{MayBeHanded, sent_from}
use Rattle.node_pods.proofs.Sent.{sent_at, sent_count}
use Rattle.node_pods.proofs.Candidates.{same_piece}
use Rattle.node_rounds.specs.state.Node.{State}
use Rattle.node_rounds.specs.state.Round.{IsKept}
use Rattle.node_rounds.specs.state.Stretch.{handed_all}
use Rattle.round_updates.specs.state.Update.{AreEntered}
use Rattle.node_rounds.proofs.Handing.{IsGrown, not_grown, handed_at, handed_all-length}
use Rattle.node_rounds.proofs.Opens.{rest_of}
use Rattle.node_rounds.proofs.Owns.{own_few}
use Rattle.round_updates.proofs.Updates.{same_totals}

-- what entries add up to, with one update each
single_sums : (entries : List Entry) → sums_of_additions (map one_update entries) ≡ sums_of entries
single_sums entries =
    same_totals (sum_by (λ (t : Totals). t.updates) (map one_update entries))
    (sum_by (λ (t : Totals). t.events) (map one_update entries))
    (sum_by (λ (t : Totals). t.orders) (map one_update entries)) (length entries)
    (sum_by (λ (e : Entry). e.events) entries) (sum_by (λ (e : Entry). e.orders) entries) (ones entries)
    (sum_map one_update (λ (t : Totals). t.events) entries) (sum_map one_update (λ (t : Totals). t.orders) entries)
  where
    ones : (entries : List Entry) → sum_by (λ (t : Totals). t.updates) (map one_update entries) ≡ length entries
    ones [] = refl
    ones (e ∷ entries) =
        let u : Totals → ℕ = λ t. t.updates in
        let one : sum_by u (map one_update (e ∷ entries)) ≡ 1 + sum_by u (map one_update entries) =
        sum_by-cons u (one_update e) (map one_update entries) in
        let rest : sum_by u (map one_update entries) ≡ length entries = ones entries in
        omega (arith, one, rest)

-- the entries of rounds of one tick are what they add
pub entered_added : (pieces : List Piece) (old new : Totals)
    → ((n : ℕ) (q : Piece) → slice_get pieces n ≡ Some q → round_length q ≡ 1) → AreEntered pieces old new
    → AreAdded pieces old new
entered_added pieces old new one entered = record {
  additions = map one_update entered.entries;
  are_additions = record {
    as_many = length-map entered.entries one_update ∙ entered.are_entries.as_many;
    each = λ n q a at there.
        let lt = slice_get_within (map one_update entered.entries) n a there in
        let e = given_at entered.entries n (omega (arith, lt, length-map entered.entries one_update)) in
        let found : Some (one_update e.0) ≡ Some a =
        sym (slice_get-map one_update entered.entries n ∙ ap (option_map one_update) e.1) ∙ there in
        let same : one_update e.0 ≡ a = cc in
        subst (λ (t : Totals). IsAdditionOf q t) same
        (entry_added q e.0 (one n q at) (entered.are_entries.each n q e.0 at e.1));
  };
  totals = entered.totals ∙ ap (λ (t : Totals). plus old t) (sym (single_sums entered.entries));
}

-- one tick waits for each piece that goes out in such a round, which is as long
pub one_waits : (s : State) (tick : TickObs) (pieces : List Piece) → IsKept s
    → pieces ≡ sent_from 0 (handed_all s.pods.pieces (tick ∷ [])) → (n : ℕ) (q : Piece) → slice_get pieces n ≡ Some q
    → (q.waiting ≡ 1) × (round_length (all_updated q) ≡ 1)
one_waits s tick pieces kept sent n q at =
    let old = s.pods.pieces in
    let xs = tick ∷ [] in
    let all = handed_all old xs in
    let w = sent_at 0 all n q (subst (λ (ps : List Piece). slice_get ps n ≡ Some q) sent at) in
    let lt = slice_get_within all w.n w.piece w.at in
    let p = given_at old w.n (omega (arith, lt, handed_all-length old xs)) in
    let rest = rest_of s.config (pods_in old) kept.ticks s.evictions old kept.taken.pieces w.n p.0 p.1 in
    let g = handed_at p.0 [] old xs w.n p.0 p.1 (not_grown p.0 rest.0 rest.1) in
    let is = subst (λ (r : Piece). IsGrown p.0 (pod_ticks xs w.n) r) (same_piece all w.n g.0 w.piece g.1 w.at) g.2 in
    let few : length (pod_ticks xs w.n) ≤ 1 = own_few xs w.n in
    let waits : w.piece.waiting ≡ 1 = omega (arith, w.pending, few, is.waiting) in
    let long : length w.piece.handed ≡ length (p.0).handed + length (pod_ticks xs w.n) =
    ap length is.handed ∙ length-append (p.0).handed (pod_ticks xs w.n) in (
      ap (λ (r : Piece). r.waiting) w.is ∙ waits,
      ap (λ (r : Piece). round_length (all_updated r)) w.is ∙ omega (arith, long, waits, is.waiting, is.begun),
    )

-- so its one update takes all that waits
pub one_taken : (pieces : List Piece) → ((n : ℕ) (q : Piece) → slice_get pieces n ≡ Some q → q.waiting ≡ 1)
    → map updated pieces ≡ map all_updated pieces
one_taken [] one = refl
one_taken (q ∷ pieces) one =
    ap (λ (w : ℕ). (record q { waiting = w }) ∷ map updated pieces) (let is = one 0 q refl in omega (arith, is))
    ∙ ap (λ (ps : List Piece). all_updated q ∷ ps) (one_taken pieces (λ n p at. one (suc n) p at))

pub one_added : (s : State) (tick : TickObs) (pieces back : List Piece) (old new : Totals) → IsKept s
    → pieces ≡ sent_from 0 (handed_all s.pods.pieces (tick ∷ [])) → back ≡ map updated pieces → AreEntered back old new
    → (back ≡ map all_updated pieces) × AreAdded back old new
one_added s tick pieces back old new kept sent is entered =
    let same : back ≡ map all_updated pieces =
    is ∙ one_taken pieces (λ n q at. (one_waits s tick pieces kept sent n q at).0) in (
      same,
      entered_added back old new
          (λ n q at.
          let here = subst (λ (ps : List Piece). slice_get ps n ≡ Some q) same at in
          let lt = slice_get_within (map all_updated pieces) n q here in
          let p = given_at pieces n (omega (arith, lt, length-map pieces all_updated)) in
          ap round_length (same_piece (map all_updated pieces) n q (all_updated p.0) here
          (slice_get-map all_updated pieces n ∙ ap (option_map all_updated) p.1))
          ∙ (one_waits s tick pieces kept sent n p.0 p.1).1)
          entered,
    )

-- as many go out as the tick shows
pub one_each : (s : State) (tick : TickObs) (pieces : List Piece) → IsKept s → MayBeHanded s.pods.pieces tick
    → pieces ≡ sent_from 0 (handed_all s.pods.pieces (tick ∷ [])) → length pieces ≡ length (all_shown tick)
one_each s tick pieces kept may sent =
    ap length sent
    ∙ sent_count 0 s.pods.pieces tick.pods may.next.within
    (λ n p at. (rest_of s.config (pods_in s.pods.pieces) kept.ticks s.evictions s.pods.pieces kept.taken.pieces n p
    at).0)
