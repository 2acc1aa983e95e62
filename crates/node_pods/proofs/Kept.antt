-- What the pods of a node keep, from call to call.
use Rattle.std.proofs.Common.{◌≡◌, ◌∙◌, inl, inr, ℕ, ◌<◌, Bool, List, [], ◌∷◌, ◌++◌, length, map}
use Rattle.std.proofs.Common.{Option, Some, None, refl, ap, sym, subst, arith}
use Rattle.std.specs.Prelude.{◌≢◌, slice_get, IfSome, IsSome, option_map}
use Rattle.std.specs.Option.{option_flatten}
use Rattle.std.proofs.lemmas.Bool.{cases_eq, cases_lt, cases_order}
use Rattle.std.proofs.lemmas.List.{length-map}
use Rattle.std.proofs.lemmas.Option.{slice_get_within, slice_get_past, slice_get-map}
use Rattle.histories.specs.rule.Histories.{last_moment}
use Rattle.histories.proofs.Moments.{last_moment-more}
use Rattle.histories.proofs.Places.{length-more}
use Rattle.histories.proofs.Lists.{slice_get-old, slice_get-new, given_at}
use Rattle.manifest.specs.declared.pod.PodSpec.{PodSpec}
use Rattle.observations.specs.rule.Pods.{PodObs}
use Rattle.observations.specs.declared.tick.TickObs.{TickObs}
use Rattle.observations.specs.rule.Observations.{shown_of}
use Rattle.pod_state.specs.rule.Pods.{pod_tick}
use Rattle.pod_piece.specs.declared.order.EvictOrder.{EvictOrder}
use Rattle.pod_piece.specs.rule.Piece.{Piece}
use Rattle.pod_piece.specs.state.Piece.{new_piece, all_updated, at_rest, with_eviction}
use Rattle.pod_piece.proofs.Waiting.{ticks_free}
use Rattle.node_pods.specs.state.Pods.{pods_of, IsNumbered, AreNumbered, IsPlaced, ArePlaced, MayBeHanded, handed_one}
use Rattle.node_pods.specs.state.Pods.{sent_from, staying, after_tick, AreAfter, awaited, joined, AreEvicted}
use Rattle.node_pods.specs.state.Laws.{CandidateIsShown}
use Rattle.node_pods.specs.state.Steps.{AreFree, AreHandedBelow}
use Rattle.node_pods.proofs.Candidates.{same_piece}
use Rattle.node_pods.proofs.Steps.{shown_at, joined_updated}

-- where each pod has its number
pub free_all : (pieces : List Piece) (max_restart_delay : ℕ) (dedicated : Bool)
    → ArePlaced (pods_of pieces max_restart_delay dedicated) → AreFree pieces
free_all pieces max_restart_delay dedicated placed n piece at = (placed n piece at).free

-- one pod more
pub others_arrived : (pieces : List Piece) (x : Piece) (n : ℕ) → n ≢ length pieces
    → slice_get (pieces ++ x ∷ []) n ≡ slice_get pieces n
others_arrived pieces x n apart = elim (cases_order n (length pieces)) [
  | inl same ↦ absurd (apart same)
  | inr (inl lt) ↦ slice_get-old pieces (x ∷ []) n lt
  | inr (inr gt) ↦
      slice_get_past (pieces ++ x ∷ []) n (omega (arith, length-more pieces x, gt))
      ∙ sym (slice_get_past pieces n (omega (arith, gt)))
]

pub placed_arrived : (pieces : List Piece) (max_restart_delay : ℕ) (dedicated : Bool) (pod : PodSpec)
    → ArePlaced (pods_of pieces max_restart_delay dedicated)
    → ArePlaced (pods_of (pieces ++ new_piece (length pieces) pod max_restart_delay ∷ []) max_restart_delay dedicated)
placed_arrived pieces max_restart_delay dedicated pod placed n piece at = elim (cases_eq n (length pieces)) [
  | inl same ↦
      let x = new_piece (length pieces) pod max_restart_delay in
      let new = subst (λ (k : ℕ). slice_get (pieces ++ x ∷ []) k ≡ Some x) (sym same) (slice_get-new pieces x) in
      subst (λ (p : Piece). IsPlaced max_restart_delay n p) (same_piece (pieces ++ x ∷ []) n x piece new at)
      (record { number_is = sym same; max_restart_delay_is = refl; free = refl; rested = refl })
  | inr apart ↦
      placed n piece (sym (others_arrived pieces (new_piece (length pieces) pod max_restart_delay) n apart) ∙ at)
]

-- in the midst of a round each has its number still
pub numbered_of : (pieces : List Piece) (max_restart_delay : ℕ) (dedicated : Bool)
    → ArePlaced (pods_of pieces max_restart_delay dedicated) → AreNumbered (pods_of pieces max_restart_delay dedicated)
numbered_of pieces max_restart_delay dedicated placed n piece at =
    let was = placed n piece at in
    record { number_is = was.number_is; max_restart_delay_is = was.max_restart_delay_is }

-- pieces that f makes of others, each of the one at its place, which has the same number
numbered_by : (f : ℕ → Piece → Piece) (old new : List Piece) (max_restart_delay : ℕ) (dedicated : Bool)
    → length new ≡ length old
    → ((n : ℕ) (p : Piece) → slice_get old n ≡ Some p → slice_get new n ≡ Some (f n p))
    → ((n : ℕ) (p : Piece) → IsNumbered max_restart_delay n p → IsNumbered max_restart_delay n (f n p))
    → AreNumbered (pods_of old max_restart_delay dedicated) → AreNumbered (pods_of new max_restart_delay dedicated)
numbered_by f old new max_restart_delay dedicated long each same numbered n piece at =
    let lt = slice_get_within new n piece at in
    let p = given_at old n (omega (arith, lt, long)) in
    subst (λ (q : Piece). IsNumbered max_restart_delay n q) (same_piece new n (f n p.0) piece (each n p.0 p.1) at)
    (same n p.0 (numbered n p.0 p.1))

pub numbered_below : (i : ℕ) (old : List Piece) (shown : List (Option PodObs)) (new : List Piece)
    (max_restart_delay : ℕ) (dedicated : Bool) → AreHandedBelow i shown old new
    → AreNumbered (pods_of old max_restart_delay dedicated) → AreNumbered (pods_of new max_restart_delay dedicated)
numbered_below i old shown new max_restart_delay dedicated are numbered n piece at =
    let lt = slice_get_within new n piece at in
    let p = given_at old n (omega (arith, lt, are.as_many)) in
    elim (cases_lt n i) [
      | inl below ↦ subst (λ (q : Piece). IsNumbered max_restart_delay n q)
          (same_piece new n (handed_one p.0 (option_flatten (slice_get shown n))) piece (are.below n p.0 below p.1) at)
          (one n p.0 (option_flatten (slice_get shown n)) (numbered n p.0 p.1))
      | inr past ↦ numbered n piece (sym (are.rest n (omega arith)) ∙ at)
    ]
  where
    one : (n : ℕ) (p : Piece) (o : Option PodObs) → IsNumbered max_restart_delay n p
        → IsNumbered max_restart_delay n (handed_one p o)
    one n p None was = was
    one n p (Some o) was =
        record { number_is = was.number_is; max_restart_delay_is = was.max_restart_delay_is }

numbered_updated : (old : List Piece) (max_restart_delay : ℕ) (dedicated : Bool)
    → AreNumbered (pods_of old max_restart_delay dedicated)
    → AreNumbered (pods_of (map all_updated old) max_restart_delay dedicated)
numbered_updated old max_restart_delay dedicated numbered =
    numbered_by (λ n p. all_updated p) old (map all_updated old) max_restart_delay dedicated
    (length-map old all_updated)
    (λ n p at. slice_get-map all_updated old n ∙ ap (option_map all_updated) at)
    (λ n p was. record { number_is = was.number_is; max_restart_delay_is = was.max_restart_delay_is }) numbered

-- once the pieces that went out have come back
pub numbered_as_joined : (old : List Piece) (max_restart_delay : ℕ) (dedicated : Bool) (out : List Piece)
    (kept : List (Option Piece)) → AreNumbered (pods_of old max_restart_delay dedicated) → out ≡ sent_from 0 old
    → kept ≡ staying old
    → AreNumbered (joined (awaited kept max_restart_delay dedicated) (map all_updated out))
numbered_as_joined old max_restart_delay dedicated out kept numbered out_is kept_is =
    let back = joined_updated old (λ n piece at. (numbered n piece at).number_is) in
    subst (λ (k : List (Option Piece)). AreNumbered
    (joined (awaited k max_restart_delay dedicated) (map all_updated out))) (sym kept_is)
    (subst (λ (o : List Piece). AreNumbered
    (joined (awaited (staying old) max_restart_delay dedicated) (map all_updated o))) (sym out_is)
    (subst (λ (ps : List Piece). AreNumbered (pods_of ps max_restart_delay dedicated)) (sym back)
    (numbered_updated old max_restart_delay dedicated numbered)))

-- once the round is over
pub placed_at_rest : (old : List Piece) (max_restart_delay : ℕ) (dedicated : Bool)
    → AreNumbered (pods_of old max_restart_delay dedicated) → AreFree old
    → ArePlaced (pods_of (map at_rest old) max_restart_delay dedicated)
placed_at_rest old max_restart_delay dedicated numbered free n piece at =
    let lt = slice_get_within (map at_rest old) n piece at in
    let p = given_at old n (omega (arith, lt, length-map old at_rest)) in
    let was = numbered n p.0 p.1 in
    let none = free n p.0 p.1 in
    subst (λ (q : Piece). IsPlaced max_restart_delay n q)
    (same_piece (map at_rest old) n (at_rest p.0) piece
    (slice_get-map at_rest old n ∙ ap (option_map at_rest) p.1) at)
    (record {
      number_is = was.number_is;
      max_restart_delay_is = was.max_restart_delay_is;
      free = none;
      rested = ap length (ticks_free p.0 none);
    })

-- after an eviction
pub placed_evicted : (old : List Piece) (max_restart_delay : ℕ) (dedicated : Bool) (number : ℕ) (order : EvictOrder)
    (new : List Piece) → ArePlaced (pods_of old max_restart_delay dedicated) → AreEvicted old number order new
    → ArePlaced (pods_of new max_restart_delay dedicated)
placed_evicted old max_restart_delay dedicated number order new placed are n piece at = elim (cases_eq n number) [
  | inl same ↦
      let lt = slice_get_within new n piece at in
      let p = given_at old n (omega (arith, lt, are.as_many)) in
      let was = placed n p.0 p.1 in
      let there = subst (λ (k : ℕ). slice_get old k ≡ Some p.0) same p.1 in
      let here = subst (λ (k : ℕ). slice_get new k ≡ Some (with_eviction p.0 order)) (sym same) (are.here p.0 there) in
      subst (λ (q : Piece). IsPlaced max_restart_delay n q) (same_piece new n (with_eviction p.0 order) piece here at)
      (record {
        number_is = was.number_is;
        max_restart_delay_is = was.max_restart_delay_is;
        free = was.free;
        rested =
            was.rested;
      })
  | inr apart ↦ placed n piece (sym (are.others n apart) ∙ at)
]

-- a pod that is present after a tick, by its last moment, is shown by the tick
pub present_shown : (pieces : List Piece) (tick : TickObs) (new : List Piece) (n : ℕ) (piece : Piece)
    → MayBeHanded pieces tick → AreAfter pieces tick.pods new → slice_get new n ≡ Some piece
    → last_moment piece.handed ≡ Some tick.at
    → (observed : PodObs) × (shown_of tick n ≡ Some observed)
present_shown pieces tick new n piece may are at last =
    let lt = slice_get_within new n piece at in
    let p = given_at pieces n (omega (arith, lt, are.as_many)) in
    by p.0 p.1 (shown_of tick n) refl
  where
    never : (o : Option ℕ) → IfSome o (λ m. m < tick.at) → o ≡ Some tick.at → ⊥
    never None before is = let w : None ≡ Some tick.at = is in cc
    never (Some m) before is =
        let same : m ≡ tick.at = cc in
        let less : m < tick.at = before in
        omega (arith, less, same)

    by : (p : Piece) → slice_get pieces n ≡ Some p → (o : Option PodObs) → shown_of tick n ≡ o
        → (observed : PodObs) × (shown_of tick n ≡ Some observed)
    by p was None there =
        let same = same_piece new n p piece (are.absent n p was there) at in
        absurd (never (last_moment p.handed) (may.later n p was)
        (ap (λ (q : Piece). last_moment q.handed) same ∙ last))
    by p was (Some o) there = (o, there)

-- and one that it shows is present
pub shown_present : (pieces : List Piece) (tick : TickObs) (new : List Piece) (n : ℕ) (piece : Piece)
    (observed : PodObs) → MayBeHanded pieces tick → AreAfter pieces tick.pods new → slice_get new n ≡ Some piece
    → shown_of tick n ≡ Some observed → last_moment piece.handed ≡ Some tick.at
shown_present pieces tick new n piece observed may are at is =
    let lt = slice_get_within new n piece at in
    let p = given_at pieces n (omega (arith, lt, are.as_many)) in
    let here = are.each n p.0 observed p.1 (shown_at tick n observed is) in
    ap (λ (q : Piece). last_moment q.handed)
    (sym (same_piece new n (after_tick p.0 (pod_tick observed)) piece here at))
    ∙ last_moment-more (p.0).handed (pod_tick observed)
    ∙ ap Some (may.at_its_moment n observed is)

pub candidate_is_shown : CandidateIsShown
candidate_is_shown pods tick new n status fits are c =
    let shown = present_shown pods.pieces tick new n c.piece fits.handed are c.at c.present in
    subst (λ (o : Option PodObs). IsSome o) (sym shown.1) refl
