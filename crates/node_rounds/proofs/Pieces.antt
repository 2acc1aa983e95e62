-- The pieces of a node after one more tick and its eviction.
use Rattle.std.proofs.Common.{◌≡◌, inl, inr, ℕ, zero, suc, ◌-◌, ◌<◌, ◌≤◌, List, [], ◌∷◌, ◌++◌, length, map, take}
use Rattle.std.proofs.Common.{Option, Some, None, refl, sym, ap, subst, ◌∙◌, arith}
use Rattle.std.specs.Prelude.{slice_get, option_map}
use Rattle.std.specs.List.{cons_option}
use Rattle.std.proofs.lemmas.Bool.{cases_eq}
use Rattle.std.proofs.lemmas.List.{length-take-le}
use Rattle.std.proofs.lemmas.Option.{slice_get_within}
use Rattle.histories.specs.rule.Histories.{up_to, HoldsAt}
use Rattle.histories.proofs.Places.{length-more}
use Rattle.histories.proofs.Lists.{given_at}
use Rattle.manifest.specs.declared.pod.PodSpec.{PodSpec}
use Rattle.observations.specs.rule.Pods.{PodObs}
use Rattle.observations.specs.declared.tick.TickObs.{TickObs}
use Rattle.observations.specs.rule.Observations.{shown_of, own_ticks}
use Rattle.node_config.specs.declared.node.NodeConfig.{NodeConfig}
use Rattle.phase.specs.declared.phase.Phase.{Phase}
use Rattle.phase.specs.rule.RawPhase.{IsTerminal}
use Rattle.phase.proofs.DecideLemmas.{terminal_cases}
use Rattle.pod_state.specs.rule.Pods.{PodTick, pod_tick, EndsPod, IsPhase}
use Rattle.pod_state.proofs.EndLemmas.{lives}
use Rattle.pod_piece.specs.declared.piece.EvictionRecord.{EvictionRecord}
use Rattle.pod_piece.specs.declared.status.PodFailure.{PodFailure}
use Rattle.pod_piece.specs.declared.status.PodStatus.{PodStatus}
use Rattle.pod_piece.specs.rule.Status.{IsFailure}
use Rattle.pod_piece.specs.rule.Piece.{Piece}
use Rattle.pod_piece.specs.state.Status.{IsStatusOf}
use Rattle.eviction.specs.declared.eviction.Eviction.{Eviction}
use Rattle.eviction.specs.rule.Replay.{EvictedAt, pod_ticks, evicted_at, own_eviction}
use Rattle.eviction.proofs.Own.{pod_ticks-more, pod_ticks-rest, own_eviction-longer, own_eviction-other}
use Rattle.eviction.proofs.Own.{own_eviction-now}
use Rattle.node_pods.specs.state.Pods.{IsCandidate, AreAfter, AreEvicted}
use Rattle.node_pods.proofs.Steps.{shown_at}
use Rattle.node_rounds.specs.state.Node.{piece_after, ArePieces}

-- a piece by its fields
abbrev pub made : ℕ → PodSpec → ℕ → List PodTick → Option EvictionRecord → Piece
made number pod max_restart_delay handed eviction =
    record {
      number = number;
      pod = pod;
      max_restart_delay = max_restart_delay;
      handed = handed;
      waiting = 0;
      begun = length handed;
      eviction = eviction;
    }

-- the pod at a place, of a piece at that place
pub pod_at : (config : NodeConfig) (pods : List PodSpec) (ticks : List TickObs) (es : List (Option Eviction))
    (pieces : List Piece) (n : ℕ) (piece : Piece)
    → ArePieces config pods ticks es pieces → slice_get pieces n ≡ Some piece
    → (pod : PodSpec) × (slice_get pods n ≡ Some pod) × (piece ≡ piece_after config ticks es n pod)
pod_at config pods ticks es pieces n piece are at =
    let lt : n < length pieces = slice_get_within pieces n piece at in
    let many : length pieces ≡ length pods = are.as_many in
    let here = given_at pods n (omega arith) in
    let both : Some piece ≡ Some (piece_after config ticks es n here.0) = sym at ∙ are.each n here.0 here.1 in
    (here.0, here.1, let same : piece ≡ piece_after config ticks es n here.0 = cc in same)

-- after the update
pub pieces_updated : (config : NodeConfig) (pods : List PodSpec) (ticks : List TickObs) (es : List (Option Eviction))
    (x : TickObs) (old new : List Piece)
    → length es ≡ length ticks
    → ArePieces config pods ticks es old → AreAfter old x.pods new → ArePieces config pods (ticks ++ x ∷ []) es new
pieces_updated config pods ticks es x old new len are after = record {
  as_many = after.as_many ∙ are.as_many;
  each = λ n pod at. by n pod at (shown_of x n) refl;
}
  where
    eviction : (n : ℕ) → own_eviction n ticks es ≡ own_eviction n (ticks ++ x ∷ []) es
    eviction n = sym (own_eviction-longer n ticks x es len)

    grown : (n : ℕ) (pod : PodSpec) (h : List PodTick) → h ≡ pod_ticks (ticks ++ x ∷ []) n
        → Some (made n pod config.max_restart_delay h (own_eviction n ticks es))
        ≡ Some (piece_after config (ticks ++ x ∷ []) es n pod)
    grown n pod h handed =
        ap (λ k. Some (made n pod config.max_restart_delay k (own_eviction n ticks es))) handed
        ∙ ap (λ e. Some (made n pod config.max_restart_delay (pod_ticks (ticks ++ x ∷ []) n) e)) (eviction n)

    by : (n : ℕ) (pod : PodSpec) → slice_get pods n ≡ Some pod → (o : Option PodObs) → shown_of x n ≡ o
        → slice_get new n ≡ Some (piece_after config (ticks ++ x ∷ []) es n pod)
    by n pod at None none =
        after.absent n (piece_after config ticks es n pod) (are.each n pod at) none
        ∙ grown n pod (pod_ticks ticks n) (sym (pod_ticks-rest ticks x n none))
    by n pod at (Some o) there =
        after.each n (piece_after config ticks es n pod) o (are.each n pod at) (shown_at x n o there)
        ∙ grown n pod (pod_ticks ticks n ++ pod_tick o ∷ [])
        (sym (pod_ticks-more ticks x n o there))

-- a pod whose eviction was at one of its ticks has ended
evicted_ends : (pod : PodSpec) (place : ℕ) (h : List PodTick) (p : Phase) → IsPhase pod (Some place) h p
    → place < length h → IsTerminal p
evicted_ends pod place h p is lt = elim (terminal_cases p) [
  | inl ended ↦ ended
  | inr still ↦
      let none = lives pod (Some place) h p is still in
      let cut : length (up_to h place) ≡ suc place = length-take-le (suc place) h (omega arith) in
      let so : HoldsAt (EndsPod pod (Some place)) h place = record { within = lt; so = inr (place, cut, inl refl) } in
      absurd (none place so)
]

pub fewer : (ticks : List TickObs) (k n : ℕ) → length (pod_ticks (take k ticks) n) ≤ length (pod_ticks ticks n)
fewer ticks zero n = omega arith
fewer [] (suc k) n = omega arith
fewer (x ∷ ticks) (suc k) n = by (shown_of x n) (fewer ticks k n)
  where
    by : (o : Option PodObs) → length (pod_ticks (take k ticks) n) ≤ length (pod_ticks ticks n)
        → length (map pod_tick (cons_option o (own_ticks (take k ticks) n))) ≤ length
        (map pod_tick (cons_option o (own_ticks ticks n)))
    by None le = le
    by (Some shown) le = omega arith

-- a candidate was not evicted before
pub candidate_not_evicted : (config : NodeConfig) (pods : List PodSpec) (ticks : List TickObs)
    (es : List (Option Eviction)) (x : TickObs) (pieces : List Piece) (n : ℕ) (status : PodStatus) (shown : PodObs)
    → length es ≡ length ticks → shown_of x n ≡ Some shown → ArePieces config pods (ticks ++ x ∷ []) es pieces
    → IsCandidate pieces x.at n status
    → own_eviction n (ticks ++ x ∷ []) es ≡ None
candidate_not_evicted config pods ticks es x pieces n status shown len present are candidate =
    let here = pod_at config pods (ticks ++ x ∷ []) es pieces n candidate.piece are candidate.at in
    let is : IsStatusOf (piece_after config (ticks ++ x ∷ []) es n here.0) status =
    subst (λ (p : Piece). IsStatusOf p status) here.2 candidate.is_status in
    none here.0 shown present (own_eviction n ticks es) (λ e found. before e found)
    (own_eviction-longer n ticks x es len) is.lifecycle.phase is.failure
  where
    before : (e : EvictionRecord) → own_eviction n ticks es ≡ Some e → e.place ≤ length (pod_ticks ticks n)
    before e found = by (evicted_at n es) found
      where
        by : (o : Option EvictedAt)
            → option_map
            (λ (f : EvictedAt). record { place = length (pod_ticks (take f.tick ticks) n); order = f.order }) o
            ≡ Some e → e.place ≤ length (pod_ticks ticks n)
        by None f = absurd (cc)
        by (Some f) is =
            let same : record { place = length (pod_ticks (take f.tick ticks) n); order = f.order } ≡ e = cc in
            let place : length (pod_ticks (take f.tick ticks) n) ≡ e.place =
            ap (λ (v : EvictionRecord). v.place) same in
            let le : length (pod_ticks (take f.tick ticks) n) ≤ length (pod_ticks ticks n) =
            fewer ticks f.tick n in omega arith

    none : (pod : PodSpec) (o : PodObs) → shown_of x n ≡ Some o → (e : Option EvictionRecord)
        → ((v : EvictionRecord) → e ≡ Some v → v.place ≤ length (pod_ticks ticks n))
        → own_eviction n (ticks ++ x ∷ []) es ≡ e
        → IsPhase pod (option_map (λ (v : EvictionRecord). v.place) (own_eviction n (ticks ++ x ∷ []) es))
        (pod_ticks (ticks ++ x ∷ []) n) status.phase
        → IsFailure pod (own_eviction n (ticks ++ x ∷ []) es) (pod_ticks (ticks ++ x ∷ []) n) status.failure
        → own_eviction n (ticks ++ x ∷ []) es ≡ None
    none pod o at None below is phase failure = is
    none pod o at (Some v) below is phase failure =
        let le : v.place ≤ length (pod_ticks ticks n) = below v refl in
        let grown : length (pod_ticks (ticks ++ x ∷ []) n) ≡ suc (length (pod_ticks ticks n)) =
        ap length (pod_ticks-more ticks x n o at) ∙ length-more (pod_ticks ticks n) (pod_tick o) in
        let now : IsPhase pod (Some v.place) (pod_ticks (ticks ++ x ∷ []) n) status.phase =
        subst (λ (e : Option EvictionRecord). IsPhase pod (option_map (λ (v : EvictionRecord). v.place) e)
        (pod_ticks (ticks ++ x ∷ []) n) status.phase) is phase in
        let says =
        candidate.may.lives (evicted_ends pod v.place (pod_ticks (ticks ++ x ∷ []) n) status.phase now (omega arith)) in
        let silent : status.failure ≡ None = subst (λ (e : Option EvictionRecord).
        IsFailure pod e (pod_ticks (ticks ++ x ∷ []) n) status.failure) is failure in
        absurd (let w : None ≡ Some x.at =
        sym (ap (option_map (λ (f : PodFailure). f.at)) silent) ∙ says in cc)

-- after the eviction
pub pieces_evicted : (config : NodeConfig) (pods : List PodSpec) (ticks : List TickObs) (es : List (Option Eviction))
    (x : TickObs) (e : Eviction) (old new : List Piece) (status : PodStatus) (shown : PodObs)
    → length es ≡ length ticks → shown_of x e.pod ≡ Some shown
    → ArePieces config pods (ticks ++ x ∷ []) es old → IsCandidate old x.at e.pod status
    → AreEvicted old e.pod e.order new → ArePieces config pods (ticks ++ x ∷ []) (es ++ Some e ∷ []) new
pieces_evicted config pods ticks es x e old new status shown len present are candidate evicted = record {
  as_many = evicted.as_many ∙ are.as_many;
  each = λ n pod at. elim (cases_eq n e.pod) [
    | inl here ↦
        let at' : slice_get pods e.pod ≡ Some pod = subst (λ (k : ℕ). slice_get pods k ≡ Some pod) here at in
        let grown : length (pod_ticks (ticks ++ x ∷ []) e.pod) ≡ suc (length (pod_ticks ticks e.pod)) =
        ap length (pod_ticks-more ticks x e.pod shown present)
        ∙ length-more (pod_ticks ticks e.pod) (pod_tick shown) in
        let last : length (pod_ticks (ticks ++ x ∷ []) e.pod) - 1 ≡ length (pod_ticks ticks e.pod) = omega arith in
        let never =
        candidate_not_evicted config pods ticks es x old e.pod status shown len present are candidate in
        let now = own_eviction-now e.pod ticks x es e len never refl in
        let done : slice_get new e.pod ≡ Some (piece_after config (ticks ++ x ∷ []) (es ++ Some e ∷ []) e.pod pod) =
        evicted.here (piece_after config (ticks ++ x ∷ []) es e.pod pod) (are.each e.pod pod at')
        ∙ ap (λ (k : ℕ). Some
        (made e.pod pod config.max_restart_delay (pod_ticks (ticks ++ x ∷ []) e.pod)
        (Some (record { place = k; order = e.order })))) last
        ∙ ap (λ (v : Option EvictionRecord). Some
        (made e.pod pod config.max_restart_delay (pod_ticks (ticks ++ x ∷ []) e.pod) v)) (sym now) in
        subst (λ (k : ℕ). slice_get new k ≡ Some (piece_after config (ticks ++ x ∷ []) (es ++ Some e ∷ []) k pod))
        (sym here) done
    | inr apart ↦
        evicted.others n apart ∙ are.each n pod at
        ∙ ap (λ (v : Option EvictionRecord). Some
        (made n pod config.max_restart_delay (pod_ticks (ticks ++ x ∷ []) n) v))
        (sym (own_eviction-other n (ticks ++ x ∷ []) es (Some e) (λ is. apart (sym is))))
  ];
}

-- without one
pub pieces_spared : (config : NodeConfig) (pods : List PodSpec) (ticks : List TickObs) (es : List (Option Eviction))
    (old : List Piece)
    → ArePieces config pods ticks es old → ArePieces config pods ticks (es ++ None ∷ []) old
pieces_spared config pods ticks es old are = record {
  as_many = are.as_many;
  each = λ n pod at.
      are.each n pod at
      ∙ ap (λ (v : Option EvictionRecord). Some (made n pod config.max_restart_delay (pod_ticks ticks n) v))
      (sym (own_eviction-other n ticks es None (λ is. is)));
}
