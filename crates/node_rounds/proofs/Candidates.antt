-- The candidates and the eviction of a tick, by a node's pieces and by its history.
use Rattle.std.proofs.Common.{◌≡◌, ℕ, Bool, true, false, List, [], ◌∷◌, ◌++◌}
use Rattle.std.proofs.Common.{Option, Some, None, refl, sym, ap, subst, ◌∙◌}
use Rattle.std.specs.Prelude.{◌↔◌, IsSome, IfSome, slice_get, option_map}
use Rattle.std.proofs.lemmas.Option.{slice_get-map}
use Rattle.std.proofs.lemmas.List.{length-map}
use Rattle.histories.specs.rule.Histories.{last_moment}
use Rattle.histories.proofs.Lists.{some_given, same_places}
use Rattle.manifest.specs.declared.pod.PodSpec.{PodSpec}
use Rattle.node_config.specs.declared.node.NodeConfig.{NodeConfig}
use Rattle.observations.specs.rule.Pods.{PodObs}
use Rattle.observations.specs.declared.tick.TickObs.{TickObs}
use Rattle.observations.specs.rule.Observations.{shown_of}
use Rattle.node_signals.specs.declared.key.ThresholdKey.{ThresholdKey}
use Rattle.node_signals.specs.rule.Thresholds.{IsServed}
use Rattle.pod_piece.specs.declared.order.EvictOrder.{EvictOrder}
use Rattle.pod_piece.specs.declared.status.PodStatus.{PodStatus}
use Rattle.pod_piece.specs.rule.Piece.{Piece}
use Rattle.pod_piece.specs.state.Piece.{pods_in}
use Rattle.pod_piece.specs.state.Status.{IsStatusOf}
use Rattle.ranking.proofs.LawLemmas.{same_victim}
use Rattle.eviction.specs.declared.eviction.Eviction.{Eviction}
use Rattle.eviction.specs.rule.Replay.{IsCandidate as IsCandidateIn, IsOfVictim, IsEvictionFor, is_paused}
use Rattle.eviction.specs.rule.Replay.{unless_paused, unless_recorded, IsChoiceOfTick}
use Rattle.node_pods.specs.state.Pods.{IsCandidate, MayBeHanded, AreAfter}
use Rattle.node_pods.proofs.Kept.{present_shown, shown_present}
use Rattle.node_rounds.specs.state.Evict.{IsChoiceAt, MayBeCarriedOut}
use Rattle.node_rounds.specs.state.Node.{piece_after, ArePieces}
use Rattle.node_rounds.proofs.Pieces.{pod_at}

-- the pods that are present at the tick, by the last moments of their pieces, are those that the tick shows
abbrev pub ArePresent : List Piece → TickObs → Type 0
ArePresent pieces tick = (n : ℕ) (piece : Piece) → slice_get pieces n ≡ Some piece
    → (last_moment piece.handed ≡ Some tick.at ↔ IsSome (shown_of tick n))

pub are_present : (pieces : List Piece) (tick : TickObs) (mid : List Piece) → MayBeHanded pieces tick
    → AreAfter pieces tick.pods mid → ArePresent mid tick
are_present pieces tick mid may after n piece at = (
  (λ last.
      let shown = present_shown pieces tick mid n piece may after at last in
      subst (λ (o : Option PodObs). IsSome o) (sym shown.1) refl),
  (λ present.
      let shown = some_given (shown_of tick n) present in
      shown_present pieces tick mid n piece shown.0 may after at shown.1),
)

-- a node's candidates are those of its history
candidates : (config : NodeConfig) (pods : List PodSpec) (before : List TickObs) (tick : TickObs)
    (es : List (Option Eviction)) (pieces : List Piece)
    → ArePresent pieces tick → ArePieces config pods (before ++ tick ∷ []) es pieces
    → (n : ℕ) (p : PodStatus) → (IsCandidate pieces tick.at n p ↔ IsCandidateIn pods before tick es n p)
candidates config pods before tick es pieces present are n p = (
  (λ c.
      let here = pod_at config pods (before ++ tick ∷ []) es pieces n c.piece are c.at in
      record {
        pod = here.0;
        at = here.1;
        present = (present n c.piece c.at).0 c.present;
        is_status = subst (λ (piece : Piece). IsStatusOf piece p) here.2 c.is_status;
        may = c.may;
      }),
  (λ r.
      let piece = piece_after config (before ++ tick ∷ []) es n r.pod in
      record {
        piece = piece;
        at = are.each n r.pod r.at;
        present = (present n piece (are.each n r.pod r.at)).1 r.present;
        is_status = r.is_status;
        may = r.may;
      }),
)

pub pods_are : (config : NodeConfig) (pods : List PodSpec) (ticks : List TickObs) (es : List (Option Eviction))
    (pieces : List Piece)
    → ArePieces config pods ticks es pieces → pods_in pieces ≡ pods
pods_are config pods ticks es pieces are =
    let pod_of : Piece → PodSpec = λ (piece : Piece). piece.pod in
    same_places (pods_in pieces) pods (length-map pieces pod_of ∙ are.as_many) (λ n x y here there.
    let both : Some x ≡ Some y =
    sym here ∙ (slice_get-map pod_of pieces n ∙ ap (option_map pod_of) (are.each n y there)) in
    cc)

-- the choice by the node's pieces is that of the round
pub round_of : (config : NodeConfig) (pods : List PodSpec) (before : List TickObs) (tick : TickObs)
    (es : List (Option Eviction)) (pieces : List Piece)
    (served : Option ThresholdKey) (choice : Option Eviction)
    → ArePresent pieces tick → ArePieces config pods (before ++ tick ∷ []) es pieces
    → IsServed config.eviction before tick served
    → IsChoiceAt config pieces tick.at
    (unless_paused (is_paused config tick.at (before ++ tick ∷ []) es) served) choice
    → IsChoiceOfTick config pods before tick es choice
round_of config pods before tick es pieces served choice present are is by =
    let paused = is_paused config tick.at (before ++ tick ∷ []) es in
    record { served = served; is_served = is; is_for = for (unless_paused paused served) by }
  where
    for : (served : Option ThresholdKey) → IsChoiceAt config pieces tick.at served choice
        → IsEvictionFor config pods before tick es served choice
    for None by = by
    for (Some key) (victim, first, of) = (
      victim,
      same_victim key.signal config.has_dedicated_imagefs (IsCandidate pieces tick.at)
          (IsCandidateIn pods before tick es) (candidates config pods before tick es pieces present are) victim first,
      subst (λ (ps : List PodSpec). IsOfVictim config ps tick.at key victim choice)
          (pods_are config pods (before ++ tick ∷ []) es pieces are) of,
    )

-- who is evicted was chosen
abbrev pub IsChosenAt : NodeConfig → List Piece → ℕ → Option ThresholdKey → Option Eviction → Type 0
IsChosenAt config pieces at served eviction = IfSome eviction (λ e. IsChoiceAt config pieces at served (Some e))

pub is_chosen : (config : NodeConfig) (pieces : List Piece) (at : ℕ) (served : Option ThresholdKey) (recorded : Bool)
    (choice eviction : Option Eviction) → IsChoiceAt config pieces at served choice
    → eviction ≡ unless_recorded recorded choice → IsChosenAt config pieces at served eviction
is_chosen config pieces at served recorded choice None by carried = tt
is_chosen config pieces at served true choice (Some e) by carried = absurd (cc)
is_chosen config pieces at served false choice (Some e) by carried =
    subst (λ (o : Option Eviction). IsChoiceAt config pieces at served o) (sym carried) by

-- the eviction may be carried out
pub may_be_carried_out : (config : NodeConfig) (pieces : List Piece) (at : ℕ) (served : Option ThresholdKey)
    (eviction : Option Eviction) → IsChosenAt config pieces at served eviction → MayBeCarriedOut pieces eviction
may_be_carried_out config pieces at served None by = tt
may_be_carried_out config pieces at None (Some e) by = absurd (cc)
may_be_carried_out config pieces at (Some key) (Some e) (None, is, of) = absurd (cc)
may_be_carried_out config pieces at (Some key) (Some e) (Some n, (status, candidate, first), of) =
    let here : n ≡ e.pod = sym of.number in
    let moment : at ≡ e.order.at = sym (ap (λ (o : EvictOrder). o.at) of.order) in (
      status,
      subst (λ (m : ℕ). IsCandidate pieces m e.pod status) moment
          (subst (λ (k : ℕ). IsCandidate pieces at k status) here candidate),
    )

-- its moment is that of the tick
pub evicts_now : (config : NodeConfig) (pieces : List Piece) (at : ℕ) (served : Option ThresholdKey) (e : Eviction)
    → IsChoiceAt config pieces at served (Some e) → e.order.at ≡ at
evicts_now config pieces at None e by = absurd (cc)
evicts_now config pieces at (Some key) e (None, is, of) = absurd (cc)
evicts_now config pieces at (Some key) e (Some n, first, of) = ap (λ (o : EvictOrder). o.at) of.order
