-- A node on which all pods of a trace have arrived may take all its ticks.
use Rattle.std.proofs.Common.{◌≡◌, ◌∙◌, ℕ, ◌-◌, ◌<◌, List, [], ◌∷◌, ◌++◌, length, take, append_assoc}
use Rattle.std.proofs.Common.{Option, Some, None, refl, ap, sym, subst, arith}
use Rattle.std.specs.Prelude.{slice_get, IfSome}
use Rattle.std.specs.Option.{option_flatten}
use Rattle.std.proofs.lemmas.List.{take_all}
use Rattle.std.proofs.lemmas.Option.{slice_get_within}
use Rattle.std.proofs.Math.Seq.{take-append_seam}
use Rattle.histories.specs.state.Histories.{EndsBefore}
use Rattle.histories.proofs.Lists.{given_at}
use Rattle.histories.proofs.Places.{length-more}
use Rattle.manifest.specs.declared.pod.PodSpec.{PodSpec}
use Rattle.node_config.specs.declared.node.NodeConfig.{NodeConfig}
use Rattle.observations.specs.rule.Pods.{PodObs}
use Rattle.observations.specs.declared.tick.TickObs.{TickObs}
use Rattle.observations.specs.rule.Observations.{shown_of}
use Rattle.pod_state.specs.rule.Pods.{PodTick, pod_tick}
use Rattle.pod_piece.specs.state.Listings.{IsNextTick}
use Rattle.pod_piece.specs.rule.Piece.{Piece}
use Rattle.eviction.specs.rule.Replay.{pod_ticks}
use Rattle.eviction.proofs.Own.{pod_ticks-more, pod_ticks-rest}
use Rattle.node_pods.specs.state.Pods.{after_one, after_each}
use Rattle.node_pods.proofs.Steps.{with_shown_at, with_shown_length}
use Rattle.node_rounds.specs.state.Node.{State, HasTaken, MayBeHandedAll, FitAll}
use Rattle.tick_round.specs.state.Node.{IsAfter, MayTakeAll}
use Rattle.kubelet_replay.specs.state.Ticks.{AreReplayable, HaveArrived, MayArrive}
use Rattle.kubelet_replay.proofs.NodeLemmas.{middle}

-- the pods that have had these ticks
record HaveHad (pods : List PodSpec) (front : List TickObs) (pieces : List Piece) : Type 0 where
  pub as_many : length pieces ≡ length pods
  pub each : (n : ℕ) (pod : PodSpec) → slice_get pods n ≡ Some pod
      → (p : Piece) × (slice_get pieces n ≡ Some p) × (p.pod ≡ pod) × (p.handed ≡ pod_ticks front n)

-- the last moment is that of one of them
abbrev IsLastOf : List TickObs → List TickObs → Option ℕ → Type 0
IsLastOf ticks front last =
    IfSome last (λ m. (t : ℕ) × (x : TickObs) × (t < length front) × (slice_get ticks t ≡ Some x) × (x.at ≡ m))

had_more : (pods : List PodSpec) (front : List TickObs) (x : TickObs) (pieces : List Piece) → HaveHad pods front pieces
    → HaveHad pods (front ++ x ∷ []) (after_each pieces x.pods)
had_more pods front x pieces had = record {
  as_many = with_shown_length after_one pieces x.pods ∙ had.as_many;
  each = λ n pod at.
      let w = had.each n pod at in (
        after_one w.0 (shown_of x n),
        with_shown_at after_one (λ p. refl) pieces x.pods n w.0 w.1,
        pod_of w.0 (shown_of x n) ∙ w.2,
        handed_of n w.0 (shown_of x n) refl w.3,
      );
}
  where
    pod_of : (p : Piece) (o : Option PodObs) → (after_one p o).pod ≡ p.pod
    pod_of p None = refl
    pod_of p (Some o) = refl

    handed_of : (n : ℕ) (p : Piece) (o : Option PodObs) → shown_of x n ≡ o → p.handed ≡ pod_ticks front n
        → (after_one p o).handed ≡ pod_ticks (front ++ x ∷ []) n
    handed_of n p None none is = is ∙ sym (pod_ticks-rest front x n none)
    handed_of n p (Some o) shown is =
        ap (λ (h : List PodTick). h ++ pod_tick o ∷ []) is ∙ sym (pod_ticks-more front x n o shown)

-- the ticks that are left may be handed to them
rest_may : (pods : List PodSpec) (ticks front rest : List TickObs) (pieces : List Piece) (last : Option ℕ)
    → AreReplayable pods ticks → ticks ≡ front ++ rest → HaveHad pods front pieces → IsLastOf ticks front last
    → MayBeHandedAll pieces last rest
rest_may pods ticks front [] pieces last may whole had is_last = tt
rest_may pods ticks front (x ∷ rest) pieces last may whole had is_last =
    let t = length front in
    let at : slice_get ticks t ≡ Some x = ap (λ (xs : List TickObs). slice_get xs t) whole ∙ middle front x rest in
    let cut : take t ticks ≡ front = ap (take t) whole ∙ take-append_seam front (x ∷ rest) in (
      record {
        next = record {
          within = omega (arith, had.as_many, may.within t x at);
          each = λ n p o here there.
              let lt = slice_get_within pieces n p here in
              let pod = given_at pods n (omega (arith, lt, had.as_many)) in
              let w = had.each n pod.0 pod.1 in
              let same : w.0 ≡ p = (let both : Some w.0 ≡ Some p = sym w.1 ∙ here in cc) in
              let next : IsNextTick pod.0 (pod_ticks front n) (pod_tick o) =
              subst (λ (h : List TickObs). IsNextTick pod.0 (pod_ticks h n) (pod_tick o)) cut
              (may.next t n x pod.0 o at pod.1 (ap option_flatten there)) in
              subst (λ (q : Piece). IsNextTick q.pod q.handed (pod_tick o)) same
              (subst (λ (s : PodSpec). IsNextTick s (w.0).handed (pod_tick o)) (sym w.2)
              (subst (λ (h : List PodTick). IsNextTick pod.0 h (pod_tick o)) (sym w.3) next));
        };
        at_its_moment = λ n o is. may.moments t n x o at is;
        later = λ n p here.
            let lt = slice_get_within pieces n p here in
            let pod = given_at pods n (omega (arith, lt, had.as_many)) in
            let w = had.each n pod.0 pod.1 in
            let same : w.0 ≡ p = (let both : Some w.0 ≡ Some p = sym w.1 ∙ here in cc) in
            subst (λ (q : Piece). EndsBefore q.handed x.at) same
            (subst (λ (h : List PodTick). EndsBefore h x.at) (sym w.3)
            (subst (λ (h : List TickObs). EndsBefore (pod_ticks h n) x.at) cut (may.ends t n x at)));
      },
      by last is_last at,
      rest_may pods ticks (front ++ x ∷ []) rest (after_each pieces x.pods) (Some x.at) may
          (whole ∙ sym (append_assoc front (x ∷ []) rest)) (had_more pods front x pieces had)
          (t, x, omega (arith, length-more front x), at, refl),
    )
  where
    by : (o : Option ℕ) → IsLastOf ticks front o → slice_get ticks (length front) ≡ Some x
        → IfSome o (λ m. m < x.at)
    by None w at = tt
    by (Some m) w at =
        let lt = may.rising w.0 (length front) w.1 x w.2 w.3 at in
        omega (arith, lt, w.4)

-- so all ticks may be taken, where none was
pub all_may : (pods : List PodSpec) (ticks : List TickObs) (s : State) → AreReplayable pods ticks
    → HasTaken pods [] s → FitAll s ticks
all_may pods ticks s may taken = record {
  few = omega (arith, taken.replay.as_many, may.few_ticks);
  handed = rest_may pods ticks [] ticks s.pods.pieces s.last may refl (record {
    as_many = taken.pieces.as_many;
    each = λ n pod at. (_, taken.pieces.each n pod at, refl, refl);
  }) (subst (λ (o : Option ℕ). IsLastOf ticks [] o) (sym taken.last_is) tt);
}

pub may_take_all : (config : NodeConfig) (pods : List PodSpec) (ticks : List TickObs) (node : Option State)
    → AreReplayable pods ticks → IsAfter config pods [] node → MayTakeAll node ticks
may_take_all config pods ticks None may after = absurd after
may_take_all config pods ticks (Some s) may after = all_may pods ticks s may after.1

-- all pods have arrived
pub have_all : (config : NodeConfig) (pods left : List PodSpec) (old new : Option State) (rest : List PodSpec)
    → left ≡ pods → IsAfter config [] [] old → HaveArrived left (length left - 0) old new rest
    → IsAfter config pods [] new
have_all config pods left old new rest is after have =
    subst (λ (ps : List PodSpec). IsAfter config ps [] new)
    (ap (λ (ps : List PodSpec). take (length ps - 0) ps) is ∙ take_all (length pods - 0) pods (omega arith))
    (have.arrived config [] [] after)

pub may_all_arrive : (config : NodeConfig) (pods left : List PodSpec) (ticks : List TickObs) (new : Option State)
    → left ≡ pods → AreReplayable pods ticks → IsAfter config [] [] new → MayArrive (length left - 0) new
may_all_arrive config pods left ticks new is may after = record {
  config = config;
  arrived = [];
  taken = [];
  after = after;
  room = omega (arith, ap length is, may.few_pods);
}
