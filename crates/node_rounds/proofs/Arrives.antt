-- A node with one more pod.
use Rattle.std.proofs.Common.{◌≡◌, inl, inr, ℕ, zero, suc, ◌<◌, ◌≤◌, List, [], ◌∷◌, ◌++◌, length, map}
use Rattle.std.proofs.Common.{take, Option, Some, None, refl, sym, ap, subst, ◌∙◌, arith}
use Rattle.std.specs.List.{cons_option}
use Rattle.std.specs.Option.{option_flatten}
use Rattle.std.specs.Prelude.{slice_get, option_map}
use Rattle.std.proofs.lemmas.Option.{slice_get_within, slice_get_past}
use Rattle.histories.proofs.Places.{length-more}
use Rattle.histories.proofs.Lists.{place_split, given_at, slice_get-new}
use Rattle.manifest.specs.declared.pod.PodSpec.{PodSpec}
use Rattle.manifest.specs.rule.Containers.{most_containers}
use Rattle.node_config.specs.declared.node.NodeConfig.{NodeConfig}
use Rattle.observations.specs.rule.Observations.{own_ticks}
use Rattle.observations.specs.rule.Pods.{PodObs}
use Rattle.observations.specs.declared.tick.TickObs.{TickObs}
use Rattle.observations.specs.rule.Limits.{most_pods}
use Rattle.node_signals.specs.declared.key.ThresholdKey.{ThresholdKey}
use Rattle.pod_state.specs.rule.Pods.{PodTick, pod_tick}
use Rattle.pod_piece.specs.declared.piece.EvictionRecord.{EvictionRecord}
use Rattle.pod_piece.specs.rule.Piece.{Piece}
use Rattle.pod_piece.specs.state.Piece.{new_piece, pods_in}
use Rattle.eviction.specs.declared.eviction.Eviction.{Eviction}
use Rattle.eviction.specs.rule.Replay.{EvictedAt, pod_ticks, own_eviction}
use Rattle.eviction.specs.state.Pausing.{kept}
use Rattle.eviction.specs.rule.Replay.{IsEvictionFor, is_paused, unless_paused, IsEvictionOfTick}
use Rattle.eviction.proofs.Arrived.{choice_arrived}
use Rattle.eviction.proofs.Evicted.{chosen}
use Rattle.eviction.proofs.Own.{evicted_none}
use Rattle.node_pods.specs.state.Pods.{Pods, with_pod}
use Rattle.event_list.proofs.More.{events_arrived}
use Rattle.node_rounds.specs.state.Node.{State, state, piece_after, HasTaken}
use Rattle.node_rounds.specs.state.Round.{AreFew, IsKept}
use Rattle.node_rounds.proofs.GoesOn.{kept_by}
use Rattle.node_rounds.proofs.Pieces.{made}

get_left : {A : Type 0} (xs : List A) (y : A) (n : ℕ) (x : A) → slice_get xs n ≡ Some x
    → slice_get (xs ++ y ∷ []) n ≡ Some x
get_left [] y n x e = absurd (cc)
get_left (z ∷ xs) y zero x e = e
get_left (z ∷ xs) y (suc n) x e = get_left xs y n x e

-- a pod that no tick shows has no ticks
unshown : (ticks : List TickObs) (n : ℕ)
    → ((t : ℕ) (tick : TickObs) → slice_get ticks t ≡ Some tick → length tick.pods ≤ n) → pod_ticks ticks n ≡ []
unshown [] n none = refl
unshown (x ∷ ticks) n none =
    ap (λ (o : Option PodObs). map pod_tick (cons_option o (own_ticks ticks n)))
    (ap option_flatten (slice_get_past x.pods n (none 0 x refl)))
    ∙ unshown ticks n (λ t tick at. none (suc t) tick at)

-- the round of an earlier tick does not see the pod
same_round : (config : NodeConfig) (pods : List PodSpec) (pod : PodSpec) (before : List TickObs) (tick : TickObs)
    (es : List (Option Eviction)) (eviction : Option Eviction)
    → length tick.pods ≤ length pods → IsEvictionOfTick config pods before tick es eviction
    → IsEvictionOfTick config (pods ++ pod ∷ []) before tick es eviction
same_round config pods pod before tick es eviction fewer r = record {
  choice = r.choice;
  is_choice = choice_arrived config pods pod before tick es r.choice fewer r.is_choice;
  is_carried = r.is_carried;
}

-- who is evicted is one of the pods
evicted_below : (config : NodeConfig) (pods : List PodSpec) (before : List TickObs) (tick : TickObs)
    (es : List (Option Eviction)) (e : Eviction)
    → IsEvictionOfTick config pods before tick es (Some e) → e.pod < length pods
evicted_below config pods before tick es e r =
    let choice = chosen config pods before tick es e r in
    by (unless_paused (is_paused config tick.at (before ++ tick ∷ []) es) choice.served) choice.is_for
  where
    by : (served : Option ThresholdKey) → IsEvictionFor config pods before tick es served (Some e)
        → e.pod < length pods
    by None is = absurd (cc)
    by (Some key) (None, is, v) = absurd (cc)
    by (Some key) (Some n, is, v) =
        let lt : n < length pods = slice_get_within pods n v.pod v.is_pod in
        let here : e.pod ≡ n = v.number in omega arith

-- the pod is one of the node's
abbrev with_arrived : State → PodSpec → State
with_arrived s pod =
    state s.config s.signals (with_pod s.pods pod) (kept s.evictions s.pausing) s.events s.totals s.last

abbrev pieces_with : State → PodSpec → List Piece
pieces_with s pod = s.pods.pieces ++ new_piece (length s.pods.pieces) pod s.pods.max_restart_delay ∷ []

-- it has no eviction
never : (pods : List PodSpec) (ticks : List TickObs) (s : State) → HasTaken pods ticks s
    → own_eviction (length pods) ticks s.evictions ≡ None
never pods ticks s taken =
    ap
    (option_map (λ (f : EvictedAt).
    record { place = length (pod_ticks (take f.tick ticks) (length pods)); order = f.order }))
    (evicted_none (length pods) s.evictions (λ t e is here.
    let lt : t < length s.evictions = slice_get_within s.evictions t (Some e) is in
    let many : length s.evictions ≡ length ticks = taken.replay.as_many in
    let tick = given_at ticks t (omega arith) in
    let below : e.pod < length pods =
    evicted_below s.config pods (take t ticks) tick.0 (take t s.evictions) e
    (taken.replay.each t tick.0 (Some e) tick.1 is) in
    omega arith))

-- its piece is that of a pod without ticks
newest : (pods : List PodSpec) (ticks : List TickObs) (s : State) (pod : PodSpec) (n : ℕ) (p : PodSpec)
    → HasTaken pods ticks s → n ≡ length pods → pod ≡ p
    → slice_get (pieces_with s pod) n ≡ Some (piece_after s.config ticks s.evictions n p)
newest pods ticks s pod n p taken here same =
    let many : length s.pods.pieces ≡ length pods = taken.pieces.as_many in
    let none : [] ≡ pod_ticks ticks (length pods) = sym (unshown ticks (length pods) taken.shown) in
    let last : slice_get (pieces_with s pod) (length pods)
    ≡ Some (new_piece (length s.pods.pieces) pod s.pods.max_restart_delay) =
    subst
    (λ (k : ℕ). slice_get (pieces_with s pod) k ≡ Some (new_piece (length s.pods.pieces) pod s.pods.max_restart_delay))
    many (slice_get-new s.pods.pieces (new_piece (length s.pods.pieces) pod s.pods.max_restart_delay)) in
    let delay = s.config.max_restart_delay in
    let done : slice_get (pieces_with s pod) (length pods)
    ≡ Some (piece_after s.config ticks s.evictions (length pods) pod) =
    last ∙ ap (λ (k : ℕ). Some (made k pod s.pods.max_restart_delay [] None)) many
    ∙ ap (λ (k : ℕ). Some (made (length pods) pod k [] None)) taken.max_restart_delay
    ∙ ap (λ (h : List PodTick). Some (made (length pods) pod delay h None)) none
    ∙ ap (λ (e : Option EvictionRecord). Some (made (length pods) pod delay (pod_ticks ticks (length pods)) e))
    (sym (never pods ticks s taken)) in
    let P : ℕ → Type 0 = λ k.
    slice_get (pieces_with s pod) k ≡ Some (piece_after s.config ticks s.evictions k pod) in
    let Q : PodSpec → Type 0 = λ q.
    slice_get (pieces_with s pod) n ≡ Some (piece_after s.config ticks s.evictions n q) in
    subst Q same (subst P (sym here) done)

pub arrives : (pods : List PodSpec) (ticks : List TickObs) (s : State) (pod : PodSpec) → HasTaken pods ticks s
    → length s.pods.pieces < most_pods → HasTaken (pods ++ pod ∷ []) ticks (with_arrived s pod)
arrives pods ticks s pod taken room = record {
  replay = record {
    as_many = taken.replay.as_many;
    each = λ t tick eviction at is.
        same_round s.config pods pod (take t ticks) tick (take t s.evictions) eviction (taken.shown t tick at)
        (taken.replay.each t tick eviction at is);
  };
  pieces = record {
    as_many =
        omega (
          arith,
          many,
          more,
          length-more s.pods.pieces (new_piece (length s.pods.pieces) pod s.pods.max_restart_delay),
        );
    each = λ n p at. elim (place_split pods pod p n at) [
      | inl old ↦
          get_left s.pods.pieces (new_piece (length s.pods.pieces) pod s.pods.max_restart_delay) n
          (piece_after s.config ticks s.evictions n p) (taken.pieces.each n p old)
      | inr w ↦ newest pods ticks s pod n p taken w.0 w.1
    ];
  };
  events = events_arrived s.config pods pod ticks s.evictions s.events taken.events;
  totals = taken.totals;
  signals = taken.signals;
  pausing = taken.pausing;
  max_restart_delay = taken.max_restart_delay;
  dedicated = taken.dedicated;
  shown = λ t tick at. let le : length tick.pods ≤ length pods = taken.shown t tick at in omega (arith, le, more);
  last_is = taken.last_is;
  few_ticks = taken.few_ticks;
  few_pods = let most : length s.pods.pieces < most_pods = room in omega (arith, many, more, most);
}
  where
    many : length s.pods.pieces ≡ length pods
    many = taken.pieces.as_many

    more : length (pods ++ pod ∷ []) ≡ suc (length pods)
    more = length-more pods pod

-- the same of a node whose pods are set
pub arrives_as : (pods : List PodSpec) (ticks : List TickObs) (now s : State) (pod : PodSpec) (new : Pods)
    → now ≡ s → new ≡ with_pod s.pods pod → length now.pods.pieces < most_pods → HasTaken pods ticks now
    → HasTaken (pods ++ pod ∷ []) ticks
    (state s.config s.signals new (kept s.evictions s.pausing) s.events s.totals s.last)
arrives_as pods ticks now s pod new is more room taken =
    subst
    (λ (p : Pods). HasTaken (pods ++ pod ∷ []) ticks
    (state s.config s.signals p (kept s.evictions s.pausing) s.events s.totals s.last))
    (sym more)
    (arrives pods ticks s pod (subst (λ (t : State). HasTaken pods ticks t) is taken)
    (subst (λ (t : State). length t.pods.pieces < most_pods) is room))

few_more : (pods : List PodSpec) (pod : PodSpec) → AreFew pods → length pod.containers ≤ most_containers
    → AreFew (pods ++ pod ∷ [])
few_more pods pod few one n p at = elim (place_split pods pod p n at) [
  | inl old ↦ few n p old
  | inr w ↦ subst (λ (q : PodSpec). length q.containers ≤ most_containers) w.1 one
]

pub arrived_kept : (now s : State) (pod : PodSpec) (new : Pods) → now ≡ s → new ≡ with_pod s.pods pod
    → length now.pods.pieces < most_pods → length pod.containers ≤ most_containers → IsKept s
    → IsKept (state s.config s.signals new (kept s.evictions s.pausing) s.events s.totals s.last)
arrived_kept now s pod new is more room small was =
    kept_by (pods_in s.pods.pieces ++ pod ∷ []) was.ticks
    (state s.config s.signals new (kept s.evictions s.pausing) s.events s.totals s.last)
    (arrives_as (pods_in s.pods.pieces) was.ticks now s pod new is more room
    (subst (λ (t : State). HasTaken (pods_in s.pods.pieces) was.ticks t) (sym is) was.taken))
    (few_more (pods_in s.pods.pieces) pod was.few small) was.events
