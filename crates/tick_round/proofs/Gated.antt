-- The updates of a round, tick by tick of the node.
use Rattle.std.proofs.Common.{◌≡◌, ◌∙◌, ℕ, zero, suc, ◌+◌, ◌-◌, ◌<◌, Bool, List, [], ◌∷◌, ◌++◌, length, map}
use Rattle.std.proofs.Common.{take, drop, Some, refl, ap, sym, subst, arith, append_assoc, append-nil}
use Rattle.std.specs.Prelude.{slice_get}
use Rattle.std.specs.List.{cons_option}
use Rattle.std.proofs.lemmas.List.{length-append, take-append-drop}
use Rattle.std.proofs.lemmas.Option.{slice_get_within, get_or_from_slice_get}
use Rattle.std.proofs.Math.Seq.{take-append_seam}
use Rattle.manifest.specs.declared.pod.PodSpec.{PodSpec}
use Rattle.observations.specs.rule.Pods.{PodObs}
use Rattle.observations.specs.declared.tick.TickObs.{TickObs}
use Rattle.observations.specs.rule.Observations.{shown_of}
use Rattle.pod_state.specs.rule.Pods.{PodTick, pod_tick}
use Rattle.pod_piece.specs.rule.Piece.{Piece, taken}
use Rattle.pod_piece.specs.state.Piece.{all_updated, with_number}
use Rattle.pod_piece.proofs.Waiting.{taken_is}
use Rattle.eviction.specs.rule.Replay.{pod_ticks}
use Rattle.worker_results.specs.state.Done.{with_waiting}
use Rattle.worker_results.specs.state.Gated.{WereGated, AreGated}
use Rattle.node_pods.specs.state.Pods.{sent_from}
use Rattle.node_pods.proofs.Sent.{goes_out}
use Rattle.tick_round.specs.rule.Gated.{IsUpdateGated, AreUpdatesGated}
use Rattle.node_rounds.specs.state.Node.{State, HasTaken, piece_after}
use Rattle.tick_round.specs.state.Node.{AreNextGated}
use Rattle.node_rounds.specs.state.Stretch.{handed_all}
use Rattle.node_rounds.proofs.Handing.{IsGrown, not_grown, own_first, pod_ticks-append, handed_at}

-- without those that wait behind them
taken_front : (xs ys : List PodTick) → taken (length ys) (xs ++ ys) ≡ xs
taken_front xs ys =
    let front : length (xs ++ ys) - length ys ≡ length xs = omega (arith, length-append xs ys) in
    taken_is (length ys) (xs ++ ys) ∙ ap (λ (n : ℕ). take n (xs ++ ys)) front ∙ take-append_seam xs ys

-- a tick that shows the pod is one of its own
own_some : (front : List TickObs) (t n : ℕ) (tick : TickObs) (o : PodObs) → slice_get front t ≡ Some tick
    → shown_of tick n ≡ Some o → 0 < length (pod_ticks (take (suc t) front) n)
own_some [] t n tick o at shown = absurd (cc)
own_some (x ∷ front) zero n tick o at shown =
    let same : x ≡ tick = cc in
    let own = own_first x [] n (Some o) (ap (λ (y : TickObs). shown_of y n) same ∙ shown) in
    omega (arith, ap length own)
own_some (x ∷ front) (suc t) n tick o at shown =
    let more = own_some front t n tick o at shown in
    let own = own_first x (take (suc t) front) n (shown_of x n) refl in
    let long = length-append (map pod_tick (cons_option (shown_of x n) [])) (pod_ticks (take (suc t) front) n) in
    omega (arith, more, ap length own, long)

-- the update of a grown piece by one of the ticks by which it has grown
gated_at : (left : Piece → Bool → Bool) (p q : Piece) (k : ℕ) (front : List TickObs) (t n : ℕ) (tick : TickObs)
    (o : PodObs) → slice_get front t ≡ Some tick → shown_of tick n ≡ Some o → IsGrown p (pod_ticks front n) q
    → WereGated left q.waiting (all_updated (with_number q k))
    → IsUpdateGated left p.pod (p.handed ++ pod_ticks (take (suc t) front) n)
gated_at left p q k front t n tick o at shown grown gated =
    let now = pod_ticks (take (suc t) front) n in
    let behind = pod_ticks (drop (suc t) front) n in
    let split : pod_ticks front n ≡ now ++ behind =
    ap (λ (xs : List TickObs). pod_ticks xs n) (sym (take-append-drop (suc t) front))
    ∙ pod_ticks-append (take (suc t) front) (drop (suc t) front) n in
    let handed : q.handed ≡ (p.handed ++ now) ++ behind =
    grown.handed ∙ ap (λ (h : List PodTick). p.handed ++ h) split ∙ sym (append_assoc p.handed now behind) in
    let some = own_some front t n tick o at shown in
    record {
      piece = with_waiting (length behind) (all_updated (with_number q k));
      pod_is = grown.pod;
      ticks_are = ap (λ (h : List PodTick). taken (length behind) h) handed ∙ taken_front (p.handed ++ now) behind;
      gated = gated (length behind) (omega arith)
          (omega (arith, grown.waiting, ap length split, length-append now behind, some));
    }

-- what was gated of a list, of the piece at a place
of_list : (left : Piece → Bool → Bool) (pieces : List Piece) (i : ℕ) (q : Piece) → slice_get pieces i ≡ Some q
    → AreGated left pieces → WereGated left q.waiting (all_updated q)
of_list left pieces i q at gated =
    subst (λ (p : Piece). WereGated left p.waiting (all_updated p)) (get_or_from_slice_get pieces i q q at)
    (gated i q (slice_get_within pieces i q at))

-- the pieces that went out were updated by the gate: so the updates by all ticks of the round are its own
pub round_gated : (left : Piece → Bool → Bool) (s : State) (front : List TickObs) (pieces : List Piece)
    → pieces ≡ sent_from 0 (handed_all s.pods.pieces front) → AreGated left pieces → AreNextGated left s front
round_gated left s front pieces sent gated = λ pods before had t n tick pod o at is shown.
    let p = piece_after s.config before s.evictions n pod in
    let r = handed_at p [] s.pods.pieces front n p (had.pieces.each n pod is) (not_grown p refl refl) in
    let grown : IsGrown p (pod_ticks front n) r.0 = r.2 in
    let cut = ap (λ (xs : List TickObs). pod_ticks xs n) (take-append-drop (suc t) front) in
    let long =
    ap length (pod_ticks-append (take (suc t) front) (drop (suc t) front) n)
    ∙ length-append (pod_ticks (take (suc t) front) n) (pod_ticks (drop (suc t) front) n) in
    let some = own_some front t n tick o at shown in
    let out = goes_out 0 (handed_all s.pods.pieces front) n r.0 r.1
    (omega (arith, grown.waiting, ap length cut, long, some)) in
    let there : slice_get pieces out.0 ≡ Some (with_number r.0 (0 + out.0)) =
    ap (λ (ps : List Piece). slice_get ps out.0) sent ∙ out.1 in
    subst (λ (h : List PodTick). IsUpdateGated left pod h) (sym (pod_ticks-append before (take (suc t) front) n))
    (gated_at left p r.0 (0 + out.0) front t n tick o at shown grown
    (of_list left pieces out.0 (with_number r.0 (0 + out.0)) there gated))

-- of no ticks
pub none_gated : (left : Piece → Bool → Bool) (s : State) → AreNextGated left s []
none_gated left s = λ pods before had t n tick pod o at is shown. absurd (cc)

-- of ticks behind others
gated_more : (left : Piece → Bool → Bool) (pods : List PodSpec) (before xs ys : List TickObs)
    → AreUpdatesGated left pods before xs → AreUpdatesGated left pods (before ++ xs) ys
    → (t n : ℕ) (tick : TickObs) (pod : PodSpec) (o : PodObs) → slice_get (xs ++ ys) t ≡ Some tick
    → slice_get pods n ≡ Some pod → shown_of tick n ≡ Some o
    → IsUpdateGated left pod (pod_ticks (before ++ take (suc t) (xs ++ ys)) n)
gated_more left pods before [] ys front behind t n tick pod o at is shown =
    subst (λ (h : List TickObs). IsUpdateGated left pod (pod_ticks (h ++ take (suc t) ys) n)) (append-nil before)
    (behind t n tick pod o at is shown)
gated_more left pods before (x ∷ xs) ys front behind zero n tick pod o at is shown =
    front zero n tick pod o at is shown
gated_more left pods before (x ∷ xs) ys front behind (suc t) n tick pod o at is shown =
    subst (λ (h : List TickObs). IsUpdateGated left pod (pod_ticks h n))
    (append_assoc before (x ∷ []) (take (suc t) (xs ++ ys)))
    (gated_more left pods (before ++ x ∷ []) xs ys
    (λ u m next other shows there owns seen.
    subst (λ (h : List TickObs). IsUpdateGated left other (pod_ticks h m))
    (sym (append_assoc before (x ∷ []) (take (suc u) xs))) (front (suc u) m next other shows there owns seen))
    (λ u m next other shows there owns seen.
    subst (λ (h : List TickObs). IsUpdateGated left other (pod_ticks (h ++ take (suc u) ys) m))
    (sym (append_assoc before (x ∷ []) xs)) (behind u m next other shows there owns seen))
    t n tick pod o at is shown)

pub more_gated : (left : Piece → Bool → Bool) (a b : State) (xs ys : List TickObs) → AreNextGated left a xs
    → ((pods : List PodSpec) (before : List TickObs) → HasTaken pods before a → HasTaken pods (before ++ xs) b)
    → AreNextGated left b ys → AreNextGated left a (xs ++ ys)
more_gated left a b xs ys first taken next = λ pods before had t n tick pod o at is shown.
    gated_more left pods before xs ys (first pods before had) (next pods (before ++ xs) (taken pods before had))
    t n tick pod o at is shown
