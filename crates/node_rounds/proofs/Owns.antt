-- What the rounds of a node's pods tell of the ticks that were handed to them.
use Rattle.std.proofs.Common.{◌≡◌, ◌∙◌, ℕ, zero, suc, ◌+◌, ◌<◌, ◌≤◌, List, [], ◌∷◌, ◌++◌, length, map}
use Rattle.std.proofs.Common.{take, drop, Bool, Option, Some, None, refl, ap, sym, subst, arith}
use Rattle.std.specs.Prelude.{slice_get, option_map, IfSome, nat_lt, if◌then◌else◌}
use Rattle.std.specs.List.{cons_option, sum_by}
use Rattle.std.proofs.lemmas.Bool.{lt-ltb}
use Rattle.std.proofs.lemmas.List.{length-append, length-map, take_at, drop_at}
use Rattle.std.proofs.lemmas.List.Sums.{sum_by-cons}
use Rattle.std.proofs.lemmas.Option.{slice_get_within, slice_get-map}
use Rattle.histories.proofs.Lists.{given_at}
use Rattle.manifest.specs.declared.pod.PodSpec.{PodSpec}
use Rattle.manifest.specs.rule.Containers.{most_containers}
use Rattle.node_config.specs.declared.node.NodeConfig.{NodeConfig}
use Rattle.observations.specs.rule.Pods.{PodObs}
use Rattle.observations.specs.declared.tick.TickObs.{TickObs}
use Rattle.observations.specs.rule.Observations.{shown_of, own_ticks}
use Rattle.observations.specs.rule.Limits.{most_ticks}
use Rattle.node_signals.specs.declared.node.NodeSignals.{NodeSignals}
use Rattle.pod_state.specs.rule.Pods.{PodTick, pod_tick}
use Rattle.pod_piece.specs.rule.Piece.{Piece, place_of, ticks}
use Rattle.pod_piece.specs.state.Piece.{all_updated, with_number, evicted_at}
use Rattle.pod_piece.specs.state.Made.{MadeEvent, AreMadeOver, AreRoundEvents, round_of, round_length}
use Rattle.eviction.specs.declared.eviction.Eviction.{Eviction}
use Rattle.eviction.specs.state.Pausing.{still}
use Rattle.eviction.specs.rule.Replay.{pod_ticks}
use Rattle.totals.specs.declared.totals.Totals.{Totals}
use Rattle.totals.specs.state.Totals.{plus}
use Rattle.totals.specs.state.Limits.{IsLowAddition}
use Rattle.totals.specs.state.Rounds.{addition_of, IsAdditionOf, AreAdditionsOf, sums_of_additions}
use Rattle.totals.proofs.Made.{one_made, low_addition, empty_round}
use Rattle.event_list.specs.declared.tick.TickEvents.{TickEvents}
use Rattle.event_list.specs.state.Tick.{AreMadeBy, IsMomentOf, AreOfTicks, MomentsRise}
use Rattle.node_pods.specs.state.Pods.{sent_from, after_each}
use Rattle.node_pods.proofs.Candidates.{same_piece}
use Rattle.node_rounds.specs.state.Node.{MayBeHandedAll}
use Rattle.node_rounds.specs.state.Round.{AreFewEvents}
use Rattle.node_rounds.specs.state.Stretch.{AreCalm, handed_all}
use Rattle.node_rounds.proofs.Counts.{AreRows, AreFor}
use Rattle.node_rounds.proofs.Handing.{IsGrown, not_grown, handed_at, handed_all-length}
use Rattle.node_rounds.proofs.Told.{AreBehind, AreTold, told_from}

-- moments of ticks that may be handed to pods one after the other
pub behind_each_other : (n : ℕ) (pieces : List Piece) (last : Option ℕ) (ticks : List TickObs) (from : ℕ)
    → ((x : TickObs) → IfSome last (λ moment. moment < x.at) → from ≤ x.at) → MayBeHandedAll pieces last ticks
    → AreBehind from n ticks
behind_each_other n pieces last [] from bound may = tt
behind_each_other n pieces last (x ∷ ticks) from bound may = (
  bound x may.1,
  moment (shown_of x n) refl,
  behind_each_other n (after_each pieces x.pods) (Some x.at) ticks (suc x.at) (λ y lt. omega (arith, lt)) may.2,
)
  where
    moment : (o : Option PodObs) → shown_of x n ≡ o → IfSome (shown_of x n) (λ observed. observed.at ≡ x.at)
    moment None e = subst (λ (s : Option PodObs). IfSome s (λ observed. observed.at ≡ x.at)) (sym e) tt
    moment (Some o) e = subst (λ (s : Option PodObs). IfSome s (λ observed. observed.at ≡ x.at)) (sym e)
        (may.0.at_its_moment n o e)

-- the rows of calm ticks
pub rows_of : (config : NodeConfig) (ticks : List TickObs) (old : NodeSignals) (pausing : Option Eviction)
    (rows : List TickEvents) (now : NodeSignals) (paused : Option Eviction)
    → AreCalm config ticks old pausing rows now paused → AreRows rows ticks
rows_of config [] old pausing rows now paused calm = subst (λ (rs : List TickEvents). AreRows rs []) (sym calm.0) tt
rows_of config (x ∷ ticks) old pausing rows now paused calm =
    subst (λ (rs : List TickEvents). AreRows rs (x ∷ ticks)) (sym calm.5)
    (calm.3.at, rows_of config ticks calm.2 (still config x pausing) calm.1 now paused calm.4)

pub rows_more : (rows : List TickEvents) (ticks : List TickObs) (row : TickEvents) (x : TickObs) → AreRows rows ticks
    → row.at ≡ x.at → AreRows (rows ++ row ∷ []) (ticks ++ x ∷ [])
rows_more [] [] row x are at = (at, tt)
rows_more [] (y ∷ ticks) row x are at = absurd are
rows_more (r ∷ rows) [] row x are at = absurd are
rows_more (r ∷ rows) (y ∷ ticks) row x are at = (are.0, rows_more rows ticks row x are.1 at)

at_least : (rows : List TickEvents) (ticks : List TickObs) (n from t : ℕ) (row : TickEvents) → AreRows rows ticks
    → AreBehind from n ticks → slice_get rows t ≡ Some row → from ≤ row.at
at_least [] ticks n from t row are behind at = absurd (cc)
at_least (r ∷ rows) [] n from t row are behind at = absurd are
at_least (r ∷ rows) (x ∷ ticks) n from zero row are behind at =
    let same : r ≡ row = cc in omega (arith, are.0, behind.0, ap (λ (q : TickEvents). q.at) same)
at_least (r ∷ rows) (x ∷ ticks) n from (suc t) row are behind at =
    let le = at_least rows ticks n (suc x.at) t row are.1 behind.2 at in omega (arith, le, behind.0)

pub rows_rise : (rows : List TickEvents) (ticks : List TickObs) (n from : ℕ) → AreRows rows ticks
    → AreBehind from n ticks → MomentsRise rows
rows_rise [] ticks n from are behind s t earlier later lt at there = absurd (cc)
rows_rise (r ∷ rows) [] n from are behind s t earlier later lt at there = absurd are
rows_rise (r ∷ rows) (x ∷ ticks) n from are behind s zero earlier later lt at there = absurd (omega (arith, lt))
rows_rise (r ∷ rows) (x ∷ ticks) n from are behind zero (suc t) earlier later lt at there =
    let same : r ≡ earlier = cc in
    let le = at_least rows ticks n (suc x.at) t later are.1 behind.2 there in
    omega (arith, le, are.0, ap (λ (q : TickEvents). q.at) same)
rows_rise (r ∷ rows) (x ∷ ticks) n from are behind (suc s) (suc t) earlier later lt at there =
    rows_rise rows ticks n (suc x.at) are.1 behind.2 s t earlier later (omega (arith, lt)) at there

-- each of a pod's ticks has the moment of a row
own_moment : (rows : List TickEvents) (xs : List TickObs) (n from k : ℕ) (tick : PodTick) → AreRows rows xs
    → AreBehind from n xs → slice_get (pod_ticks xs n) k ≡ Some tick → IsMomentOf rows tick.moment
own_moment rows [] n from k tick are behind at = absurd (cc)
own_moment [] (x ∷ xs) n from k tick are behind at = absurd are
own_moment (r ∷ rows) (x ∷ xs) n from k tick are behind at =
    by (shown_of x n) refl k behind.1 at (λ j there.
    later (own_moment rows xs n (suc x.at) j tick are.1 behind.2 there))
  where
    later : IsMomentOf rows tick.moment → IsMomentOf (r ∷ rows) tick.moment
    later w = (suc w.0, w.1, w.2, w.3)

    by : (o : Option PodObs) → shown_of x n ≡ o → (k : ℕ) → IfSome (shown_of x n) (λ observed. observed.at ≡ x.at)
        → slice_get (map pod_tick (cons_option (shown_of x n) (own_ticks xs n))) k ≡ Some tick
        → ((j : ℕ) → slice_get (pod_ticks xs n) j ≡ Some tick → IsMomentOf (r ∷ rows) tick.moment)
        → IsMomentOf (r ∷ rows) tick.moment
    by None e k moment at rest =
        rest k (subst (λ (o : Option PodObs). slice_get (map pod_tick (cons_option o
        (own_ticks xs n))) k ≡ Some tick) e at)
    by (Some o) e zero moment at rest =
        let here = subst (λ (s : Option PodObs). slice_get (map pod_tick (cons_option s
        (own_ticks xs n))) 0 ≡ Some tick)
        e at in
        let same : pod_tick o ≡ tick = (let w : Some (pod_tick o) ≡ Some tick = here in cc) in
        let now : o.at ≡ x.at = subst (λ (s : Option PodObs). IfSome s (λ observed. observed.at ≡ x.at)) e moment in
        (0, r, refl, are.0 ∙ sym now ∙ ap (λ (y : PodTick). y.moment) same)
    by (Some o) e (suc k) moment at rest =
        rest k (subst (λ (s : Option PodObs). slice_get (map pod_tick (cons_option s (own_ticks xs n)))
        (suc k) ≡ Some tick)
        e at)

-- pods between two rounds
abbrev pub AreAtRest : List Piece → Type 0
AreAtRest pieces = (n : ℕ) (p : Piece) → slice_get pieces n ≡ Some p → (p.waiting ≡ 0) × (p.begun ≡ length p.handed)

-- what is known of a pod once all that was handed to it has come into its status
pub record IsRoundOf (p : Piece) (own : List PodTick) (q : Piece) : Type 0 where
  pub pod : q.pod ≡ p.pod
  pub max_restart_delay : q.max_restart_delay ≡ p.max_restart_delay
  pub evicted : evicted_at q ≡ evicted_at p
  pub before : take q.begun (ticks q) ≡ p.handed
  pub round : round_of q ≡ own
  pub long : round_length q ≡ length own

round_grown : (p : Piece) (own : List PodTick) (q : Piece) → IsGrown p own q → IsRoundOf p own (all_updated q)
round_grown p own q is = record {
  pod = is.pod;
  max_restart_delay = is.max_restart_delay;
  evicted = ap place_of is.eviction;
  before = ap (λ (h : List PodTick). take q.begun h) is.handed
      ∙ take_at p.handed own q.begun (sym is.begun);
  round = ap (λ (h : List PodTick). drop q.begun h) is.handed ∙ drop_at p.handed own q.begun (sym is.begun);
  long = omega (arith, ap length is.handed, length-append p.handed own, is.begun);
}

-- the pod at a place, after the round
pub round_at : (pieces : List Piece) (xs : List TickObs) (n : ℕ) (q : Piece) → AreAtRest pieces
    → slice_get (map all_updated (handed_all pieces xs)) n ≡ Some q
    → (p : Piece) × (slice_get pieces n ≡ Some p) × IsRoundOf p (pod_ticks xs n) q
round_at pieces xs n q rest at =
    let all = handed_all pieces xs in
    let lt = slice_get_within (map all_updated all) n q at in
    let p = given_at pieces n (omega (arith, lt, length-map all all_updated, handed_all-length pieces xs)) in
    let at_rest = rest n p.0 p.1 in
    let g = handed_at p.0 [] pieces xs n p.0 p.1 (not_grown p.0 at_rest.0 at_rest.1) in
    let is = slice_get-map all_updated all n ∙ ap (option_map all_updated) g.1 in (
      p.0,
      p.1,
      subst (λ (r : Piece). IsRoundOf p.0 (pod_ticks xs n) r)
          (same_piece (map all_updated all) n (all_updated g.0) q is at) (round_grown p.0 (pod_ticks xs n) g.0 g.2),
    )

-- its events, by what it was before
made_over : (p : Piece) (own : List PodTick) (q : Piece) (made : List MadeEvent) → IsRoundOf p own q
    → AreRoundEvents q made → AreMadeOver p.pod p.max_restart_delay (evicted_at p) p.handed own made
made_over p own q made is are =
    subst (λ (h : List PodTick). AreMadeOver p.pod p.max_restart_delay (evicted_at p) p.handed h made) is.round
    (subst (λ (b : List PodTick). AreMadeOver p.pod p.max_restart_delay (evicted_at p) b (round_of q) made) is.before
    (subst (λ (e : Option ℕ). AreMadeOver p.pod p.max_restart_delay e (take q.begun (ticks q)) (round_of q) made)
    is.evicted
    (subst (λ (d : ℕ). AreMadeOver p.pod d (evicted_at q) (take q.begun (ticks q)) (round_of q) made)
    is.max_restart_delay
    (subst (λ (s : PodSpec). AreMadeOver s q.max_restart_delay (evicted_at q) (take q.begun (ticks q))
    (round_of q) made)
    is.pod are))))

-- the events of the rounds tell of the ticks
pub told_by : (pieces : List Piece) (last : Option ℕ) (xs : List TickObs) (owns : List (List MadeEvent)) (n : ℕ)
    (p : Piece) (own : List MadeEvent) → AreAtRest pieces → MayBeHandedAll pieces last xs
    → AreMadeBy (map all_updated (handed_all pieces xs)) owns → slice_get pieces n ≡ Some p
    → slice_get owns n ≡ Some own
    → AreTold p.pod p.max_restart_delay (evicted_at p) p.handed n xs own own
told_by pieces last xs owns n p own rest may by at there =
    let all = map all_updated (handed_all pieces xs) in
    let lt = slice_get_within owns n own there in
    let q = given_at all n (omega (arith, lt, by.as_many)) in
    let r = round_at pieces xs n q.0 rest q.1 in
    let over = made_over r.0 (pod_ticks xs n) q.0 own r.2 (by.each n q.0 own q.1 there) in
    let same = same_piece pieces n r.0 p r.1 at in
    told_from p.pod p.max_restart_delay (evicted_at p) p.handed n 0 xs [] own own refl tt
    (behind_each_other n pieces last xs 0 (λ x lt. omega arith) may)
    (subst (λ (s : Piece). AreMadeOver s.pod s.max_restart_delay (evicted_at s) s.handed
    (pod_ticks xs n) own) same over)

-- their ticks are those of the rows
pub of_rows : (pieces : List Piece) (last : Option ℕ) (xs : List TickObs) (rows : List TickEvents) → AreAtRest pieces
    → MayBeHandedAll pieces last xs → AreRows rows xs → AreOfTicks rows (map all_updated (handed_all pieces xs))
of_rows pieces last xs rows rest may are n q k tick at there =
    let r = round_at pieces xs n q rest at in
    own_moment rows xs n 0 k tick are (behind_each_other n pieces last xs 0 (λ x lt. omega arith) may)
    (subst (λ (h : List PodTick). slice_get h k ≡ Some tick) r.2.round there)

-- the additions are those of these updates and these events
for_each : (updates : ℕ → ℕ) (owns : List (List MadeEvent)) (additions : List Totals)
    → length additions ≡ length owns
    → ((n : ℕ) (own : List MadeEvent) (a : Totals) → slice_get owns n ≡ Some own → slice_get additions n ≡ Some a
    → a ≡ addition_of (updates n) own) → AreFor updates owns additions
for_each updates [] [] long each = tt
for_each updates [] (a ∷ additions) long each = absurd (omega (arith, long))
for_each updates (own ∷ owns) [] long each = absurd (omega (arith, long))
for_each updates (own ∷ owns) (a ∷ additions) long each = (
  each 0 own a refl refl,
  for_each (λ n. updates (suc n)) owns additions (omega (arith, long)) (λ n o b at there. each (suc n) o b at there),
)

pub additions_for : (pieces : List Piece) (xs : List TickObs) (owns : List (List MadeEvent)) (additions : List Totals)
    → AreAtRest pieces → AreMadeBy (map all_updated (handed_all pieces xs)) owns
    → AreAdditionsOf (map all_updated (handed_all pieces xs)) additions
    → AreFor (λ n. length (pod_ticks xs n)) owns additions
additions_for pieces xs owns additions rest by are =
    let all = map all_updated (handed_all pieces xs) in
    for_each (λ n. length (pod_ticks xs n)) owns additions (are.as_many ∙ sym by.as_many) (λ n own a at there.
    let lt = slice_get_within owns n own at in
    let q = given_at all n (omega (arith, lt, by.as_many)) in
    let r = round_at pieces xs n q.0 rest q.1 in
    let is = are.each n q.0 a q.1 there in
    let same : is.0 ≡ own = one_made (q.0).pod (q.0).max_restart_delay (evicted_at q.0)
    (take (q.0).begun (ticks q.0)) (round_of q.0) is.0 own is.1 (by.each n q.0 own q.1 at) in
    is.2 ∙ ap (λ (m : List MadeEvent). addition_of (round_length q.0) m) same
    ∙ ap (λ k. addition_of k own) r.2.long)

-- what the pieces that did not go out add is nothing
nothing_added : (q : Piece) → round_length q ≡ 0 → IsAdditionOf q (addition_of 0 [])
nothing_added q none = ([], empty_round q none, ap (λ k. addition_of k []) (sym none))

abbrev sums : ℕ → ℕ → ℕ → Totals
sums updates events orders = record { updates = updates; events = events; orders = orders }

same_sums : (additions : List Totals)
    → sums_of_additions (addition_of 0 [] ∷ additions) ≡ sums_of_additions additions
same_sums additions = λ i. sums (none_of (λ (t : Totals). t.updates) refl i) (none_of (λ (t : Totals). t.events) refl i)
    (none_of (λ (t : Totals). t.orders) refl i)
  where
    none_of : (f : Totals → ℕ) → f (addition_of 0 []) ≡ 0 → sum_by f (addition_of 0 [] ∷ additions) ≡ sum_by f additions
    none_of f none =
        let one : sum_by f (addition_of 0 [] ∷ additions) ≡ f (addition_of 0 []) + sum_by f additions =
        sum_by-cons f (addition_of 0 []) additions in
        omega (arith, one, none)

more_sums : (a : Totals) (some all : List Totals) → sums_of_additions all ≡ sums_of_additions some
    → sums_of_additions (a ∷ all) ≡ sums_of_additions (a ∷ some)
more_sums a some all same =
    let u = λ (t : Totals). t.updates in
    let e = λ (t : Totals). t.events in
    let o = λ (t : Totals). t.orders in
    λ i. sums ((sum_by-cons u a all ∙ ap (λ (t : Totals). a.updates + t.updates) same ∙ sym (sum_by-cons u a some)) i)
    ((sum_by-cons e a all ∙ ap (λ (t : Totals). a.events + t.events) same ∙ sym (sum_by-cons e a some)) i)
    ((sum_by-cons o a all ∙ ap (λ (t : Totals). a.orders + t.orders) same ∙ sym (sum_by-cons o a some)) i)

-- so all pieces add what those add that went out
pub record AddAll (pieces : List Piece) (some : List Totals) : Type 0 where
  pub all : List Totals
  pub are : AreAdditionsOf (map all_updated pieces) all
  pub same : sums_of_additions all ≡ sums_of_additions some

add_one : (q : Piece) (pieces : List Piece) (some : List Totals) (a : Totals) → IsAdditionOf (all_updated q) a
    → (rest : AddAll pieces some) → AreAdditionsOf (map all_updated (q ∷ pieces)) (a ∷ rest.all)
add_one q pieces some a is rest = record { as_many = ap suc rest.are.as_many; each = each }
  where
    each : (n : ℕ) (p : Piece) (b : Totals) → slice_get (map all_updated (q ∷ pieces)) n ≡ Some p
        → slice_get (a ∷ rest.all) n ≡ Some b → IsAdditionOf p b
    each zero p b at there =
        let same_p : all_updated q ≡ p = (let w : Some (all_updated q) ≡ Some p = at in cc) in
        let same_b : a ≡ b = (let w : Some a ≡ Some b = there in cc) in
        subst (λ (r : Piece). IsAdditionOf r b) same_p (subst (λ (t : Totals). IsAdditionOf
        (all_updated q) t) same_b is)
    each (suc n) p b at there = rest.are.each n p b at there

pub add_all : (pieces : List Piece) (k : ℕ) (some : List Totals)
    → ((n : ℕ) (q : Piece) → slice_get pieces n ≡ Some q → q.waiting ≡ 0 → round_length (all_updated q) ≡ 0)
    → AreAdditionsOf (map all_updated (sent_from k pieces)) some → AddAll pieces some
add_all [] k [] rest are = record { all = []; are = are; same = refl }
add_all [] k (a ∷ some) rest are = absurd (omega (arith, are.as_many))
add_all (q ∷ pieces) k some rest are =
    by q.waiting refl some are (λ m more are_more. add_all pieces m more (λ n p at. rest (suc n) p at) are_more)
  where
    sent : ℕ → List Piece
    sent w = if nat_lt 0 w then with_number q k ∷ sent_from (k + 1) pieces else sent_from k pieces

    first : (some : List Totals)
        → AreAdditionsOf (map all_updated (with_number q k ∷ sent_from (k + 1) pieces)) some
        → ((m : ℕ) (more : List Totals) → AreAdditionsOf (map all_updated (sent_from m pieces)) more
        → AddAll pieces more) → AddAll (q ∷ pieces) some
    first [] are others = absurd (omega (arith, are.as_many))
    first (a ∷ some) are others =
        let behind = others (k + 1) some (record {
          as_many = omega (arith, are.as_many);
          each = λ n p b at there. are.each (suc n) p b at there;
        }) in
        record {
          all = a ∷ behind.all;
          are = add_one q pieces some a (are.each 0 (all_updated (with_number q k)) a refl refl) behind;
          same = more_sums a some behind.all behind.same;
        }

    by : (w : ℕ) → q.waiting ≡ w → (some : List Totals) → AreAdditionsOf (map all_updated (sent_from k (q ∷ pieces)))
        some → ((m : ℕ) (more : List Totals) → AreAdditionsOf (map all_updated (sent_from m pieces)) more
        → AddAll pieces more) → AddAll (q ∷ pieces) some
    by zero none some are others =
        let behind = others k some (subst (λ (w : ℕ). AreAdditionsOf (map all_updated (sent w)) some) none are) in
        let is = nothing_added (all_updated q) (rest 0 q refl none) in
        record {
          all = addition_of 0 [] ∷ behind.all;
          are = add_one q pieces some (addition_of 0 []) is behind;
          same = same_sums behind.all ∙ behind.same;
        }
    by (suc w) waiting some are others =
        let out : sent_from k (q ∷ pieces) ≡ with_number q k ∷ sent_from (k + 1) pieces =
        ap (λ (b : Bool). if b then with_number q k ∷ sent_from (k + 1) pieces else sent_from k pieces)
        (lt-ltb 0 q.waiting (omega (arith, waiting))) in
        first some (subst (λ (ps : List Piece). AreAdditionsOf (map all_updated ps) some) out are) others

-- no more events than so many updates make
pub few_added : (additions : List Totals) → ((n : ℕ) (a : Totals) → slice_get additions n ≡ Some a → IsLowAddition a)
    → AreFewEvents (sums_of_additions additions)
few_added [] low = record { events = omega arith; orders = omega arith }
few_added (a ∷ additions) low =
    let first = low 0 a refl in
    let rest = few_added additions (λ n b at. low (suc n) b at) in
    let u = sum_by-cons (λ (t : Totals). t.updates) a additions in
    let e = sum_by-cons (λ (t : Totals). t.events) a additions in
    let o = sum_by-cons (λ (t : Totals). t.orders) a additions in
    record {
      events = omega (arith, u, e, first.events, rest.events);
      orders = omega (arith, u, o, first.orders, rest.orders);
    }

pub few_more_events : (old new : Totals) (additions : List Totals) → AreFewEvents old
    → AreFewEvents (sums_of_additions additions) → new ≡ plus old (sums_of_additions additions) → AreFewEvents new
few_more_events old new additions had added is =
    subst (λ (t : Totals). AreFewEvents t) (sym is)
    (record { events = omega (arith, had.events, added.events); orders = omega (arith, had.orders, added.orders) })

-- a pod has no more ticks of its own than there are
pub own_few : (xs : List TickObs) (n : ℕ) → length (pod_ticks xs n) ≤ length xs
own_few [] n = omega arith
own_few (x ∷ xs) n = by (shown_of x n) (own_few xs n)
  where
    by : (o : Option PodObs) → length (pod_ticks xs n) ≤ length xs
        → length (map pod_tick (cons_option o (own_ticks xs n))) ≤ length (x ∷ xs)
    by None le = omega (arith, le)
    by (Some shown) le = omega (arith, le)

-- the rounds of pods with few containers are low
pub low_rounds : (pieces : List Piece) (xs : List TickObs) (additions : List Totals) → AreAtRest pieces
    → length xs ≤ most_ticks
    → ((n : ℕ) (p : Piece) → slice_get pieces n ≡ Some p → length p.pod.containers ≤ most_containers)
    → AreAdditionsOf (map all_updated (handed_all pieces xs)) additions
    → (n : ℕ) (a : Totals) → slice_get additions n ≡ Some a → IsLowAddition a
low_rounds pieces xs additions rest few small are n a at =
    let all = map all_updated (handed_all pieces xs) in
    let lt = slice_get_within additions n a at in
    let q = given_at all n (omega (arith, lt, are.as_many)) in
    let r = round_at pieces xs n q.0 rest q.1 in
    low_addition q.0 a
    (subst (λ (s : PodSpec). length s.containers ≤ most_containers) (sym r.2.pod) (small n r.0 r.1))
    (let le = own_few xs n in omega (arith, few, le, r.2.long)) (are.each n q.0 a q.1 at)
