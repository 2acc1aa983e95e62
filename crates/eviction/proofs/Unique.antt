-- There is one list of evictions at most.
use Rattle.std.proofs.Common.{◌≡◌, ℕ, zero, suc, ◌<◌, List, [], ◌∷◌, ◌++◌, length, take, Option, Some, None, refl, sym}
use Rattle.std.proofs.Common.{ap, subst, ◌∙◌, arith}
use Rattle.std.specs.Prelude.{slice_get, option_and_then}
use Rattle.std.proofs.lemmas.Option.{slice_get_within}
use Rattle.histories.proofs.First.{IsFirstPlace-unique}
use Rattle.histories.proofs.Lists.{given_at}
use Rattle.manifest.specs.declared.pod.PodSpec.{PodSpec}
use Rattle.observations.specs.declared.tick.TickObs.{TickObs}
use Rattle.node_config.specs.declared.node.NodeConfig.{NodeConfig}
use Rattle.node_signals.specs.declared.key.ThresholdKey.{ThresholdKey}
use Rattle.node_signals.specs.rule.Keys.{serving_order}
use Rattle.node_signals.specs.rule.Thresholds.{AsksAt, IsServed}
use Rattle.pod_piece.specs.declared.order.EvictOrder.{EvictOrder}
use Rattle.pod_piece.specs.declared.status.PodStatus.{PodStatus}
use Rattle.ranking.proofs.LawLemmas.{victim_unique}
use Rattle.eviction.specs.declared.eviction.Eviction.{Eviction}
use Rattle.eviction.specs.rule.Replay.{IsCandidate, order_of, Evicts, IsOfVictim, IsEvictionFor, is_paused}
use Rattle.eviction.specs.rule.Replay.{unless_paused, unless_recorded, IsEvictionOfTick}
use Rattle.eviction.specs.state.Laws.{OneChoice, OneReplay}

-- two lists of which each place is determined by the places before it are one
same_lists : {A : Type 0} (xs ys : List A) → length xs ≡ length ys
    → ((t : ℕ) → take t xs ≡ take t ys → (x y : A) → slice_get xs t ≡ Some x → slice_get ys t ≡ Some y → x ≡ y)
    → xs ≡ ys
same_lists [] [] len at = refl
same_lists [] (y ∷ ys) len at = absurd (omega arith)
same_lists (x ∷ xs) [] len at = absurd (omega arith)
same_lists (x ∷ xs) (y ∷ ys) len at =
    let first : x ≡ y = at zero refl x y refl refl in
    let rest : xs ≡ ys = same_lists xs ys (omega arith)
    (λ t before a b e f. at (suc t) (let both : x ∷ take t xs ≡ y ∷ take t ys = cc in both) a b e f) in
    cc

served_unique : (config : NodeConfig) (before : List TickObs) (tick : TickObs) (one other : Option ThresholdKey)
    → IsServed config.eviction before tick one → IsServed config.eviction before tick other → one ≡ other
served_unique config before tick one other (place, first, is) (place', first', is') =
    is ∙ ap (λ k. option_and_then (slice_get serving_order) k)
    (IsFirstPlace-unique (AsksAt config.eviction before tick) place place' first first') ∙ sym is'

evicts_unique : (config : NodeConfig) (pods : List PodSpec) (at : ℕ) (key : ThresholdKey) (n : ℕ)
    (one other : Eviction)
    → Evicts config pods at key n one → Evicts config pods at key n other → one ≡ other
evicts_unique config pods at key n one other v w =
    let both : Some v.pod ≡ Some w.pod = sym v.is_pod ∙ w.is_pod in
    let same : v.pod ≡ w.pod = cc in
    let pod : one.pod ≡ other.pod = v.number ∙ sym w.number in
    let order : one.order ≡ other.order = v.order ∙ ap (λ p. order_of config p at key) same ∙ sym w.order in
    made one.pod other.pod one.order other.order pod order
  where
    made : (a b : ℕ) (c d : EvictOrder) → a ≡ b → c ≡ d
        → ◌≡◌ {A = Eviction} (record { pod = a; order = c }) (record { pod = b; order = d })
    made a b c d e f = λ i. record { pod = e i; order = f i }

of_victim_unique : (config : NodeConfig) (pods : List PodSpec) (at : ℕ) (key : ThresholdKey) (victim : Option ℕ)
    (one other : Option Eviction)
    → IsOfVictim config pods at key victim one → IsOfVictim config pods at key victim other → one ≡ other
of_victim_unique config pods at key None one other v w = v ∙ sym w
of_victim_unique config pods at key (Some n) None other v w = absurd v
of_victim_unique config pods at key (Some n) (Some a) None v w = absurd w
of_victim_unique config pods at key (Some n) (Some a) (Some b) v w =
    ap (λ e. Some e) (evicts_unique config pods at key n a b v w)

eviction_unique : (config : NodeConfig) (pods : List PodSpec) (before : List TickObs) (tick : TickObs)
    (evictions : List (Option Eviction))
    (served : Option ThresholdKey) (one other : Option Eviction)
    → IsEvictionFor config pods before tick evictions served one
    → IsEvictionFor config pods before tick evictions served other → one ≡ other
eviction_unique config pods before tick evictions None one other v w = v ∙ sym w
eviction_unique config pods before tick evictions (Some key) one other (a, is, e) (b, is', f) =
    let C : ℕ → PodStatus → Type 0 = IsCandidate pods before tick evictions in
    let same : b ≡ a = victim_unique key.signal config.has_dedicated_imagefs C b a is' is in
    let P : Option ℕ → Type 0 = λ v. IsOfVictim config pods tick.at key v other in
    of_victim_unique config pods tick.at key a one other e (subst P same f)

pub one_choice : OneChoice
one_choice config pods before tick evictions one other v w =
    let P : Option ThresholdKey → Type 0 = λ served. IsEvictionFor config pods before tick evictions
    (unless_paused (is_paused config tick.at (before ++ tick ∷ []) evictions) served) other in
    let same : w.served ≡ v.served = served_unique config before tick w.served v.served w.is_served v.is_served in
    let paused = is_paused config tick.at (before ++ tick ∷ []) evictions in
    eviction_unique config pods before tick evictions (unless_paused paused v.served) one other v.is_for
    (subst P same w.is_for)

round_unique : (config : NodeConfig) (pods : List PodSpec) (before : List TickObs) (tick : TickObs)
    (evictions : List (Option Eviction)) (one other : Option Eviction)
    → IsEvictionOfTick config pods before tick evictions one → IsEvictionOfTick config pods before tick evictions other
    → one ≡ other
round_unique config pods before tick evictions one other v w =
    let same = one_choice config pods before tick evictions v.choice w.choice v.is_choice w.is_choice in
    v.is_carried ∙ ap (λ (o : Option Eviction). unless_recorded config.evictions_recorded o) same ∙ sym w.is_carried

pub one_replay : OneReplay
one_replay config pods ticks one other v w = same_lists one other (v.as_many ∙ sym w.as_many) (λ t before x y e f.
    let lt : t < length one = slice_get_within one t x e in
    let many : length one ≡ length ticks = v.as_many in
    let tick = given_at ticks t (omega arith) in
    let P : List (Option Eviction) → Type 0 =
    λ evictions. IsEvictionOfTick config pods (take t ticks) tick.0 evictions y in
    round_unique config pods (take t ticks) tick.0 (take t one) x y (v.each t tick.0 x tick.1 e)
    (subst P (sym before) (w.each t tick.0 y tick.1 f)))
