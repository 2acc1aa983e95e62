-- The watches of a node, one for each place of the serving order.
use Rattle.std.proofs.Common.{◌≡◌, inl, inr, ℕ, ◌+◌, ◌<◌, ◌≤◌, List, [], ◌∷◌, ◌++◌, length, Bool, true, false}
use Rattle.std.proofs.Common.{Option, Some, None, sym, subst, ◌∙◌, arith}
use Rattle.std.specs.Prelude.{◌↔◌, IsTrue, IsSomeAnd, slice_get, slice_set}
use Rattle.std.proofs.lemmas.Option.{slice_get_within}
use Rattle.histories.proofs.Lists.{set_split, set_length, map_more}
use Rattle.signals.specs.declared.threshold.Threshold.{Threshold}
use Rattle.signals.specs.rule.BySignal.{of}
use Rattle.thresholds.specs.rule.Samples.{Sample, sample}
use Rattle.thresholds.specs.declared.watch.Watch.{Watch}
use Rattle.thresholds.specs.state.Watch.{IsStateOf as IsWatchState}
use Rattle.node_config.specs.rule.EvictionConfig.{EvictionConfig}
use Rattle.observations.specs.declared.tick.TickObs.{TickObs}
use Rattle.node_signals.specs.declared.key.ThresholdKey.{ThresholdKey}
use Rattle.node_signals.specs.rule.Keys.{serving_order, threshold_at}
use Rattle.node_signals.specs.rule.Thresholds.{samples}
use Rattle.node_signals.specs.state.Node.{IsWatchOf, IsWatchAt, AreWatches}

-- what a watch tells of its threshold, whatever its samples were
abbrev pub Tells : (Threshold → Option ℕ → List Sample → Type 0) → Watch → Bool → Type 0
Tells Q watch b = (threshold : Threshold) (capacity : Option ℕ) (h : List Sample)
    → IsWatchState threshold capacity h watch → (IsTrue b ↔ Q threshold capacity h)

-- the same of the node's threshold
abbrev pub Holds : (Threshold → Option ℕ → List Sample → Type 0) → EvictionConfig → List TickObs → ThresholdKey → Type 0
Holds Q eviction ticks key =
    IsSomeAnd (threshold_at eviction key) (λ t. Q t (of eviction.capacity key.signal) (samples key.signal ticks))

told : (Q : Threshold → Option ℕ → List Sample → Type 0) (threshold : Option Threshold) (capacity : Option ℕ)
    (h : List Sample) (watch : Watch) (b : Bool)
    → IsWatchOf threshold capacity h (Some watch) → Tells Q watch b
    → (IsTrue b ↔ IsSomeAnd threshold (λ t. Q t capacity h))
told Q None capacity h watch b w tells = absurd w
told Q (Some t) capacity h watch b w tells = tells t capacity h w

silent : (Q : Threshold → Option ℕ → List Sample → Type 0) (threshold : Option Threshold) (capacity : Option ℕ)
    (h : List Sample)
    → IsWatchOf threshold capacity h None → (IsTrue false ↔ IsSomeAnd threshold (λ t. Q t capacity h))
silent Q None capacity h w = ((λ e. let f : false ≡ true = e in absurd (cc)), (λ q. absurd q))
silent Q (Some t) capacity h w = absurd w

-- a watch at a place tells of the threshold there
pub watched : (Q : Threshold → Option ℕ → List Sample → Type 0) (eviction : EvictionConfig) (ticks : List TickObs)
    (key : ThresholdKey) (place : ℕ)
    (watches : List (Option Watch)) (found : Option Watch) (watch : Watch) (b : Bool)
    → slice_get serving_order place ≡ Some key → AreWatches eviction ticks watches
    → slice_get watches place ≡ Some found
    → found ≡ Some watch → Tells Q watch b → (IsTrue b ↔ Holds Q eviction ticks key)
watched Q eviction ticks key place watches found watch b at w there is tells =
    told Q (threshold_at eviction key) (of eviction.capacity key.signal) (samples key.signal ticks) watch b
    (subst (IsWatchAt eviction ticks key) is (w.each place key found at there)) tells

-- where there is none, there is no threshold
pub unwatched : (Q : Threshold → Option ℕ → List Sample → Type 0) (eviction : EvictionConfig) (ticks : List TickObs)
    (key : ThresholdKey) (place : ℕ)
    (watches : List (Option Watch)) (found : Option Watch)
    → slice_get serving_order place ≡ Some key → AreWatches eviction ticks watches
    → slice_get watches place ≡ Some found
    → found ≡ None → (IsTrue false ↔ Holds Q eviction ticks key)
unwatched Q eviction ticks key place watches found at w there is =
    silent Q (threshold_at eviction key) (of eviction.capacity key.signal) (samples key.signal ticks)
    (subst (IsWatchAt eviction ticks key) is (w.each place key found at there))

-- the watches at the places below one
pub record AreMade (eviction : EvictionConfig) (ticks : List TickObs) (i : ℕ)
    (watches : List (Option Watch)) : Type 0 where
  pub as_many : length watches ≡ length serving_order
  pub each : (place : ℕ) (key : ThresholdKey) (watch : Option Watch) → place < i
      → slice_get serving_order place ≡ Some key
      → slice_get watches place ≡ Some watch → IsWatchAt eviction ticks key watch

pub none_made : (eviction : EvictionConfig) (ticks : List TickObs) (watches : List (Option Watch))
    → length watches ≡ length serving_order → AreMade eviction ticks 0 watches
none_made eviction ticks watches many =
    record { as_many = many; each = λ place key watch lt at e. absurd (omega arith) }

pub made_more : (eviction : EvictionConfig) (ticks : List TickObs) (i : ℕ) (watches : List (Option Watch))
    (key : ThresholdKey) (watch : Option Watch)
    → slice_get serving_order i ≡ Some key → IsWatchAt eviction ticks key watch
    → AreMade eviction ticks i watches → AreMade eviction ticks (i + 1) (slice_set watches i watch)
made_more eviction ticks i watches key watch at is m = record {
  as_many = set_length watches i watch ∙ m.as_many;
  each = λ place other w lt there e. elim (set_split watches i watch w place e) [
    | inl s ↦
        let P : ℕ → Type 0 = λ k. slice_get serving_order k ≡ Some other in
        let both : Some key ≡ Some other = sym at ∙ subst P s.0 there in
        let same : key ≡ other = cc in
        let Q : ThresholdKey → Type 0 = λ t. IsWatchAt eviction ticks t watch in
        let R : Option Watch → Type 0 = λ v. IsWatchAt eviction ticks other v in
        subst R s.1 (subst Q same is)
    | inr s ↦ m.each place other w (let not : place ≡ i → ⊥ = s.0 in omega arith) there s.1
  ];
}

pub all_made : (eviction : EvictionConfig) (ticks : List TickObs) (i : ℕ) (watches : List (Option Watch)) → 12 ≤ i
    → AreMade eviction ticks i watches → AreWatches eviction ticks watches
all_made eviction ticks i watches le m = record {
  as_many = m.as_many;
  each = λ place key w at e. m.each place key w (let lt : place < 12 = slice_get_within serving_order place key at in
      omega arith) at e;
}

-- the watches, of which those below a place have taken the new sample
pub record AreSampled (eviction : EvictionConfig) (before : List TickObs) (tick : TickObs) (i : ℕ)
    (watches : List (Option Watch)) : Type 0 where
  pub made : AreMade eviction (before ++ tick ∷ []) i watches
  pub left : (place : ℕ) (key : ThresholdKey) (watch : Option Watch) → i ≤ place
      → slice_get serving_order place ≡ Some key
      → slice_get watches place ≡ Some watch → IsWatchAt eviction before key watch

pub none_sampled : (eviction : EvictionConfig) (before : List TickObs) (tick : TickObs) (watches : List (Option Watch))
    → AreWatches eviction before watches → AreSampled eviction before tick 0 watches
none_sampled eviction before tick watches w = record {
  made = none_made eviction (before ++ tick ∷ []) watches w.as_many;
  left = λ place key watch le at e. w.each place key watch at e;
}

-- a watch with its signal's sample of the tick
abbrev pub TakesSample : Option Watch → ℕ → Option ℕ → Option Watch → Type 0
TakesSample old at value new = (threshold : Option Threshold) (capacity : Option ℕ) (h : List Sample)
    → IsWatchOf threshold capacity h old → IsWatchOf threshold capacity (h ++ sample at value ∷ []) new

pub sampled_more : (eviction : EvictionConfig) (before : List TickObs) (tick : TickObs) (i : ℕ)
    (watches : List (Option Watch)) (key : ThresholdKey) (old new : Option Watch) (value : Option ℕ)
    → slice_get serving_order i ≡ Some key → slice_get watches i ≡ Some old → value ≡ of tick.signals key.signal
    → TakesSample old tick.at value new
    → AreSampled eviction before tick i watches → AreSampled eviction before tick (i + 1) (slice_set watches i new)
sampled_more eviction before tick i watches key old new value at there is takes s =
    let P : Option ℕ → Type 0 = λ v. IsWatchOf (threshold_at eviction key) (of eviction.capacity key.signal)
    (samples key.signal before ++ sample tick.at v ∷ []) new in
    let Q : List Sample → Type 0 = λ h. IsWatchOf (threshold_at eviction key) (of eviction.capacity key.signal) h new in
    let taken = takes (threshold_at eviction key) (of eviction.capacity key.signal) (samples key.signal before)
    (s.left i key old (omega arith) at there) in
    let now : IsWatchAt eviction (before ++ tick ∷ []) key new =
    subst Q (sym (map_more (λ (x : TickObs). sample x.at (of x.signals key.signal)) before tick)) (subst P is taken) in
    record {
      made = made_more eviction (before ++ tick ∷ []) i watches key new at now s.made;
      left = λ place other w le k e. elim (set_split watches i new w place e) [
        | inl v ↦ let here : place ≡ i = v.0 in absurd (omega arith)
        | inr v ↦ s.left place other w (omega arith) k v.1
      ];
    }
