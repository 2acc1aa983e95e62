-- The places of the serving order.
use Rattle.std.proofs.Common.{◌≡◌, ℕ, zero, suc, ◌+◌, ◌<◌, ◌≤◌, List, [], ◌∷◌, length, Bool, true, false}
use Rattle.std.proofs.Common.{Some, None, refl, sym, subst, ◌∙◌, arith}
use Rattle.std.specs.Prelude.{◌↔◌, IsTrue, IsSomeAnd, slice_get}
use Rattle.histories.proofs.First.{none_next}
use Rattle.histories.proofs.Lists.{within_and, given}
use Rattle.node_config.specs.rule.EvictionConfig.{EvictionConfig}
use Rattle.observations.specs.declared.tick.TickObs.{TickObs}
use Rattle.node_signals.specs.declared.key.ThresholdKey.{ThresholdKey}
use Rattle.node_signals.specs.declared.condition.NodeCondition.{NodeCondition}
use Rattle.node_signals.specs.rule.Conditions.{Meets, IsMet}
use Rattle.node_signals.specs.rule.Keys.{serving_order}
use Rattle.node_signals.specs.rule.Thresholds.{Asks, IsServed}

-- P holds of the threshold at the place
abbrev pub At : (ThresholdKey → Type 0) → ℕ → Type 0
At P place = IsSomeAnd (slice_get serving_order place) P

pub at_key : (P : ThresholdKey → Type 0) (place : ℕ) (key : ThresholdKey) → slice_get serving_order place ≡ Some key
    → P key → At P place
at_key P place key at p = subst (λ o. IsSomeAnd o P) (sym at) p

-- where it holds there is a threshold
key_of : (P : ThresholdKey → Type 0) (place : ℕ) → At P place → (key : ThresholdKey)
    × (slice_get serving_order place ≡ Some key) × P key
key_of P place p = given P (slice_get serving_order place) p

pub refused : {P : Type 0} {b : Bool} → (IsTrue b ↔ P) → b ≡ false → P → ⊥
refused is off p = let on : _ ≡ true = is.1 p in let both : true ≡ false = sym on ∙ off in absurd (cc)

-- it holds at none below a place
abbrev pub NoneBelow : (ThresholdKey → Type 0) → ℕ → Type 0
NoneBelow P place = (t : ℕ) → t < place → At P t → ⊥

pub none_below_first : (P : ThresholdKey → Type 0) → NoneBelow P 0
none_below_first P t lt p = absurd (omega arith)

pub none_below_next : (P : ThresholdKey → Type 0) (place : ℕ)
    → ((key : ThresholdKey) → slice_get serving_order place ≡ Some key → P key → ⊥)
    → NoneBelow P place → NoneBelow P (place + 1)
none_below_next P place not none = none_next (At P) place none (λ p. let here = key_of P place p in
    not here.0 here.1 here.2)

pub none_at_all : (P : ThresholdKey → Type 0) (place : ℕ) → 12 ≤ place → NoneBelow P place → (t : ℕ) → At P t → ⊥
none_at_all P place le none t p = none t (let lt : t < 12 = within_and P serving_order t p in omega arith) p

-- the first that asks is served
pub served_here : (eviction : EvictionConfig) (before : List TickObs) (tick : TickObs) (place : ℕ) (key : ThresholdKey)
    → slice_get serving_order place ≡ Some key
    → Asks eviction before tick key → NoneBelow (Asks eviction before tick) place
    → IsServed eviction before tick (Some key)
served_here eviction before tick place key at asks none =
    (Some place, record { holds = at_key (Asks eviction before tick) place key at asks; none_before = none }, sym at)

pub none_served : (eviction : EvictionConfig) (before : List TickObs) (tick : TickObs) (place : ℕ) → 12 ≤ place
    → NoneBelow (Asks eviction before tick) place
    → IsServed eviction before tick None
none_served eviction before tick place le none = (None, none_at_all (Asks eviction before tick) place le none, refl)

-- a place below twelve has a threshold, and one alone
pub key_at : (xs : List ThresholdKey) (place : ℕ) → place < length xs → (key : ThresholdKey)
    × (slice_get xs place ≡ Some key)
key_at [] place lt = absurd (omega arith)
key_at (x ∷ xs) zero lt = (x, refl)
key_at (x ∷ xs) (suc place) lt = key_at xs place (omega arith)

pub one_key : (place : ℕ) (key other : ThresholdKey) → slice_get serving_order place ≡ Some key
    → slice_get serving_order place ≡ Some other → key ≡ other
one_key place key other at there = let both : Some key ≡ Some other = sym at ∙ there in cc

pub some_met : (eviction : EvictionConfig) (condition : NodeCondition) (ticks : List TickObs) (place : ℕ) → place < 12
    → ((key : ThresholdKey) → slice_get serving_order place ≡ Some key → Meets eviction condition ticks key)
    → (IsTrue true ↔ IsMet eviction condition ticks)
some_met eviction condition ticks place lt meets =
    let here = key_at serving_order place lt in
    ((λ t. (place, at_key (Meets eviction condition ticks) place here.0 here.1 (meets here.0 here.1))), (λ met. refl))

pub none_met : (eviction : EvictionConfig) (condition : NodeCondition) (ticks : List TickObs) (place : ℕ) → 12 ≤ place
    → NoneBelow (Meets eviction condition ticks) place
    → (IsTrue false ↔ IsMet eviction condition ticks)
none_met eviction condition ticks place le none = (
  (λ t. let e : false ≡ true = t in absurd (cc)),
  (λ met. absurd (none_at_all (Meets eviction condition ticks) place le none met.0 met.1)),
)
