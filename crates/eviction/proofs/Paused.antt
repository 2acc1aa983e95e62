-- Between two evictions the pause passes, or it ends early.
use Rattle.std.proofs.Common.{◌≡◌, ◌⊎◌, ℕ, zero, suc, ◌-◌, ◌<◌, ◌≤◌, Bool, true, false, List, [], ◌∷◌, ◌++◌}
use Rattle.std.proofs.Common.{length, take, drop, Option, Some, None, nat_lt, refl, sym, ap, subst, ◌∙◌, arith, inl}
use Rattle.std.proofs.Common.{inr}
use Rattle.std.specs.Prelude.{slice_get, ◌||◌, ◌&&◌, not}
use Rattle.std.specs.List.{list_any}
use Rattle.std.proofs.lemmas.Bool.{cases_Bool, ltb-false}
use Rattle.std.proofs.lemmas.List.{take-append-drop}
use Rattle.std.proofs.lemmas.Option.{slice_get_within}
use Rattle.histories.proofs.Lists.{given_at, place_split, slice_get-kept}
use Rattle.manifest.specs.declared.pod.PodSpec.{PodSpec}
use Rattle.observations.specs.declared.tick.TickObs.{TickObs}
use Rattle.node_config.specs.declared.node.NodeConfig.{NodeConfig}
use Rattle.node_signals.specs.declared.key.ThresholdKey.{ThresholdKey}
use Rattle.eviction.specs.declared.eviction.Eviction.{Eviction}
use Rattle.eviction.specs.rule.Replay.{IsEvictionFor, is_over_in, pauses, is_paused, pause_in, unless_paused}
use Rattle.eviction.specs.state.Laws.{PausedBetween}
use Rattle.eviction.proofs.Evicted.{taken, chosen, moment_of}

-- an item that passes a test
some_passes : {A : Type 0} (test : A → Bool) (xs : List A) → list_any test xs ≡ true
    → (i : ℕ) × (x : A) × (slice_get xs i ≡ Some x) × (test x ≡ true)
some_passes test [] some = absurd (cc)
some_passes test (y ∷ xs) some = elim (cases_Bool (test y)) [
  | inl passes ↦ (zero, y, refl, passes)
  | inr fails ↦
      let next = some_passes test xs (rw fails at some) in
      (suc next.0, next.1, next.2, next.3)
]

-- neither of two is so
abbrev Neither : Bool → Bool → Type 0
Neither a b = (a ≡ false) × (b ≡ false)

neither : (a b : Bool) → a || b ≡ false → Neither a b
neither true b e = absurd (cc)
neither false b e = (refl, e)

-- an eviction's pause has passed, or some of the ticks behind it have ended it
abbrev HasPassed : NodeConfig → ℕ → List TickObs → ℕ → Eviction → Type 0
HasPassed config at ticks t e = (nat_lt (at - e.order.at) (pause_in config) ≡ false)
    ⊎ ((config.pauses_until_gone ≡ true)
    × ((k : ℕ) × (x : TickObs) × (t < k) × (slice_get ticks k ≡ Some x) × (is_over_in e.pod x ≡ true)))

passed_at : (config : NodeConfig) (at : ℕ) (x : TickObs) (later : List TickObs) (e : Eviction)
    → pauses config at (Some e) later ≡ false → HasPassed config at (x ∷ later) zero e
passed_at config at x later e free =
    by (nat_lt (at - e.order.at) (pause_in config)) config.pauses_until_gone
    (list_any (is_over_in e.pod) later) refl refl refl free
  where
    by : (ago until some : Bool) → nat_lt (at - e.order.at) (pause_in config) ≡ ago → config.pauses_until_gone ≡ until
        → list_any (is_over_in e.pod) later ≡ some → ago && not (until && some) ≡ false
        → HasPassed config at (x ∷ later) zero e
    by false until some is is' is'' none = inl is
    by true true true is is' is'' none =
        let found = some_passes (is_over_in e.pod) later is'' in
        inr (is', (suc found.0, found.1, omega arith, found.2, found.3))
    by true true false is is' is'' none = absurd (cc)
    by true false some is is' is'' none = absurd (cc)

passed : (config : NodeConfig) (at : ℕ) (ticks : List TickObs) (es : List (Option Eviction)) (t : ℕ) (e : Eviction)
    → is_paused config at ticks es ≡ false → length es ≤ length ticks → slice_get es t ≡ Some (Some e)
    → HasPassed config at ticks t e
passed config at ticks [] t e free many is = absurd (cc)
passed config at [] (f ∷ es) t e free many is = absurd (omega arith)
passed config at (x ∷ ticks) (f ∷ es) zero e free many is =
    let same : f ≡ Some e = cc in
    let none = neither (pauses config at f ticks) (is_paused config at ticks es) free in
    passed_at config at x ticks e (subst (λ (o : Option Eviction). pauses config at o ticks ≡ false) same none.0)
passed config at (x ∷ ticks) (f ∷ es) (suc t) e free many is =
    let none = neither (pauses config at f ticks) (is_paused config at ticks es) free in
    elim (passed config at ticks es t e none.1 (omega arith) is) [
      | inl ago ↦ inl ago
      | inr early ↦ inr (early.0, (suc early.1.0, early.1.1, omega (arith, early.1.2), early.1.3, early.1.4))
    ]

-- a place among the first ticks and the one behind them
first_and : (ticks : List TickObs) (u k : ℕ) (tick x : TickObs) → slice_get ticks u ≡ Some tick
    → slice_get (take u ticks ++ tick ∷ []) k ≡ Some x → (k ≤ u) × (slice_get ticks k ≡ Some x)
first_and ticks u k tick x at is =
    let lt : u < length ticks = slice_get_within ticks u tick at in
    let many : length (take u ticks) ≡ u = long ticks u lt in
    elim (place_split (take u ticks) tick x k is) [
      | inl before ↦
          let below : k < length (take u ticks) = slice_get_within (take u ticks) k x before in
          let whole = slice_get-kept (take u ticks) (drop u ticks) k x before in (
            omega (arith, below, many),
            subst (λ (l : List TickObs). slice_get l k ≡ Some x) (take-append-drop u ticks) whole,
          )
      | inr here ↦
          let place : k ≡ u = here.0 ∙ many in (
            omega (arith, place),
            subst (λ (n : ℕ). slice_get ticks n ≡ Some x) (sym place)
                (subst (λ (y : TickObs). slice_get ticks u ≡ Some y) here.1 at),
          )
    ]
  where
    long : (xs : List TickObs) (n : ℕ) → n < length xs → length (take n xs) ≡ n
    long [] n lt = absurd (omega arith)
    long (y ∷ xs) zero lt = refl
    long (y ∷ xs) (suc n) lt = ap suc (long xs n (omega arith))

-- while evictions pause nobody is evicted
pub evicts_unpaused : (config : NodeConfig) (pods : List PodSpec) (before : List TickObs) (tick : TickObs)
    (es : List (Option Eviction)) (paused : Bool) (served : Option ThresholdKey) (eviction : Eviction)
    → IsEvictionFor config pods before tick es (unless_paused paused served) (Some eviction) → paused ≡ false
evicts_unpaused config pods before tick es true served eviction is =
    absurd (let none : Some eviction ≡ None = is in cc)
evicts_unpaused config pods before tick es false served eviction is = refl

pub paused_between : PausedBetween
paused_between config pods ticks evictions t u one other replay lt here there =
    let below : u < length evictions = slice_get_within evictions u (Some other) there in
    let many : length evictions ≡ length ticks = replay.as_many in
    let tick = given_at ticks u (omega arith) in
    let round = replay.each u tick.0 (Some other) tick.1 there in
    let es = take u evictions in
    let up_to = take u ticks ++ tick.0 ∷ [] in
    let choice = chosen config pods (take u ticks) tick.0 es other round in
    let free = evicts_unpaused config pods (take u ticks) tick.0 es (is_paused config tick.0.at up_to es) choice.served
    other choice.is_for in
    let moment : other.order.at ≡ tick.0.at = moment_of config pods (take u ticks) tick.0 es other round in
    elim (passed config tick.0.at up_to es t one free (as_many evictions ticks u tick.0 many)
    (taken evictions t u (Some one) lt here)) [
      | inl ago ↦
          let le : pause_in config ≤ tick.0.at - one.order.at =
          ltb-false (tick.0.at - one.order.at) (pause_in config) ago in
          inl (subst (λ (m : ℕ). pause_in config ≤ m - one.order.at) (sym moment) le)
      | inr early ↦
          let place = first_and ticks u early.1.0 tick.0 early.1.1 tick.1 early.1.3 in
          inr (
            early.0,
            record {
              place = early.1.0;
              after = early.1.2;
              until = place.0;
              tick = early.1.1;
              at = place.1;
              is_over = early.1.4;
            },
          )
    ]
  where
    as_many : (es : List (Option Eviction)) (xs : List TickObs) (n : ℕ) (x : TickObs) → length es ≡ length xs
        → length (take n es) ≤ length (take n xs ++ x ∷ [])
    as_many [] xs zero x len = omega arith
    as_many [] xs (suc n) x len = omega arith
    as_many (e ∷ es) [] n x len = absurd (omega arith)
    as_many (e ∷ es) (y ∷ xs) zero x len = omega arith
    as_many (e ∷ es) (y ∷ xs) (suc n) x len =
        let rest = as_many es xs n x (omega arith) in omega (arith, rest)
