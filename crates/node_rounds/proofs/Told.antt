-- What the round of a pod tells of each of its ticks.
use Rattle.std.proofs.Common.{◌≡◌, ◌∙◌, inl, inr, ℕ, suc, ◌+◌, ◌<◌, ◌≤◌, Bool, cond, List, [], ◌∷◌}
use Rattle.std.proofs.Common.{◌++◌, length, map, Option, Some, None, refl, ap, sym, subst, arith, append_assoc}
use Rattle.std.proofs.Common.{append-nil}
use Rattle.std.specs.Prelude.{IfSome}
use Rattle.std.specs.List.{cons_option, sum_by}
use Rattle.std.proofs.lemmas.Bool.Decides.{eqb_tells}
use Rattle.std.proofs.lemmas.List.Elements.{filter_map-append}
use Rattle.std.proofs.lemmas.List.Sums.{sum_by-cons, sum_by-append}
use Rattle.manifest.specs.declared.pod.PodSpec.{PodSpec}
use Rattle.observations.specs.rule.Pods.{PodObs}
use Rattle.observations.specs.declared.tick.TickObs.{TickObs}
use Rattle.observations.specs.rule.Observations.{shown_of, own_ticks}
use Rattle.pod_state.specs.declared.events.PodEvent.{PodEvent}
use Rattle.pod_state.specs.rule.Pods.{PodTick, pod_tick}
use Rattle.pod_state.specs.rule.Events.{AreEventsOf}
use Rattle.pod_piece.specs.state.Piece.{evicted_before}
use Rattle.pod_piece.specs.state.Made.{MadeEvent, made_at, AreMadeOver}
use Rattle.eviction.specs.rule.Replay.{pod_ticks}
use Rattle.event_list.specs.state.Tick.{event_at, events_at}

-- the events of a tick of the pod with the number, which comes after these ticks of the pod, if it shows the pod
abbrev pub TellsTick : PodSpec → ℕ → Option ℕ → List PodTick → Option PodObs → List PodEvent → Type 0
TellsTick pod max_restart_delay evicted before None events = events ≡ []
TellsTick pod max_restart_delay evicted before (Some observed) events =
    AreEventsOf pod max_restart_delay (evicted_before evicted (length before)) before (pod_tick observed) events

-- the pod's ticks, with what this one shows of it
abbrev pub with_own : List PodTick → Option PodObs → List PodTick
with_own before shown = before ++ map pod_tick (cons_option shown [])

-- of these events of a pod those at the moment of each of these ticks are the tick's
abbrev pub Tells : PodSpec → ℕ → Option ℕ → List PodTick → ℕ → List TickObs → List MadeEvent → Type 0
Tells pod max_restart_delay evicted before n [] made = Unit {0}
Tells pod max_restart_delay evicted before n (x ∷ ticks) made =
    TellsTick pod max_restart_delay evicted before (shown_of x n) (events_at x.at made)
    × Tells pod max_restart_delay evicted (with_own before (shown_of x n)) n ticks made

-- all events are before the moment, or behind it
abbrev AllBefore : ℕ → List MadeEvent → Type 0
AllBefore at [] = Unit {0}
AllBefore at (e ∷ made) = (e.at < at) × AllBefore at made

abbrev AllBehind : ℕ → List MadeEvent → Type 0
AllBehind at [] = Unit {0}
AllBehind at (e ∷ made) = (at < e.at) × AllBehind at made

-- each of the ticks is at this moment or later, and behind the one before it, and shows the pod at its own moment
abbrev pub AreBehind : ℕ → ℕ → List TickObs → Type 0
AreBehind from n [] = Unit {0}
AreBehind from n (x ∷ ticks) =
    (from ≤ x.at) × IfSome (shown_of x n) (λ observed. observed.at ≡ x.at) × AreBehind (suc x.at) n ticks

not_at : (at : ℕ) (e : MadeEvent) → (e.at ≡ at → ⊥) → event_at at e ≡ None
not_at at e apart = elim (eqb_tells e.at at) [
  | inl w ↦ absurd (apart w.1)
  | inr w ↦ ap (λ (b : Bool). cond b (Some e.event) None) w.0
]

none_before : (at : ℕ) (made : List MadeEvent) → AllBefore at made → events_at at made ≡ []
none_before at [] all = refl
none_before at (e ∷ made) all =
    ap (λ (o : Option PodEvent). cons_option o (events_at at made)) (not_at at e (λ is. omega (arith, all.0, is)))
    ∙ none_before at made all.1

none_behind : (at : ℕ) (made : List MadeEvent) → AllBehind at made → events_at at made ≡ []
none_behind at [] all = refl
none_behind at (e ∷ made) all =
    ap (λ (o : Option PodEvent). cons_option o (events_at at made)) (not_at at e (λ is. omega (arith, all.0, is)))
    ∙ none_behind at made all.1

all_at : (at m : ℕ) (events : List PodEvent) → m ≡ at → events_at at (made_at m events) ≡ events
all_at at m [] same = refl
all_at at m (e ∷ events) same = elim (eqb_tells m at) [
  | inl w ↦ ap (λ (b : Bool). cons_option (cond b (Some e) None) (events_at at (made_at m events))) w.0
      ∙ ap (λ (es : List PodEvent). e ∷ es) (all_at at m events same)
  | inr w ↦ absurd (w.1 same)
]

before_at : (at m : ℕ) (events : List PodEvent) → m < at → AllBefore at (made_at m events)
before_at at m [] lt = tt
before_at at m (e ∷ events) lt = (lt, before_at at m events lt)

behind_at : (at m : ℕ) (events : List PodEvent) → at < m → AllBehind at (made_at m events)
behind_at at m [] lt = tt
behind_at at m (e ∷ events) lt = (lt, behind_at at m events lt)

before_more : (at : ℕ) (made more : List MadeEvent) → AllBefore at made → AllBefore at more → AllBefore at
    (made ++ more)
before_more at [] more all rest = rest
before_more at (e ∷ made) more all rest = (all.0, before_more at made more all.1 rest)

behind_more : (at : ℕ) (made more : List MadeEvent) → AllBehind at made → AllBehind at more → AllBehind at
    (made ++ more)
behind_more at [] more all rest = rest
behind_more at (e ∷ made) more all rest = (all.0, behind_more at made more all.1 rest)

before_later : (at later : ℕ) (made : List MadeEvent) → at < later → AllBefore at made → AllBefore later made
before_later at later [] lt all = tt
before_later at later (e ∷ made) lt all = (omega (arith, lt, all.0), before_later at later made lt all.1)

-- the events of later ticks are behind the moment
own_cons : (x : TickObs) (ticks : List TickObs) (n : ℕ) (o : Option PodObs) → shown_of x n ≡ o
    → pod_ticks (x ∷ ticks) n ≡ map pod_tick (cons_option o (own_ticks ticks n))
own_cons x ticks n o is = ap (λ (s : Option PodObs). map pod_tick (cons_option s (own_ticks ticks n))) is

all_behind : (pod : PodSpec) (max_restart_delay : ℕ) (evicted : Option ℕ) (before : List PodTick) (n at : ℕ)
    (ticks : List TickObs) (made : List MadeEvent) → AreBehind (suc at) n ticks
    → AreMadeOver pod max_restart_delay evicted before (pod_ticks ticks n) made → AllBehind at made
all_behind pod max_restart_delay evicted before n at [] made behind none =
    subst (λ (m : List MadeEvent). AllBehind at m) (sym none) tt
all_behind pod max_restart_delay evicted before n at (x ∷ ticks) made behind over =
    by (shown_of x n) refl behind.1 (λ from more are lt. all_behind pod max_restart_delay evicted from n at ticks
    more lt are)
  where
    over_of : (o : Option PodObs) → shown_of x n ≡ o
        → AreMadeOver pod max_restart_delay evicted before (map pod_tick (cons_option o (own_ticks ticks n))) made
    over_of o is = subst (λ (h : List PodTick). AreMadeOver pod max_restart_delay evicted before h made)
        (own_cons x ticks n o is) over

    sooner : (ticks : List TickObs) → AreBehind (suc x.at) n ticks → AreBehind (suc at) n ticks
    sooner [] all = tt
    sooner (y ∷ ticks) all = (omega (arith, behind.0, all.0), all.1, all.2)

    by : (o : Option PodObs) → shown_of x n ≡ o → IfSome (shown_of x n) (λ observed. observed.at ≡ x.at)
        → ((from : List PodTick) (more : List MadeEvent)
        → AreMadeOver pod max_restart_delay evicted from (pod_ticks ticks n) more → AreBehind (suc at) n ticks
        → AllBehind at more) → AllBehind at made
    by None is moment rest = rest before made (over_of None is) (sooner ticks behind.2)
    by (Some o) is moment rest =
        let parts = over_of (Some o) is in
        let same : o.at ≡ x.at =
        subst (λ (s : Option PodObs). IfSome s (λ observed. observed.at ≡ x.at)) is moment in
        subst (λ (m : List MadeEvent). AllBehind at m) (sym parts.4)
        (behind_more at (made_at o.at parts.0) parts.1 (behind_at at o.at parts.0 (omega (arith, same, behind.0)))
        (rest (before ++ pod_tick o ∷ []) parts.1 parts.3 (sooner ticks behind.2)))

-- the weights of the events of a round, added up
abbrev pub weight_of : (PodEvent → ℕ) → List MadeEvent → ℕ
weight_of f made = sum_by (λ (e : MadeEvent). f e.event) made

weight_at : (f : PodEvent → ℕ) (m : ℕ) (events : List PodEvent) → weight_of f (made_at m events) ≡ sum_by f events
weight_at f m [] = refl
weight_at f m (e ∷ events) =
    sum_by-cons (λ (x : MadeEvent). f x.event) (record { at = m; event = e }) (made_at m events)
    ∙ ap (λ n. f e + n) (weight_at f m events) ∙ sym (sum_by-cons f e events)

-- of these events, which are the last of all, those at the moments of these ticks are the ticks', and no other is there
pub record AreTold (pod : PodSpec) (max_restart_delay : ℕ) (evicted : Option ℕ) (before : List PodTick) (n : ℕ)
    (ticks : List TickObs) (made all : List MadeEvent) : Type 0 where
  pub tells : Tells pod max_restart_delay evicted before n ticks all
  pub weighs : (f : PodEvent → ℕ) → weight_of f made ≡ sum_by (λ (x : TickObs). sum_by f (events_at x.at all)) ticks

-- so the events of a round tell of each tick
pub told_from : (pod : PodSpec) (max_restart_delay : ℕ) (evicted : Option ℕ) (before : List PodTick) (n from : ℕ)
    (ticks : List TickObs) (front made all : List MadeEvent) → all ≡ front ++ made → AllBefore from front
    → AreBehind from n ticks → AreMadeOver pod max_restart_delay evicted before (pod_ticks ticks n) made
    → AreTold pod max_restart_delay evicted before n ticks made all
told_from pod max_restart_delay evicted before n from [] front made all is past behind over = record {
  tells = tt;
  weighs = λ f. ap (weight_of f) over;
}
told_from pod max_restart_delay evicted before n from (x ∷ ticks) front made all is past behind over =
    by (shown_of x n) refl behind.1 (λ later before_it more whole gone_by are.
    told_from pod max_restart_delay evicted later n (suc x.at) ticks before_it more all whole gone_by behind.2 are)
  where
    over_of : (o : Option PodObs) → shown_of x n ≡ o
        → AreMadeOver pod max_restart_delay evicted before (map pod_tick (cons_option o (own_ticks ticks n))) made
    over_of o is = subst (λ (h : List PodTick). AreMadeOver pod max_restart_delay evicted before h made)
        (own_cons x ticks n o is) over

    earlier : (front : List MadeEvent) → AllBefore from front → AllBefore x.at front
    earlier [] all = tt
    earlier (e ∷ front) all = (omega (arith, all.0, behind.0), earlier front all.1)

    gone : AllBefore x.at front
    gone = earlier front past

    still : AllBefore (suc x.at) front
    still = before_later x.at (suc x.at) front (omega arith) gone

    sums : (f : PodEvent → ℕ) (events : List PodEvent) → events_at x.at all ≡ events
        → sum_by (λ (y : TickObs). sum_by f (events_at y.at all)) (x ∷ ticks)
        ≡ sum_by f events + sum_by (λ (y : TickObs). sum_by f (events_at y.at all)) ticks
    sums f events here =
        sum_by-cons (λ (y : TickObs). sum_by f (events_at y.at all)) x ticks
        ∙ ap (λ (es : List PodEvent). sum_by f es + sum_by (λ (y : TickObs). sum_by f (events_at y.at all)) ticks) here

    by : (o : Option PodObs) → shown_of x n ≡ o → IfSome (shown_of x n) (λ observed. observed.at ≡ x.at)
        → ((later : List PodTick) (before_it more : List MadeEvent) → all ≡ before_it ++ more
        → AllBefore (suc x.at) before_it → AreMadeOver pod max_restart_delay evicted later (pod_ticks ticks n) more
        → AreTold pod max_restart_delay evicted later n ticks more all)
        → AreTold pod max_restart_delay evicted before n (x ∷ ticks) made all
    by None none moment rest =
        let behind_it = all_behind pod max_restart_delay evicted before n x.at ticks made behind.2
        (over_of None none) in
        let empty : events_at x.at all ≡ [] = ap (events_at x.at) is
        ∙ filter_map-append (event_at x.at) front made
        ∙ ap (λ (es : List PodEvent). es ++ events_at x.at made) (none_before x.at front gone)
        ∙ none_behind x.at made behind_it in
        let told = rest (with_own before None) front made is still
        (subst (λ (h : List PodTick). AreMadeOver pod max_restart_delay evicted h (pod_ticks ticks n) made)
        (sym (append-nil before)) (over_of None none)) in
        record {
          tells = subst (λ (o : Option PodObs). TellsTick pod max_restart_delay evicted before o (events_at x.at all)
              × Tells pod max_restart_delay evicted (with_own before o) n ticks all) (sym none) (empty, told.tells);
          weighs = λ f.
              let sum : List TickObs → ℕ = λ xs. sum_by (λ (y : TickObs). sum_by f (events_at y.at all)) xs in
              let those : weight_of f made ≡ sum ticks = told.weighs f in
              let none : sum (x ∷ ticks) ≡ 0 + sum ticks = sums f [] empty in
              omega (arith, those, none);
        }
    by (Some o) shown moment rest =
        let parts = over_of (Some o) shown in
        let same : o.at ≡ x.at =
        subst (λ (s : Option PodObs). IfSome s (λ observed. observed.at ≡ x.at)) shown moment in
        let behind_it = all_behind pod max_restart_delay evicted (before ++ pod_tick o ∷ []) n x.at ticks parts.1
        behind.2
        parts.3 in
        let here : events_at x.at all ≡ parts.0 = ap (events_at x.at) (is ∙ ap (λ m. front ++ m) parts.4)
        ∙ filter_map-append (event_at x.at) front (made_at o.at parts.0 ++ parts.1)
        ∙ ap (λ (es : List PodEvent). es ++ events_at x.at (made_at o.at parts.0 ++ parts.1))
        (none_before x.at front gone)
        ∙ filter_map-append (event_at x.at) (made_at o.at parts.0) parts.1
        ∙ ap (λ (es : List PodEvent). es ++ events_at x.at parts.1) (all_at x.at o.at parts.0 same)
        ∙ ap (λ (es : List PodEvent). parts.0 ++ es) (none_behind x.at parts.1 behind_it)
        ∙ append-nil parts.0 in
        let told = rest (before ++ pod_tick o ∷ []) (front ++ made_at o.at parts.0) parts.1
        (is ∙ ap (λ m. front ++ m) parts.4 ∙ sym (append_assoc front (made_at o.at parts.0) parts.1))
        (before_more (suc x.at) front (made_at o.at parts.0) still
        (before_at (suc x.at) o.at parts.0 (omega (arith, same)))) parts.3 in
        record {
          tells = subst (λ (s : Option PodObs). TellsTick pod max_restart_delay evicted before s (events_at x.at all)
              × Tells pod max_restart_delay evicted (with_own before s) n ticks all) (sym shown) (
                subst (λ (es : List PodEvent). AreEventsOf pod max_restart_delay (evicted_before evicted
                    (length before))
                    before (pod_tick o) es) (sym here) parts.2,
                told.tells,
              );
          weighs = λ f.
              ap (weight_of f) parts.4
              ∙ sum_by-append (λ (e : MadeEvent). f e.event) (made_at o.at parts.0) parts.1
              ∙ ap (λ n. n + weight_of f parts.1) (weight_at f o.at parts.0)
              ∙ ap (λ n. sum_by f parts.0 + n) (told.weighs f)
              ∙ sym (sums f parts.0 here);
        }
