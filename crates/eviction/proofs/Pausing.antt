-- By which eviction others pause, tick after tick.
use Rattle.std.proofs.Common.{◌≡◌, ℕ, ◌-◌, ◌<◌, ◌≤◌, Bool, true, false, List, [], ◌∷◌, ◌++◌, length}
use Rattle.std.proofs.Common.{Option, Some, None, nat_lt, refl, sym, ap, ◌∙◌, arith, append_assoc}
use Rattle.std.specs.Prelude.{◌||◌, ◌&&◌, not, IfSome, if◌then◌else◌}
use Rattle.std.specs.List.{list_any}
use Rattle.std.specs.Option.{option_or}
use Rattle.std.proofs.lemmas.Bool.{ltb-false, le-ltb}
use Rattle.observations.specs.declared.tick.TickObs.{TickObs}
use Rattle.node_config.specs.declared.node.NodeConfig.{NodeConfig}
use Rattle.eviction.specs.declared.eviction.Eviction.{Eviction}
use Rattle.eviction.specs.rule.Replay.{is_over_in, is_paused, pauses, pause_in, ends_early}
use Rattle.eviction.specs.state.Pausing.{IsPausing, still}

or_false : (b : Bool) → b || false ≡ b
or_false true = refl
or_false false = refl

or_assoc : (a b c : Bool) → a || (b || c) ≡ (a || b) || c
or_assoc true b c = refl
or_assoc false b c = refl

and_false : (b : Bool) → b && false ≡ false
and_false true = refl
and_false false = refl

none_paused : (config : NodeConfig) (at : ℕ) (ticks : List TickObs) → is_paused config at ticks [] ≡ false
none_paused config at [] = refl
none_paused config at (tick ∷ ticks) = refl

-- with one more eviction
paused_more : (config : NodeConfig) (at : ℕ) (ticks : List TickObs) (es : List (Option Eviction)) (x : TickObs)
    (e : Option Eviction) (later : List TickObs) → length es ≡ length ticks
    → is_paused config at ((ticks ++ x ∷ []) ++ later) (es ++ e ∷ [])
    ≡ is_paused config at (ticks ++ x ∷ later) es || pauses config at e later
paused_more config at [] [] x e later len =
    ap (λ (b : Bool). pauses config at e later || b) (none_paused config at later) ∙ or_false (pauses config at e later)
paused_more config at [] (f ∷ es) x e later len = absurd (omega arith)
paused_more config at (t ∷ ticks) [] x e later len = absurd (omega arith)
paused_more config at (t ∷ ticks) (f ∷ es) x e later len =
    ap (λ (b : Bool). pauses config at f ((ticks ++ x ∷ []) ++ later) || b)
    (paused_more config at ticks es x e later (omega arith))
    ∙ or_assoc (pauses config at f ((ticks ++ x ∷ []) ++ later)) (is_paused config at (ticks ++ x ∷ later) es)
    (pauses config at e later)
    ∙ ap (λ (l : List TickObs). (pauses config at f l || is_paused config at (ticks ++ x ∷ later) es)
    || pauses config at e later) (append_assoc ticks (x ∷ []) later)

-- a tick more to look at, where it may end the pause
looked : (ago until over rest : Bool) (e : Eviction) (pauses_by : Option Eviction → Bool) → pauses_by None ≡ false
    → pauses_by (Some e) ≡ ago && not (until && rest)
    → ago && not (until && (over || rest)) ≡ pauses_by (if until && over then None else Some e)
looked ago true true rest e pauses_by none some = and_false ago ∙ sym none
looked ago true false rest e pauses_by none some = sym some
looked ago false over rest e pauses_by none some = sym some

pauses_still : (config : NodeConfig) (at : ℕ) (x : TickObs) (p : Option Eviction) (later : List TickObs)
    → pauses config at p (x ∷ later) ≡ pauses config at (still config x p) later
pauses_still config at x None later = refl
pauses_still config at x (Some e) later =
    looked (nat_lt (at - e.order.at) (pause_in config)) config.pauses_until_gone (is_over_in e.pod x)
    (list_any (is_over_in e.pod) later) e (λ (p : Option Eviction). pauses config at p later) refl refl

-- a pause that is over stays over
over_stays : (config : NodeConfig) (m at : ℕ) (p : Option Eviction) (later : List TickObs) → m ≤ at
    → pauses config m p [] ≡ false → pauses config at p later ≡ false
over_stays config m at None later le over = refl
over_stays config m at (Some e) later le over =
    let passed : nat_lt (m - e.order.at) (pause_in config) ≡ false =
    by (nat_lt (m - e.order.at) (pause_in config)) config.pauses_until_gone over in
    let long : pause_in config ≤ m - e.order.at = ltb-false (m - e.order.at) (pause_in config) passed in
    let longer : nat_lt (at - e.order.at) (pause_in config) ≡ false =
    le-ltb (at - e.order.at) (pause_in config) (omega (arith, long, le)) in
    ap (λ (b : Bool). b && not (ends_early config e later)) longer
  where
    by : (ago until : Bool) → ago && not (until && false) ≡ false → ago ≡ false
    by true true e = absurd (cc)
    by true false e = absurd (cc)
    by false until e = refl

pub none_pausing : (config : NodeConfig) → IsPausing config [] [] None None
none_pausing config = record { decides = λ at later from. none_paused config at later }

-- whether evictions pause in the tick that comes next
pub paused_now : (config : NodeConfig) (ticks : List TickObs) (es : List (Option Eviction)) (last : Option ℕ)
    (p : Option Eviction) (x : TickObs) → IsPausing config ticks es last p → IfSome last (λ moment. moment < x.at)
    → is_paused config x.at (ticks ++ x ∷ []) es ≡ pauses config x.at (still config x p) []
paused_now config ticks es last p x is later =
    is.decides x.at (x ∷ []) (not_before last later) ∙ pauses_still config x.at x p []
  where
    not_before : (o : Option ℕ) → IfSome o (λ moment. moment < x.at) → IfSome o (λ moment. moment ≤ x.at)
    not_before None lt = lt
    not_before (Some m) lt = let before : m < x.at = lt in omega (arith, before)

-- once a tick and its eviction were added
pub pausing_more : (config : NodeConfig) (ticks : List TickObs) (es : List (Option Eviction)) (last : Option ℕ)
    (p : Option Eviction) (x : TickObs) (e : Option Eviction) → length es ≡ length ticks
    → IsPausing config ticks es last p → IfSome last (λ moment. moment < x.at)
    → IfSome e (λ eviction. pauses config x.at (still config x p) [] ≡ false)
    → IsPausing config (ticks ++ x ∷ []) (es ++ e ∷ []) (Some x.at) (option_or e (still config x p))
pausing_more config ticks es last p x e len is later free = record { decides = decides }
  where
    not_before : (at : ℕ) → x.at ≤ at → (o : Option ℕ) → IfSome o (λ moment. moment < x.at)
        → IfSome o (λ moment. moment ≤ at)
    not_before at le None lt = lt
    not_before at le (Some m) lt = let before : m < x.at = lt in omega (arith, before, le)

    added : (at : ℕ) (rest : List TickObs) (f : Option Eviction) → x.at ≤ at
        → IfSome f (λ eviction. pauses config x.at (still config x p) [] ≡ false)
        → pauses config at (still config x p) rest || pauses config at f rest
        ≡ pauses config at (option_or f (still config x p)) rest
    added at rest None le none = or_false (pauses config at (still config x p) rest)
    added at rest (Some eviction) le none =
        ap (λ (b : Bool). b || pauses config at (Some eviction) rest)
        (over_stays config x.at at (still config x p) rest le none)

    decides : (at : ℕ) (rest : List TickObs) → IfSome (Some x.at) (λ moment. moment ≤ at)
        → is_paused config at ((ticks ++ x ∷ []) ++ rest) (es ++ e ∷ [])
        ≡ pauses config at (option_or e (still config x p)) rest
    decides at rest from =
        let le : x.at ≤ at = from in
        paused_more config at ticks es x e rest len
        ∙ ap (λ (b : Bool). b || pauses config at e rest)
        (is.decides at (x ∷ rest) (not_before at le last later) ∙ pauses_still config at x p rest)
        ∙ added at rest e le free
