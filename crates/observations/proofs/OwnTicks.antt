-- A pod's own ticks, and the listings of its containers: with one tick more, and before one of them.
use Rattle.std.proofs.Common.{◌≡◌, ◌∙◌, ℕ, zero, suc, ◌-◌, ◌<◌, List, [], ◌∷◌, ◌++◌, length, map, take, append-nil}
use Rattle.std.proofs.Common.{Option, Some, None, refl, ap, sym, subst, arith}
use Rattle.std.specs.Prelude.{slice_get, option_and_then, IfSome}
use Rattle.std.specs.List.{cons_option}
use Rattle.std.proofs.lemmas.List.{map_push, map-append, length-append}
use Rattle.std.proofs.lemmas.List.Elements.{filter_map-append}
use Rattle.histories.specs.rule.Histories.{recorded, moment_at, last_moment}
use Rattle.histories.specs.state.Histories.{EndsBefore}
use Rattle.state_diff.specs.declared.seen.Seen.{Seen}
use Rattle.state_diff.specs.rule.Instances.{Tick, seen_at}
use Rattle.state_diff.specs.state.Instances.{IsAcceptable, IsAcceptableHistory}
use Rattle.observations.specs.rule.Pods.{PodObs}
use Rattle.observations.specs.declared.tick.TickObs.{TickObs}
use Rattle.observations.specs.rule.Observations.{shown_of, listed_in, own_ticks, history}
use Rattle.observations.specs.state.Observations.{seen_of}

-- a tick that has an observation of the pod is its own
pub own_more : (ticks : List TickObs) (tick : TickObs) (pod : ℕ) (shown : PodObs) → shown_of tick pod ≡ Some shown
    → own_ticks (ticks ++ tick ∷ []) pod ≡ own_ticks ticks pod ++ shown ∷ []
own_more ticks tick pod shown is =
    filter_map-append (λ (t : TickObs). shown_of t pod) ticks (tick ∷ [])
    ∙ ap (λ (o : Option PodObs). own_ticks ticks pod ++ cons_option o []) is

-- any other is not
pub own_rests : (ticks : List TickObs) (tick : TickObs) (pod : ℕ) → shown_of tick pod ≡ None
    → own_ticks (ticks ++ tick ∷ []) pod ≡ own_ticks ticks pod
own_rests ticks tick pod none =
    filter_map-append (λ (t : TickObs). shown_of t pod) ticks (tick ∷ [])
    ∙ ap (λ (o : Option PodObs). own_ticks ticks pod ++ cons_option o []) none
    ∙ append-nil (own_ticks ticks pod)

-- what a tick lists of a container is what its observation of the pod does
pub seen_shown : (tick : TickObs) (pod container : ℕ) (shown : PodObs) → shown_of tick pod ≡ Some shown
    → seen_of tick pod container ≡ listed_in shown container
seen_shown tick pod container shown is =
    ap (λ (o : Option PodObs). option_and_then (λ (p : PodObs). listed_in p container) o) is

pub seen_nowhere : (tick : TickObs) (pod container : ℕ) → shown_of tick pod ≡ None → seen_of tick pod container ≡ None
seen_nowhere tick pod container none =
    ap (λ (o : Option PodObs). option_and_then (λ (p : PodObs). listed_in p container) o) none

-- the listings after a tick that shows the pod
pub history_shown : (ticks : List TickObs) (tick : TickObs) (pod container : ℕ) (shown : PodObs)
    → shown_of tick pod ≡ Some shown
    → history (ticks ++ tick ∷ []) pod container ≡ history ticks pod container ++ recorded shown.at
    (listed_in shown container) ∷ []
history_shown ticks tick pod container shown is =
    let f : PodObs → Tick = λ p. recorded p.at (listed_in p container) in
    ap (map f) (own_more ticks tick pod shown is) ∙ map_push f (own_ticks ticks pod) shown

-- at its moment
pub history_more : (ticks : List TickObs) (tick : TickObs) (pod container : ℕ) (shown : PodObs)
    → shown_of tick pod ≡ Some shown → shown.at ≡ tick.at
    → history (ticks ++ tick ∷ []) pod container ≡ history ticks pod container ++ recorded tick.at
    (seen_of tick pod container) ∷ []
history_more ticks tick pod container shown is moment =
    history_shown ticks tick pod container shown is
    ∙ ap (λ (m : ℕ). history ticks pod container ++ recorded m (listed_in shown container) ∷ []) moment
    ∙ ap (λ (s : Option Seen). history ticks pod container ++ recorded tick.at s ∷ [])
    (sym (seen_shown tick pod container shown is))

-- and after a tick that doesn't show it
pub history_rests : (ticks : List TickObs) (tick : TickObs) (pod container : ℕ) → shown_of tick pod ≡ None
    → history (ticks ++ tick ∷ []) pod container ≡ history ticks pod container
history_rests ticks tick pod container none =
    ap (map (λ (p : PodObs). recorded p.at (listed_in p container))) (own_rests ticks tick pod none)

in_front : (shown : PodObs) (o : Option PodObs) (all before rest : List PodObs) → all ≡ before ++ shown ∷ rest
    → cons_option o all ≡ cons_option o before ++ shown ∷ rest
in_front shown None all before rest e = e
in_front shown (Some p) all before rest e = ap (λ (ps : List PodObs). p ∷ ps) e

-- the own ticks before one of them, and that one
own_split : (ticks : List TickObs) (i pod : ℕ) (tick : TickObs) (shown : PodObs) → slice_get ticks i ≡ Some tick
    → shown_of tick pod ≡ Some shown
    → (rest : List PodObs) × (own_ticks ticks pod ≡ own_ticks (take i ticks) pod ++ shown ∷ rest)
own_split [] i pod tick shown here is = absurd (cc)
own_split (x ∷ xs) zero pod tick shown here is =
    let same : x ≡ tick = cc in (
      own_ticks xs pod,
      ap (λ (o : Option PodObs). cons_option o (own_ticks xs pod))
          (ap (λ (t : TickObs). shown_of t pod) same ∙ is),
    )
own_split (x ∷ xs) (suc i) pod tick shown here is =
    let later = own_split xs i pod tick shown here is in
    (later.0, in_front shown (shown_of x pod) (own_ticks xs pod) (own_ticks (take i xs) pod) later.0 later.1)

-- the listings before a tick that shows the pod, and its own
pub history_split : (ticks : List TickObs) (i pod container : ℕ) (tick : TickObs) (shown : PodObs)
    → slice_get ticks i ≡ Some tick → shown_of tick pod ≡ Some shown
    → (rest : List Tick) × (history ticks pod container ≡ history (take i ticks) pod container ++ recorded shown.at
    (listed_in shown container) ∷ rest)
history_split ticks i pod container tick shown here is =
    let f : PodObs → Tick = λ p. recorded p.at (listed_in p container) in
    let split = own_split ticks i pod tick shown here is in
    (map f split.0, ap (map f) split.1 ∙ map-append f (own_ticks (take i ticks) pod) (shown ∷ split.0))

at_seam : (before : List Tick) (x : Tick) (rest : List Tick) → IsAcceptableHistory (before ++ x ∷ rest)
    → IsAcceptable before x.entry
at_seam before x rest all =
    let here = all (length before) (omega (arith, length-append before (x ∷ rest))) in
    subst (λ (h : List Tick). IsAcceptable h x.entry) (taken before)
    (subst (λ (o : Option Seen). IsAcceptable (take (length before) (before ++ x ∷ rest)) o) (seen before) here)
  where
    taken : (h : List Tick) → take (length h) (h ++ x ∷ rest) ≡ h
    taken [] = refl
    taken (y ∷ h) = ap (λ (ys : List Tick). y ∷ ys) (taken h)

    seen : (h : List Tick) → seen_at (h ++ x ∷ rest) (length h) ≡ x.entry
    seen [] = refl
    seen (y ∷ h) = seen h

-- what a tick lists may come after the pod's own ticks before it
pub acceptable_at : (ticks : List TickObs) (i pod container : ℕ) (tick : TickObs) (shown : PodObs)
    → slice_get ticks i ≡ Some tick → shown_of tick pod ≡ Some shown
    → IsAcceptableHistory (history ticks pod container) → IsAcceptable (history (take i ticks) pod container)
    (listed_in shown container)
acceptable_at ticks i pod container tick shown here is all =
    let split = history_split ticks i pod container tick shown here is in
    at_seam (history (take i ticks) pod container) (recorded shown.at (listed_in shown container)) split.0
    (subst IsAcceptableHistory split.1 all)

-- each observation of the pod is before the moment
abbrev pub AreBefore : List TickObs → ℕ → ℕ → Type 0
AreBefore ticks pod moment = (t : ℕ) (tick : TickObs) (shown : PodObs) → slice_get ticks t ≡ Some tick
    → shown_of tick pod ≡ Some shown → shown.at < moment

moment_before : (container moment n : ℕ) (own : List PodObs) (o : Option PodObs)
    → ((shown : PodObs) → o ≡ Some shown → shown.at < moment)
    → ((t : ℕ) → moment_at (map (λ (p : PodObs). recorded p.at (listed_in p container)) own) t ≡ Some n → n < moment)
    → (t : ℕ) → moment_at (map (λ (p : PodObs). recorded p.at (listed_in p container)) (cons_option o own)) t ≡ Some n
    → n < moment
moment_before container moment n own None first rest t e = rest t e
moment_before container moment n own (Some p) first rest zero e = let at : p.at ≡ n = cc in
    subst (λ (m : ℕ). m < moment) at (first p refl)
moment_before container moment n own (Some p) first rest (suc t) e = rest t e

moments_before : (ticks : List TickObs) (pod container moment : ℕ) → AreBefore ticks pod moment → (n t : ℕ)
    → moment_at (history ticks pod container) t ≡ Some n → n < moment
moments_before [] pod container moment below n t e = absurd (cc)
moments_before (x ∷ xs) pod container moment below n t e =
    let rest = moments_before xs pod container moment (λ u tick shown here is. below (suc u) tick shown here is) n in
    moment_before container moment n (own_ticks xs pod) (shown_of x pod) (λ shown is. below 0 x shown refl is) rest t e

-- so the listings end before it
pub history_ends_before : (ticks : List TickObs) (pod container moment : ℕ) → AreBefore ticks pod moment
    → EndsBefore (history ticks pod container) moment
history_ends_before ticks pod container moment all =
    last (last_moment (history ticks pod container))
    (λ n e. moments_before ticks pod container moment all n (length (history ticks pod container) - 1) e)
  where
    last : (o : Option ℕ) → ((n : ℕ) → o ≡ Some n → n < moment) → IfSome o (λ n. n < moment)
    last None below = tt
    last (Some n) below = below n refl
