-- The moments of ticks.
use Rattle.std.proofs.Common.{◌≡◌, ℕ, zero, suc, ◌-◌, ◌<◌, ◌&&◌, cond, Bool, true, false, List, [], ◌∷◌, ◌++◌, length}
use Rattle.std.proofs.Common.{map, Option, Some, None, Ok, Err, refl, sym, subst, arith}
use Rattle.std.specs.Prelude.{slice_get, option_map, option_and_then, nat_lt, IfSome}
use Rattle.std.proofs.lemmas.Bool.{ltb-true}
use Rattle.std.proofs.lemmas.List.{length-map, map_push}
use Rattle.quantity.specs.rule.Duration.{end_of_time}
use Rattle.serde_json.specs.Data.{Data}
use Rattle.serde_json.specs.Find.{as_number, as_u64}
use Rattle.histories.specs.rule.Histories.{Recorded, recorded, moment_at, last_moment}
use Rattle.histories.specs.state.Histories.{IsRising, EndsBefore}
use Rattle.histories.proofs.Moments.{IsRising-more}
use Rattle.line_faults.specs.declared.fault.FaultKind.TheVariants.{Moment}
use Rattle.observations.specs.declared.tick.TickObs.{TickObs}
use Rattle.following.specs.state.Followed.{EndBefore}
use Rattle.trace.specs.state.Sound.{AreRising}
use Rattle.trace.specs.rule.Tick.{is_later, moment_from, moment_of}

-- the ticks at their moments
abbrev stamped : List TickObs → List (Recorded TickObs)
stamped ticks = map (λ (tick : TickObs). recorded tick.at tick) ticks

moment_at-stamped : (ticks : List TickObs) (t : ℕ)
    → moment_at (stamped ticks) t ≡ option_map (λ (tick : TickObs). tick.at) (slice_get ticks t)
moment_at-stamped [] t = refl
moment_at-stamped (x ∷ xs) zero = refl
moment_at-stamped (x ∷ xs) (suc t) = moment_at-stamped xs t

-- the tick whose moment it is
tick_of_moment : (ticks : List TickObs) (t m : ℕ) → moment_at (stamped ticks) t ≡ Some m
    → (tick : TickObs) × (slice_get ticks t ≡ Some tick) × (tick.at ≡ m)
tick_of_moment [] t m e = absurd (cc)
tick_of_moment (x ∷ xs) zero m e = (x, refl, cc)
tick_of_moment (x ∷ xs) (suc t) m e = tick_of_moment xs t m e

last_moment-stamped : (ticks : List TickObs) → last_moment (stamped ticks) ≡ option_map (λ (tick : TickObs). tick.at)
    (slice_get ticks (length ticks - 1))
last_moment-stamped ticks =
    let f : TickObs → Recorded TickObs = λ t. recorded t.at t in
    rw (length-map ticks f) (moment_at-stamped ticks (length ticks - 1))

stamped-ends_before : (ticks : List TickObs) (moment : ℕ) → EndBefore ticks moment → EndsBefore (stamped ticks) moment
stamped-ends_before ticks moment before =
    subst (λ (o : Option ℕ). IfSome o (λ last. last < moment)) (sym (last_moment-stamped ticks))
    (of_tick (slice_get ticks (length ticks - 1)) before)
  where
    of_tick : (o : Option TickObs) → IfSome o (λ last. last.at < moment)
        → IfSome (option_map (λ (tick : TickObs). tick.at) o) (λ last. last < moment)
    of_tick None before = tt
    of_tick (Some tick) before = before

-- the moments of ticks rise where they do as a history
stamped-rising : (ticks : List TickObs) → AreRising ticks → IsRising (stamped ticks)
stamped-rising ticks rising t u m n lt e f =
    let earlier = tick_of_moment ticks t m e in
    let later = tick_of_moment ticks u n f in
    let is : earlier.0.at < later.0.at = rising t u earlier.0 later.0 lt earlier.1 later.1 in
    let m_is : earlier.0.at ≡ m = earlier.2 in
    let n_is : later.0.at ≡ n = later.2 in
    omega arith

rising-stamped : (ticks : List TickObs) → IsRising (stamped ticks) → AreRising ticks
rising-stamped ticks rising t u earlier later lt e f =
    rising t u earlier.at later.at lt (rw (moment_at-stamped ticks t, e) refl) (rw (moment_at-stamped ticks u, f) refl)

-- one tick more, later than the last one
pub rising-more : (ticks : List TickObs) (tick : TickObs) → AreRising ticks → EndBefore ticks tick.at
    → AreRising (ticks ++ tick ∷ [])
rising-more ticks tick rising before =
    let more = IsRising-more (stamped ticks) (recorded tick.at tick) (stamped-rising ticks rising)
    (stamped-ends_before ticks tick.at before) in
    rising-stamped (ticks ++ tick ∷ [])
    (subst (λ (h : List (Recorded TickObs)). IsRising h)
    (sym (map_push (λ (t : TickObs). recorded t.at t) ticks tick)) more)

-- a tick's moment is later than the last one's
pub moment_later : (ticks : List TickObs) (found : Option Data) (at : ℕ) → moment_of ticks found ≡ Ok at
    → EndBefore ticks at
moment_later ticks found at e = of_number (option_and_then as_u64 (option_and_then as_number found)) e
  where
    later : (o : Option TickObs) (n : ℕ) → is_later o n ≡ true → IfSome o (λ last. last.at < n)
    later None n e = tt
    later (Some tick) n e = ltb-true tick.at n e

    of_number : (o : Option ℕ) → moment_from ticks o ≡ Ok at → EndBefore ticks at
    of_number None e = absurd (cc)
    of_number (Some n) e = here (nat_lt n end_of_time) (is_later (slice_get ticks (length ticks - 1)) n) refl e
      where
        here : (low late : Bool) → late ≡ is_later (slice_get ticks (length ticks - 1)) n
            → cond (low && late) (Ok n) (Err Moment) ≡ Ok at → EndBefore ticks at
        here true true is e = let same : n ≡ at = cc in
            subst (EndBefore ticks) same (later (slice_get ticks (length ticks - 1)) n (sym is))
        here true false is e = absurd (cc)
        here false late is e = absurd (cc)

-- and in range
pub moment_low : (ticks : List TickObs) (found : Option Data) (at : ℕ) → moment_of ticks found ≡ Ok at
    → at < end_of_time
moment_low ticks found at e = of_number (option_and_then as_u64 (option_and_then as_number found)) e
  where
    of_number : (o : Option ℕ) → moment_from ticks o ≡ Ok at → at < end_of_time
    of_number None e = absurd (cc)
    of_number (Some n) e = here (nat_lt n end_of_time) (is_later (slice_get ticks (length ticks - 1)) n) refl e
      where
        here : (low late : Bool) → low ≡ nat_lt n end_of_time → cond (low && late) (Ok n) (Err Moment) ≡ Ok at
            → at < end_of_time
        here true true is e = let same : n ≡ at = cc in
            subst (λ (m : ℕ). m < end_of_time) same (ltb-true n end_of_time (sym is))
        here true false is e = absurd (cc)
        here false late is e = absurd (cc)
