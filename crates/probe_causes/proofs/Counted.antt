-- The ticks that count, with one more tick.
use Rattle.std.proofs.Common.{◌≡◌, ◌∙◌, ◌⊎◌, inl, inr, ℕ, zero, suc, ◌<◌, List, [], ◌∷◌, ◌++◌, length, take, Option}
use Rattle.std.proofs.Common.{Some, None, append-nil, arith}
use Rattle.std.proofs.lemmas.List.{length_push, drop_all, take-append-drop}
use Rattle.manifest.specs.rule.Probe.{Probe}
use Rattle.histories.specs.rule.Histories.{ComesTrue, up_to}
use Rattle.histories.specs.state.Histories.{Lasts}
use Rattle.histories.proofs.Growth.{grows_so}
use Rattle.histories.proofs.Lasting.{Lasts-all}
use Rattle.histories.proofs.Lists.{given_at, take_more}
use Rattle.probes.specs.rule.Ticks.{Tick, HasPassed, IsStarted}
use Rattle.probes.specs.rule.Container.{AreCounted}
use Rattle.probes.proofs.Counted.{passed_lasts, passed_by, AreCounted-unique, AreCounted-more}
use Rattle.probes.proofs.Determined.{counted_of}
use Rattle.probes.proofs.Decided.{started_or_not}

-- they are a back part of all ticks
pub counted_back : (startup : Option Probe) (start : ℕ) (ticks c : List Tick) → AreCounted startup start ticks c
    → (front : List Tick) × (front ++ c ≡ ticks)
counted_back None start ticks c is = ([], is)
counted_back (Some p) start ticks c (inl (t, f, is)) = (take (suc t) ticks, rw is (take-append-drop (suc t) ticks))
counted_back (Some p) start ticks c (inr (never, is)) = (ticks, rw is (append-nil ticks))

-- where some count, startup has passed
pub started_by : (startup : Option Probe) (start : ℕ) (ticks c : List Tick) → (c ≡ [] → ⊥)
    → AreCounted startup start ticks c → IsStarted startup start ticks
started_by None start ticks c some is = tt
started_by (Some p) start ticks c some (inl (t, f, is)) = passed_by p start ticks t f
started_by (Some p) start ticks c some (inr (never, is)) = absurd (some is)

-- where startup had not passed before a tick, none counts after it
none_counts : (startup : Option Probe) (start : ℕ) (ticks : List Tick) (next : Tick) (c : List Tick)
    → (IsStarted startup start ticks → ⊥) → AreCounted startup start (ticks ++ next ∷ []) c → c ≡ []
none_counts None start ticks next c not is = absurd (not tt)
none_counts (Some p) start ticks next c not (inr (never, is)) = is
none_counts (Some p) start ticks next c not (inl (t, f, is)) =
    elim ((grows_so (HasPassed p start) ticks next).split t f.holds) [
      | inl old ↦ absurd (not (Lasts-all (HasPassed p start) ticks t (passed_lasts p start) old))
      | inr now ↦
          let at : t ≡ length ticks = now.0 in
          is ∙ drop_all (suc t) (ticks ++ next ∷ []) (omega (arith, length_push ticks next))
    ]

-- with one more tick it counts too, where startup had passed; else none does
pub counted_next : (startup : Option Probe) (start : ℕ) (ticks : List Tick) (next : Tick) (c : List Tick)
    → AreCounted startup start (ticks ++ next ∷ []) c
    → ((before : List Tick) × AreCounted startup start ticks before × IsStarted startup start ticks
    × (c ≡ before ++ next ∷ []))
    ⊎ (c ≡ [])
counted_next startup start ticks next c are = elim (started_or_not startup start ticks) [
  | inl started ↦
      let w = counted_of startup start ticks in
      let more = AreCounted-more startup start ticks (next ∷ []) w.0 started w.1 in
      inl (w.0, w.1, started, AreCounted-unique startup start (ticks ++ next ∷ []) c _ are more)
  | inr not ↦ inr (none_counts startup start ticks next c not are)
]

-- what comes true at a tick did not hold of the ticks before it
pub not_before : (P : List Tick → Type 0) (ticks : List Tick) (t : ℕ) → Lasts P → ComesTrue P ticks t
    → P (take t ticks) → ⊥
not_before P ticks zero lasts comes before = lasts.none before
not_before P ticks (suc u) lasts comes before =
    let within : suc u < length ticks = comes.holds.within in
    comes.none_before u (omega arith) (record { within = omega arith; so = before })

-- the ticks up to a tick are those before it, and it
pub up_to_more : (ticks : List Tick) (t : ℕ) → t < length ticks
    → (next : Tick) × (up_to ticks t ≡ take t ticks ++ next ∷ [])
up_to_more ticks t within =
    let w = given_at ticks t within in
    (w.0, take_more ticks t w.0 w.1)
