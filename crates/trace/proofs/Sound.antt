-- The ticks of a trace are acceptable, and their moments rise.
use Rattle.std.proofs.Common.{◌≡◌, ℕ, ◌+◌, false, true, List, [], ◌∷◌, ◌++◌, Option, Some, None, Result, Ok, Err}
use Rattle.std.proofs.Common.{refl, sym, subst, arith}
use Rattle.std.specs.Prelude.{codes, IfOk}
use Rattle.histories.specs.rule.Histories.{recorded}
use Rattle.json_fields.specs.rule.Fields.{field_at}
use Rattle.state_diff.specs.rule.Acceptable.{is_acceptable}
use Rattle.state_diff.specs.declared.seen.Seen.{Seen}
use Rattle.state_diff.specs.rule.Instances.{Tick}
use Rattle.state_diff.specs.state.Instances.{IsAcceptableHistory}
use Rattle.state_diff.proofs.Acceptable.{is_acceptable_is}
use Rattle.state_diff.proofs.Order.{acceptable_more}
use Rattle.observations.specs.declared.tick.TickObs.{TickObs}
use Rattle.observations.specs.rule.Pods.{PodObs}
use Rattle.observations.specs.rule.Observations.{shown_of, listed_in, history}
use Rattle.observations.specs.state.Observations.{seen_of}
use Rattle.observations.proofs.OwnTicks.{seen_shown, history_shown, history_rests}
use Rattle.node_config.specs.declared.node.Format.{Format}
use Rattle.line_faults.specs.declared.fault.LineFault.{LineFault}
use Rattle.trace.specs.declared.trace_so_far.Trace.{Trace}
use Rattle.following.specs.rule.Backwards.{is_backwards}
use Rattle.trace.specs.state.Memory.{GivesAt}
use Rattle.trace.specs.state.Laws.{Says, says_node, says_pod, says_gone, says_tick}
use Rattle.trace.specs.rule.Observed.{observed}
use Rattle.trace.specs.rule.TraceSoFar.{TraceSoFar, heeds}
use Rattle.trace.specs.state.Sound.{AreAcceptable, AreRising}
use Rattle.trace.specs.rule.Trace.{trace_of}
use Rattle.following.proofs.Forwards.{pods_forwards}
use Rattle.trace.proofs.Moments.{rising-more, moment_later}
use Rattle.trace.proofs.Said.{IsKept, of_trace}

record IsSound (past : TraceSoFar) : Type 0 where
  pub acceptable : AreAcceptable past.ticks
  pub rising : AreRising past.ticks

-- ticks that are acceptable, and one more that doesn't go back behind them
tick_acceptable : (ticks : List TickObs) (tick : TickObs) → AreAcceptable ticks → is_backwards ticks tick ≡ false
    → AreAcceptable (ticks ++ tick ∷ [])
tick_acceptable ticks tick all e pod container = after (shown_of tick pod) refl
  where
    h : List Tick
    h = history ticks pod container

    here : is_acceptable h (seen_of tick pod container) ≡ true
    here =
        let zeroth : 0 + pod ≡ pod = omega arith in
        subst (λ (k : ℕ). is_acceptable (history ticks k container) (seen_of tick pod container) ≡ true) zeroth
        (pods_forwards ticks 0 tick.pods e pod container)

    after : (o : Option PodObs) → shown_of tick pod ≡ o
        → IsAcceptableHistory (history (ticks ++ tick ∷ []) pod container)
    after None none = subst IsAcceptableHistory (sym (history_rests ticks tick pod container none)) (all pod container)
    after (Some shown) is =
        let listed = listed_in shown container in
        let accepted : is_acceptable h listed ≡ true =
        subst (λ (o : Option Seen). is_acceptable h o ≡ true) (seen_shown tick pod container shown is) here in
        let next = acceptable_more h (recorded shown.at listed) (all pod container)
        ((is_acceptable_is h listed).0 accepted) in
        subst IsAcceptableHistory (sym (history_shown ticks tick pod container shown is)) next

line_sound : (past : TraceSoFar) (line : List ℕ) (next : TraceSoFar) → IsSound past → Says past line next → IsSound next
line_sound past line _ all (says_node d node is e) = record { acceptable = all.acceptable; rising = all.rising }
line_sound past line _ all (says_pod d pod is new) = record { acceptable = all.acceptable; rising = all.rising }
line_sound past line _ all (says_gone d number is named) =
    record { acceptable = all.acceptable; rising = all.rising }
line_sound past line _ all (says_tick d at written placed is coded) =
    let tick = observed (heeds past) at written placed past.roll in
    let later = moment_later past.ticks (field_at (codes "at") d) at
    is.is_apart.has_places.has_written.has_moment.moment in
    record {
      acceptable = tick_acceptable past.ticks tick all.acceptable is.forwards;
      rising =
          rising-more past.ticks tick all.rising later;
    }

kept : IsKept IsSound
kept = record {
  first = λ format. record {
    acceptable = λ pod container t lt. absurd
        (omega arith);
    rising = λ t u x y lt e f. absurd (cc);
  };
  line = line_sound;
}

-- what a call answers that gives this trace
pub given_acceptable : (format : Format) (text : List ℕ) (answer : Result Trace LineFault)
    → GivesAt (λ t. t) answer (trace_of format text) → IfOk answer (λ t. AreAcceptable t.ticks)
given_acceptable format text (Ok trace) given = (of_trace IsSound kept format text trace given).1.acceptable
given_acceptable format text (Err fault) given = tt

pub given_rising : (format : Format) (text : List ℕ) (answer : Result Trace LineFault)
    → GivesAt (λ t. t) answer (trace_of format text) → IfOk answer (λ t. AreRising t.ticks)
given_rising format text (Ok trace) given = (of_trace IsSound kept format text trace given).1.rising
given_rising format text (Err fault) given = tt
