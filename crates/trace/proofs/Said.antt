-- What every line that counts keeps holds of the whole trace.
use Rattle.std.proofs.Common.{◌≡◌, ℕ, zero, suc, List, length, Option, Some, Ok, sym, subst, inl, inr}
use Rattle.manifest.specs.declared.pod.PodSpec.{PodSpec}
use Rattle.observations.specs.declared.tick.TickObs.{TickObs}
use Rattle.node_config.specs.declared.node.Format.{Format}
use Rattle.node_config.specs.declared.node.NodeConfig.{NodeConfig}
use Rattle.trace.specs.declared.trace_so_far.Trace.{Trace}
use Rattle.json_lines.specs.rule.Lines.{lines_of}
use Rattle.roster.specs.rule.Roll.{roll}
use Rattle.trace.specs.rule.TraceSoFar.{TraceSoFar}
use Rattle.trace.specs.rule.Trace.{nothing, trace_of}
use Rattle.trace.specs.state.Laws.{AreSaid, Says}
use Rattle.trace.proofs.LawLemmas.{whole_trace}
use Rattle.trace.proofs.LawLemmas.Saying.{all_checks}

-- it holds where nothing is said, and after each line
pub record IsKept (P : TraceSoFar → Type 0) : Type 0 where
  pub first : (format : Format) → P (nothing format)
  pub line : (past : TraceSoFar) (line : List ℕ) (next : TraceSoFar) → P past → Says past line next → P next

-- what the lines of a trace say, read by a format
abbrev pub past_of : Format → Trace → TraceSoFar
past_of format trace = record {
  format = format;
  node = Some trace.node;
  roll = roll trace.pods trace.arrivals trace.departures;
  ticks = trace.ticks;
}

all_said : (P : TraceSoFar → Type 0) → IsKept P → (format : Format) (lines : List (List ℕ)) (n : ℕ) (past : TraceSoFar)
    → AreSaid format lines n past → P past
all_said P kept format lines zero past said = subst P (sym said) (kept.first format)
all_said P kept format lines (suc n) past (before, line, said, here, inl blank) =
    subst P (sym blank.1) (all_said P kept format lines n before said)
all_said P kept format lines (suc n) past (before, line, said, here, inr counts) =
    kept.line before line past (all_said P kept format lines n before said) ((all_checks before line past).0 counts.1)

pub of_trace : (P : TraceSoFar → Type 0) → IsKept P → (format : Format) (text : List ℕ) (trace : Trace)
    → trace_of format text ≡ Ok trace → (by : Format) × P (past_of by trace)
of_trace P kept format text trace e =
    let whole = (whole_trace format text trace).0 e in
    let past = whole.past in
    let by = past.format in
    let holds : P past = all_said P kept format (lines_of text) (length (lines_of text)) past whole.said in
    let of : Option NodeConfig → List PodSpec → List ℕ → List (Option ℕ) → List TickObs → TraceSoFar =
    λ node pods arrivals departures ticks.
    record { format = by; node = node; roll = roll pods arrivals departures; ticks = ticks } in
    let r = past.roll in
    let node = subst (λ (o : Option NodeConfig). P (of o r.pods r.arrivals r.departures past.ticks)) whole.node holds in
    let pods = subst (λ (ps : List PodSpec). P (of (Some trace.node) ps r.arrivals r.departures past.ticks))
    whole.pods node in
    let arrivals =
    subst (λ (arrived : List ℕ). P (of (Some trace.node) trace.pods arrived r.departures past.ticks))
    whole.arrivals pods in
    let departures =
    subst (λ (ds : List (Option ℕ)). P (of (Some trace.node) trace.pods trace.arrivals ds past.ticks))
    whole.departures arrivals in (
      by,
      subst (λ (ts : List TickObs). P (of (Some trace.node) trace.pods trace.arrivals trace.departures ts))
          whole.ticks departures,
    )
