-- The report of a summary.
use Rattle.std.proofs.Common.{◌≡◌, ◌∙◌, ℕ, List, ◌++◌, length, ap}
use Rattle.std.specs.List.{flat_map}
use Rattle.manifest.specs.declared.pod.PodSpec.{PodSpec}
use Rattle.node_config.specs.declared.node.NodeConfig.{NodeConfig}
use Rattle.observations.specs.declared.tick.TickObs.{TickObs}
use Rattle.pod_piece.specs.rule.Piece.{Piece}
use Rattle.pod_piece.specs.state.Piece.{pods_in}
use Rattle.event_list.specs.rule.Text.{event_line}
use Rattle.node_rounds.specs.declared.summary.Summary.{Summary}
use Rattle.node_rounds.specs.state.Summary.{IsSummary}
use Rattle.node_rounds.proofs.Candidates.{pods_are}
use Rattle.node_report.specs.rule.Lines.{header_line, node_condition_line, eviction_text, totals_line}
use Rattle.node_report.specs.rule.Report.{AreLines, IsReport}
use Rattle.node_report.proofs.Parts.{six_parts}

pub report_is : (config : NodeConfig) (pods : List PodSpec) (ticks : List TickObs) (s : Summary)
    (first with_events lines with_pods with_conditions with_evictions last whole : List ℕ)
    (named : List Piece) → named ≡ s.pods.now → IsSummary config pods ticks s
    → first ≡ header_line s.name.now (length s.pods.now) s.ticks
    → with_events ≡ first ++ flat_map (event_line (pods_in named)) s.events.now
    → AreLines ticks s.evictions.now pods lines
    → with_pods ≡ with_events ++ lines
    → with_conditions ≡ with_pods ++ flat_map node_condition_line s.conditions
    → with_evictions ≡ with_conditions ++ flat_map (eviction_text (pods_in named)) s.evictions.now
    → last ≡ totals_line s.totals
    → whole ≡ with_evictions ++ last
    → IsReport config ticks pods whole
report_is config pods ticks s first with_events lines with_pods with_conditions with_evictions last whole
    named same is
    header events are pieces conditions evictions totals end = record {
      evictions = s.evictions.now;
      are_evictions = is.evictions;
      events = s.events.now;
      are_events = is.events;
      pod_lines = lines;
      are_pod_lines = are;
      conditions = s.conditions;
      are_conditions = is.conditions;
      text =
          six_parts first (flat_map (event_line (pods_in named)) s.events.now) lines
          (flat_map node_condition_line s.conditions) (flat_map (eviction_text (pods_in named)) s.evictions.now) last
          with_events with_pods with_conditions with_evictions whole events pieces conditions evictions end
          ∙ (ap (λ (l : List ℕ). of l (pods_in named) last) (header ∙ title)
          ∙ (ap (λ (ps : List PodSpec). of (header_line config.name (length pods) (length ticks)) ps last)
          (ap pods_in same ∙ pods_are config pods ticks s.evictions.now s.pods.now is.pods)
          ∙ ap (of (header_line config.name (length pods) (length ticks)) pods) (totals ∙ ap totals_line is.totals)));
    }
  where
    of : List ℕ → List PodSpec → List ℕ → List ℕ
    of header ps end =
        header
        ++ (flat_map (event_line ps) s.events.now
        ++ (lines ++ (flat_map node_condition_line s.conditions
        ++ (flat_map (eviction_text ps) s.evictions.now ++ end))))

    title : header_line s.name.now (length s.pods.now) s.ticks ≡ header_line config.name (length pods) (length ticks)
    title =
        ap (λ (name : List ℕ). header_line name (length s.pods.now) s.ticks) is.name
        ∙ (ap (λ (n : ℕ). header_line config.name n s.ticks) is.pods.as_many
        ∙ ap (λ (n : ℕ). header_line config.name (length pods) n) is.ticks)
