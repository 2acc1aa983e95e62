-- What a node has come to, by its state.
use Rattle.std.proofs.Common.{◌≡◌, ◌∙◌, List, length, Option, sym, ap, subst}
use Rattle.manifest.specs.declared.pod.PodSpec.{PodSpec}
use Rattle.node_config.specs.declared.node.NodeConfig.{NodeConfig}
use Rattle.observations.specs.declared.tick.TickObs.{TickObs}
use Rattle.node_signals.specs.state.Node.{IsStateOf}
use Rattle.pod_piece.specs.rule.Piece.{Piece}
use Rattle.eviction.specs.declared.eviction.Eviction.{Eviction}
use Rattle.eviction.specs.rule.Replay.{IsReplay}
use Rattle.event_list.specs.declared.event.Event.{Event}
use Rattle.event_list.specs.rule.Events.{AreEvents}
use Rattle.event_list.specs.rule.Totals.{totals_of}
use Rattle.node_rounds.specs.declared.summary.Summary.{Summary}
use Rattle.node_rounds.specs.state.Node.{State, ArePieces, HasTaken}
use Rattle.node_rounds.specs.rule.Summary.{AreConditionsAfter}
use Rattle.node_rounds.specs.state.Summary.{IsSummary}

-- it shows what the state keeps
pub record Shows (s : State) (summary : Summary) : Type 0 where
  pub name : summary.name.now ≡ s.config.name
  pub pods : summary.pods.now ≡ s.pods.pieces
  pub conditions : (config : NodeConfig) (ticks : List TickObs)
      → IsStateOf config.eviction config.eviction_pressure_transition_period ticks s.signals
      → AreConditionsAfter config ticks summary.conditions
  pub events : summary.events.now ≡ s.events
  pub evictions : summary.evictions.now ≡ s.evictions
  pub ticks : summary.ticks ≡ length s.evictions
  pub totals : summary.totals ≡ s.totals

pub shows_as : (s t : State) (summary : Summary) → s ≡ t → Shows s summary → Shows t summary
shows_as s t summary same shows = subst (λ (u : State). Shows u summary) same shows

pub summarizes : (config : NodeConfig) (pods : List PodSpec) (ticks : List TickObs) (s : State) (summary : Summary)
    → s.config ≡ config → HasTaken pods ticks s → Shows s summary → IsSummary config pods ticks summary
summarizes config pods ticks s summary is taken shows =
    subst (λ (c : NodeConfig). IsSummary c pods ticks summary) is (record {
      evictions =
          subst (λ (es : List (Option Eviction)). IsReplay s.config pods ticks es) (sym shows.evictions) taken.replay;
      name = shows.name;
      pods =
          subst (λ (ps : List Piece). ArePieces s.config pods ticks summary.evictions.now ps) (sym shows.pods)
          (subst (λ (es : List (Option Eviction)). ArePieces s.config pods ticks es s.pods.pieces) (sym shows.evictions)
          taken.pieces);
      conditions = shows.conditions s.config ticks taken.signals;
      events =
          subst (λ (evs : List Event). AreEvents s.config pods ticks summary.evictions.now evs) (sym shows.events)
          (subst (λ (es : List (Option Eviction)). AreEvents s.config pods ticks es s.events) (sym shows.evictions)
          taken.events);
      ticks = shows.ticks ∙ taken.replay.as_many;
      totals = shows.totals ∙ taken.totals ∙ ap (λ (evs : List Event). totals_of ticks evs) (sym shows.events);
    })
