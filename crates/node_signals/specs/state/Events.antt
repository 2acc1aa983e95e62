-- Events that are added to those there were.
use Rattle.std.specs.Prelude.{◌≡◌, List, ◌++◌}
use Rattle.node_signals.specs.declared.event.NodeEvent.{NodeEvent}
use Rattle.node_signals.specs.rule.Events.{AreGiven}

-- the events of these items are added to those there were
abbrev pub Adds : {A : Type 0} → (A → NodeEvent → Type 0) → List A → List NodeEvent → List NodeEvent → Type 0
Adds P items old new = (added : List NodeEvent) × AreGiven P items added × (new ≡ old ++ added)
