use Rattle.std.proofs.Common.{◌≡◌, ◌++◌, drop, length, take}
use Rattle.trace.specs.state.Noted.{AreUnknown}
use Rattle.trace.specs.state.Slots.{with_others}
use Rattle.trace.proofs.slots.with_others.Given as goal

abbrev pub invariant-loop-number : goal.invariant-loop-number
invariant-loop-number l = record {
  unknown : AreUnknown l.containers.items;
  long : length l.slots.items ≡ length l.pod-items;
  shown : take l.number l.slots.items
      ++ with_others l.at l.roster.departures l.number (drop l.number l.pod-items) (drop l.number l.slots.items)
      ≡ with_others l.at l.roster.departures 0 l.pod-items l.fn.slots.items;
}
