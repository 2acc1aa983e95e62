use Rattle.std.proofs.Common.{◌≡◌, drop}
use Rattle.trace.specs.rule.Observed.{seen_in}
use Rattle.trace.proofs.tick.seen_in.Given as goal

abbrev pub invariant-loop-listing : goal.invariant-loop-listing
invariant-loop-listing l = seen_in (drop l.listing-index l.listings) l.container ≡ seen_in l.listings l.container
