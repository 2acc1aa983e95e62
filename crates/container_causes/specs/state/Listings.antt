-- What two ticks give of an instance that is no longer listed.
use Rattle.std.specs.Prelude.{option_map}
use Rattle.state_diff.specs.declared.seen.Seen.{Seen}
use Rattle.container_causes.specs.declared.listing_causes.Unlisted.{Unlisted}
use Rattle.container_causes.specs.declared.listing_causes.KeptTick.{KeptTick}

-- the tick before listed it so, and this one lists another, or none
abbrev pub unlisted_of : KeptTick → KeptTick → Seen → Unlisted
unlisted_of before last was = record {
  attempt = was.attempt;
  instead = option_map (λ (s : Seen). s.attempt) last.seen;
  before = before.at;
  state = was.state;
}
