use Rattle.std.proofs.Common.{◌∙◌, refl}
use Rattle.container_causes.proofs.ListingLemmas.{kept_moment, kept_listing}
use Rattle.container_causes.proofs.watched_container.WatchedContainer.listed.Goals as goal

pub returns : goal.returns
returns c = λ spec max_restart_delay h x is started.
    let before = is.before h x refl in
    record {
      started = started;
      last = before.0;
      is_last = before.1;
      before = c.moment_of.ensures ∙ kept_moment before.0 _ before.2;
      was = c.listing_of.ensures ∙ kept_listing before.0 _ before.2;
    }
