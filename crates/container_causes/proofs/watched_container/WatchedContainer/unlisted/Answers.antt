use Rattle.std.proofs.Common.{refl}
use Rattle.container_causes.proofs.ListingLemmas.{unlisted_found}
use Rattle.container_causes.proofs.watched_container.WatchedContainer.unlisted.Goals as goal

pub returns : goal.returns
returns c = λ spec max_restart_delay h x a is gone.
    unlisted_found h x a _ _ _ (is.before h x refl) is.last gone c.unlisted_by.ensures
