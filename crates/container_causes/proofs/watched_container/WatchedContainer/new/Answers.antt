use Rattle.std.proofs.Common.{◌≡◌, ◌++◌, ◌∷◌, [], None, Some, refl, ap, length, arith}
use Rattle.std.proofs.lemmas.List.{length_push}
use Rattle.container_causes.proofs.CountedLemmas.{none_counted}
use Rattle.container_causes.proofs.watched_container.WatchedContainer.new.Goals as goal

pub returns : goal.returns
returns c = record {
  container = c.new.ensures;
  follows = refl;
  results = λ a start newest starts. absurd (let e : None ≡ Some start = starts.2 in cc);
  runs_on = λ a start newest starts lives. absurd (let e : None ≡ Some start = starts.2 in cc);
  count = none_counted;
  last = (None, refl, refl);
  before = λ front x e. absurd (omega (arith, length_push front x, ap length e));
}
