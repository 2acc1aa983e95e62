use Rattle.std.proofs.Common.{List, ◌∷◌, [], ◌++◌, length, refl}
use Rattle.std.specs.Prelude.{◌↔◌, IsTrue, ℕ}
use Rattle.histories.specs.rule.Histories.{recorded}
use Rattle.manifest.specs.declared.pod.ContainerSpec.{ContainerSpec}
use Rattle.state_diff.specs.state.Differ.{IsStateOf as IsDifferOf, AreChanges}
use Rattle.containers.specs.rule.Ticks.{ContainerTick, listings, BelongsTo}
use Rattle.containers.specs.state.Container.{IsFollowing}
use Rattle.containers.proofs.TickLemmas.{onto, onto_at}
use Rattle.containers.proofs.FollowLemmas.{IsBegun, takes_is, begun_is, follows_more, verdicts_are}
use Rattle.containers.proofs.container.Container.follow.Goals as goal

module _ (c : goal.After-take-verdicts) (spec : ContainerSpec) (h : List ContainerTick)
    (is : IsFollowing spec h c.args.self.now) where
  abbrev x : ContainerTick
  x = recorded c.args.at c.args.observed

  -- where the listings lead with the tick, what it changes, and whether its results are of an instance
  differ : IsDifferOf (listings (h ++ x ∷ [])) c.step-changes.new.self
  differ = onto (λ k. IsDifferOf k c.step-changes.new.self) h x (c.step-changes.ensures.state (listings h) is.differ)

  changes : AreChanges (listings (h ++ x ∷ [])) (length h) c.step-changes.result
  changes =
      onto_at (λ k t. AreChanges k t c.step-changes.result) h x (c.step-changes.ensures.changes (listings h) is.differ)

  begun : IsBegun spec x c.step-changes.result c.args.self.now.probes c.begin.new.probes
  begun =
      begun_is spec x c.step-changes.result c.args.self.now.probes c.begin.new.probes c.is_some.result
      c.is_some.ensures (c.begin.ensures.begins spec.probes) c.begin.ensures.idle

  takes : IsTrue c.lists_running-takes.result ↔ ((a : ℕ) × BelongsTo a (h ++ x ∷ []))
  takes =
      takes_is h x c.step-changes.new.self c.newest.result c.lists_running-takes.result differ
      (c.newest.ensures _ differ) c.lists_running-takes.ensures

pub returns-clause-followed : goal.returns-clause-followed
returns-clause-followed c = λ spec h is.
    follows_more spec h (recorded c.args.at c.args.observed) c.args.self.now _ c.begin.new.probes c.step-changes.result
    c.lists_running-takes.result is c.requires.accepted (differ c spec h is) (changes c spec h is) (begun c spec h is)
    refl (takes c spec h is) (c.take-verdicts.ensures.state spec.probes) c.take-verdicts.ensures.idle

pub returns-clause-changes : goal.returns-clause-changes
returns-clause-changes c = changes c

pub returns-clause-verdicts : goal.returns-clause-verdicts
returns-clause-verdicts c = λ spec h is.
    verdicts_are spec h (recorded c.args.at c.args.observed) c.args.self.now c.step-changes.new.self c.begin.new.probes
    c.step-changes.result c.lists_running-takes.result c.take-verdicts.result is (differ c spec h is)
    (changes c spec h is) (begun c spec h is) (takes c spec h is) (c.take-verdicts.ensures.verdicts spec.probes)
    c.take-verdicts.ensures.some c.take-verdicts.ensures.none
