use Rattle.quantity.specs.state.Duration.{HasSeconds}
use Rattle.quantity.proofs.DurationMeaning.{duration_complete}
use Rattle.quantity.proofs.StepsPassed.{refused_of}
use Rattle.quantity.proofs.duration.seconds_of.Goals as goal

pub returns-clause-refused : goal.returns-clause-refused
returns-clause-refused c = refused_of (HasSeconds c.args.text.now) c.read_duration.result _ c.read_duration.ensures
    (duration_complete c.args.text.now)
