use Rattle.std.proofs.Common.{◌∙◌, ap, sym, w32}
use Rattle.std.proofs.lemmas.Int.{to_z-of_z}
use Rattle.observations.specs.state.PackedContainer.{seen_as}
use Rattle.observations.proofs.KeptAs.{one_seen, one_exited}
use Rattle.observations.proofs.packed_container.seen.Goals as goal

pub returns-in-Created : goal.returns-in-Created
returns-in-Created c = one_seen c.args.attempt _ _ _ _ ∙ ap (λ s. seen_as s c.args.attempt c.args.code)
    (sym c.in-Created.is)

pub returns-in-Running : goal.returns-in-Running
returns-in-Running c = one_seen c.args.attempt _ _ _ _ ∙ ap (λ s. seen_as s c.args.attempt c.args.code)
    (sym c.in-Running.is)

pub returns-in-Exited : goal.returns-in-Exited
returns-in-Exited c =
    one_exited c.args.attempt _ c.args.code _ (to_z-of_z w32 c.args.code c.ranges.code)
    ∙ ap (λ s. seen_as s c.args.attempt c.args.code) (sym c.in-Exited.is)

pub returns-in-Unknown : goal.returns-in-Unknown
returns-in-Unknown c = one_seen c.args.attempt _ _ _ _ ∙ ap (λ s. seen_as s c.args.attempt c.args.code)
    (sym c.in-Unknown.is)
