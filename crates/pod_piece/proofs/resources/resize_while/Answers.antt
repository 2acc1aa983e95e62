use Rattle.std.proofs.Common.{◌≡◌, ◌∙◌, Bool, length, ap, sym, arith}
use Rattle.std.specs.Prelude.{if◌then◌else◌}
use Rattle.pod_piece.specs.state.Resources.{resized_by}
use Rattle.pod_piece.proofs.ResourceLemmas.{length-resized, unresized}
use Rattle.pod_piece.proofs.resources.resize_while.Goals as goal
use Rattle.pod_piece.proofs.resources.resize_while.Goals.{else-counts-via-then-counts+else-not-is_empty}
use Rattle.pod_piece.proofs.resources.resize_while.Goals.{else-counts-via-else-counts}

pub of-requires : goal.of-requires
of-requires c =
    omega (
      arith,
      ap length c.deref.ensures.value,
      ap length c.resize_each.ensures,
      length-resized c.args.resizes.now 0 c.args.resources.now.items,
      c.requires.many,
    )

pub returns-else-counts-clause-now : goal.returns-else-counts-clause-now
returns-else-counts-clause-now c =
    let old = c.args.resources.now.items in
    let resizes = c.args.resizes.now in
    elim c.else-counts.branch [
      | else-counts-via-then-counts+else-not-is_empty w ↦
          sym (ap (λ (b : Bool). if b then resized_by resizes 0 old else old) w.if-counts.true
          ∙ unresized resizes old (sym w.is_empty.ensures ∙ w.if-not-is_empty.false))
      | else-counts-via-else-counts w ↦
          sym (ap (λ (b : Bool). if b then resized_by resizes 0 old else old) w.if-counts.false)
    ]
