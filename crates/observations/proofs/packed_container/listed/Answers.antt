use Rattle.std.proofs.Common.{◌∙◌, ap, refl, sym, Some, w32}
use Rattle.std.proofs.lemmas.Int.{to_z-of_z}
use Rattle.state_diff.specs.rule.States.{is_exited}
use Rattle.observations.proofs.KeptAs.{same_seen, same_unexited, with_code}
use Rattle.observations.proofs.packed_container.listed.Goals as goal

pub returns-in-Created : goal.returns-in-Created
returns-in-Created c = same_unexited c.in-Some.seen _ refl _ c.in-Created.is c.in-Some.is

pub returns-in-Running : goal.returns-in-Running
returns-in-Running c = same_unexited c.in-Some.seen _ refl _ c.in-Running.is c.in-Some.is

pub returns-in-Exited : goal.returns-in-Exited
returns-in-Exited c =
    let s = c.in-Some.seen in
    same_seen s _ _ _ c.in-Exited.is
    (with_code s.state s.code s.code_given (ap is_exited c.in-Exited.is)
    ∙ ap (λ k. Some k) (sym c.unwrap_or.ensures
    ∙ sym (to_z-of_z w32 c.unwrap_or.result (record { sfits = c.unwrap_or.type_inv }))))
    ∙ sym c.in-Some.is

pub returns-in-Unknown : goal.returns-in-Unknown
returns-in-Unknown c = same_unexited c.in-Some.seen _ refl _ c.in-Unknown.is c.in-Some.is
