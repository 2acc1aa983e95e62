use Rattle.std.proofs.Common.{◌≡◌, ◌⊎◌, inl, inr, Bool, false, refl}
use Rattle.std.specs.Prelude.{◌↔◌, IsTrue}
use Rattle.std.proofs.lemmas.Bool.{iff_false}
use Rattle.phase.proofs.restart_view.raw_phase_by.Goals as goal

-- a case whose test is false leaves the phase to the cases after it
later : {P Here Rest : Type 0} {test : Bool} → (IsTrue test ↔ P) → test ≡ false → Rest
    → (P × Here) ⊎ ((P → ⊥) × Rest)
later tells fails rest = inr (iff_false tells fails, rest)

pub returns-then-have_succeeded : goal.returns-then-have_succeeded
returns-then-have_succeeded c =
    later c.any_failed_for_good.ensures c.if-any_failed_for_good.false
    (later c.is_starting.ensures c.if-is_starting.false
    (inl (c.have_succeeded.ensures.0 c.if-have_succeeded.true, refl)))

pub returns-then-have_failed : goal.returns-then-have_failed
returns-then-have_failed c =
    later c.any_failed_for_good.ensures c.if-any_failed_for_good.false
    (later c.is_starting.ensures c.if-is_starting.false
    (later c.have_succeeded.ensures c.if-have_succeeded.false
    (inl (c.have_failed.ensures.0 c.if-have_failed.true, refl))))

pub returns-else-have_failed : goal.returns-else-have_failed
returns-else-have_failed c =
    later c.any_failed_for_good.ensures c.if-any_failed_for_good.false
    (later c.is_starting.ensures c.if-is_starting.false
    (later c.have_succeeded.ensures c.if-have_succeeded.false
    (later c.have_failed.ensures c.if-have_failed.false refl)))
