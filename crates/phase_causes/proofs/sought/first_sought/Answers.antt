use Rattle.std.proofs.Common.{◌≡◌, ◌∙◌, ◌<◌, true, false, length, refl, sym, arith}
use Rattle.std.proofs.lemmas.Option.{slice_get_read, slice_get_within}
use Rattle.phase_causes.specs.state.Sought.{IsSought}
use Rattle.phase_causes.proofs.CaseLemmas.{none_further}
use Rattle.phase_causes.proofs.sought.first_sought.Goals as goal

pub loop-place-preserved : goal.loop-place-preserved
loop-place-preserved c =
    let cs = c.args.containers.now in
    let item = c.index-containers-place.result in
    none_further (IsSought c.args.sought) cs c.loop-place.place item c.loop-place.invariant
    (slice_get_read cs (length cs) c.loop-place.place item refl c.loop-place-test.true c.index-containers-place.is)
    (λ sought. absurd (let e : false ≡ true = sym c.if-is_sought.false ∙ c.is_sought.ensures.1 sought in cc))

pub returns : goal.returns
returns c = λ t at.
    let within : t < length c.args.containers.now = slice_get_within c.args.containers.now t at.0 at.1 in
    c.loop-place.invariant t (omega (arith, within, c.loop-place-test.false)) at
