use Rattle.std.proofs.Common.{ℕ, subst, sym}
use Rattle.pressure.specs.rule.Pressures.{IsSince}
use Rattle.pressure.proofs.Since.{since_is}
use Rattle.pressure.proofs.pressure.Pressure.since.Goals as goal

pub returns : goal.returns
returns c = λ period h st.
    let P : ℕ → Type 0 = λ m. IsSince period h m in
    subst P (sym c.unwrap_or.ensures) (since_is period h c.args.self.now.since st.since)
