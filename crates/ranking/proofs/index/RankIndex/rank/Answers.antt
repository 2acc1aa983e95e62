use Rattle.std.proofs.Common.{◌≡◌, inl, true, false}
use Rattle.ranking.proofs.LawLemmas.{one_is_held_after}
use Rattle.ranking.proofs.index.RankIndex.rank.Goals as goal

pub returns-in_ok-update-clause-held : goal.returns-in_ok-update-clause-held
returns-in_ok-update-clause-held c = λ held is.
    let status = c.status.result.now in
    let after = one_is_held_after.exists c.args.moment held status in (
      after.0,
      c.in_ok-update.ensures.updated held after.0 is after.1,
      inl (c.is_present.ensures.0 c.if-is_present.true, status, c.status.ensures, after.1),
    )

pub returns-in_err-update-clause-out : goal.returns-in_err-update-clause-out
returns-in_err-update-clause-out c = λ may_not.
    let no : false ≡ true = c.in_err-update.ensures.out (λ may.
    may_not (c.is_present.ensures.0 c.if-is_present.true, (c.status.result.now, c.status.ensures, may))) in
    absurd (cc)
