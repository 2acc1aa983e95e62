use Rattle.std.proofs.Common.{◌≡◌, ◌∙◌, Some, ap, arith}
use Rattle.roster.specs.rule.Roll.{Roll, number_in, number_of, present_keys}
use Rattle.roster.proofs.Kept.{kept_without, number_within}
use Rattle.roster.proofs.roster.Roster.leave.Goals as goal

pub index_mut-requires : goal.index_mut-requires
index_mut-requires c =
    let i = c.self.inside in
    let there : number_in (present_keys i.pods i.departures.items) c.args.key.now ≡ Some c.args.number =
    ap (λ (r : Roll). number_of r c.args.key.now) c.self.view_is ∙ c.requires in
    let lt = number_within i.pods i.departures.items c.args.key.now c.args.number c.self.invariant.gone_as_many there in
    omega (arith, lt, i.departures.ok)

pub invariant_of-self : goal.invariant_of-self
invariant_of-self c =
    let i = c.self.inside in
    let there : number_in (present_keys i.pods i.departures.items) c.args.key.now ≡ Some c.args.number =
    ap (λ (r : Roll). number_of r c.args.key.now) c.self.view_is ∙ c.requires in
    kept_without i.pods i.departures.items i.keys i.keys i.holders.items c.release.new.holders.items c.args.key.now
    c.args.number c.args.ticks c.self.invariant there c.release.ensures
