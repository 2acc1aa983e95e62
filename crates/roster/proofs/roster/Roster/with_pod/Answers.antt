use Rattle.std.proofs.Common.{◌≡◌, ◌∙◌, ◌++◌, ◌∷◌, [], List, ℕ, Option, None, string_bytes, length, ap, sym}
use Rattle.std.proofs.Common.{subst}
use Rattle.manifest.specs.declared.pod.PodSpec.{PodSpec}
use Rattle.roster.specs.rule.Roll.{Roll, number_in, number_of, present_keys}
use Rattle.roster.specs.state.Holders.{IsKept}
use Rattle.roster.proofs.Kept.{kept_with}
use Rattle.roster.proofs.roster.Roster.with_pod.Goals as goal

pub invariant_of-result : goal.invariant_of-result
invariant_of-result c =
    let i = c.self.inside in
    let key = string_bytes c.args.key in
    let new : number_in (present_keys i.pods i.departures.items) key ≡ None =
    ap (λ (r : Roll). number_of r key) c.self.view_is ∙ c.requires.new in
    subst (λ (ps : List PodSpec). IsKept ps c.enlist.new.departures.items c.hold.new.keys c.hold.new.holders.items)
    (sym c.in-Ok.ensures.pods)
    (subst (λ (ds : List (Option ℕ)). IsKept (i.pods ++ c.args.pod ∷ []) ds c.hold.new.keys c.hold.new.holders.items)
    (sym c.in-Ok.ensures.departures)
    (kept_with i.pods i.departures.items i.keys c.hold.new.keys i.holders.items c.hold.new.holders.items c.args.pod key
    _ c.self.invariant c.requires.key new (ap length c.as_slice-number.ensures) c.in_default.ensures))
