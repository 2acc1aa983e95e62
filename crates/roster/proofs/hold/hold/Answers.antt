use Rattle.std.proofs.Common.{◌∙◌, ◌∷◌, ◌++◌, [], ℕ, List, Option, Some, string_bytes, ap, refl, sym, subst}
use Rattle.lists.specs.rule.Names.{place_of}
use Rattle.roster.specs.state.Holders.{HasHeld}
use Rattle.roster.proofs.Held.{held_new}
use Rattle.roster.proofs.hold.hold.Goals as goal

pub returns-in_ok-push-2 : goal.returns-in_ok-push-2
returns-in_ok-push-2 c =
    let keys = c.args.keys.now in
    let holders = c.args.holders.now.items in
    let key = string_bytes c.args.key in
    let pod = Some c.args.number in
    let new = ap (place_of keys) (sym c.as_str.ensures.value) ∙ c.if-not-set.ensures.new refl in
    let items = c.in_ok-push-2.ensures.items
    ∙ ap (λ (hs : List (Option ℕ)). hs ++ pod ∷ []) (c.if-not-set.ensures.same refl) in
    subst (λ (ks : List (List ℕ)). HasHeld keys holders key pod ks c.push-then-not-set.new.self.items)
    (sym c.in_ok-push.ensures.ok)
    (subst (λ (hs : List (Option ℕ)). HasHeld keys holders key pod (keys ++ key ∷ []) hs) (sym items)
    (held_new keys holders key pod c.requires new))
