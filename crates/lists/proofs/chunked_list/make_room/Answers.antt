use Rattle.std.proofs.Common.{◌∙◌, ◌++◌, ◌∷◌, [], ap}
use Rattle.lists.specs.state.Chunks.{joined}
use Rattle.lists.proofs.Joined.{joined_next}
use Rattle.lists.proofs.chunked_list.make_room.Goals as goal

pub returns-clause-same : goal.returns-clause-same
returns-clause-same g c =
    ap (λ xs. joined c.push_reserved.new.self.items xs)
    (ap (λ v. v.items) c.replace.ensures.after ∙ c.in_ok-next.ensures.items)
    ∙ ap (λ full. joined full []) (c.push_reserved.ensures.items ∙ ap (λ full. full ++ c.replace.result ∷ [])
    c.reserve.ensures.items)
    ∙ joined_next c.args.full.now.items c.replace.result
    ∙ ap (λ v. joined c.args.full.now.items v.items) c.replace.ensures.value
