use Rattle.std.proofs.Common.{◌∙◌, ◌++◌, ◌∷◌, [], length, ap, sym, subst}
use Rattle.lists.specs.state.Chunks.{joined, AreChunks}
use Rattle.lists.proofs.Joined.{joined_more, more_chunks}
use Rattle.lists.proofs.chunked_list.ChunkedList.push.Goals as goal

pub invariant_of-self-2 : goal.invariant_of-self-2
invariant_of-self-2 g c =
    subst (λ items. AreChunks c.make_room.new.full.items items c.in-Some.length) (sym c.in_ok-push.ensures.items)
    (subst (λ n. AreChunks c.make_room.new.full.items (c.make_room.new.last.items ++ c.args.item ∷ []) n)
    (sym c.in-Some.ensures.1)
    (more_chunks c.make_room.new.full.items c.make_room.new.last.items c.args.item c.self.inside.length
    c.make_room.ensures.full c.in_ok-make_room.ensures.room
    (c.self.invariant.counted ∙ ap length (sym c.make_room.ensures.same))))

pub returns-clause-ok : goal.returns-clause-ok
returns-clause-ok g c =
    ap (λ last. joined c.make_room.new.full.items last) c.in_ok-push.ensures.items
    ∙ joined_more c.make_room.new.full.items c.make_room.new.last.items c.args.item
    ∙ ap (λ items. items ++ c.args.item ∷ []) (c.make_room.ensures.same ∙ c.self.view_is)
