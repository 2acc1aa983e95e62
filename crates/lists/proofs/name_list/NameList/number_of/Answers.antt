use Rattle.std.proofs.Common.{◌∙◌, ap}
use Rattle.lists.specs.rule.Names.{place_of}
use Rattle.lists.proofs.Places.{position-place}
use Rattle.lists.proofs.name_list.NameList.number_of.Goals as goal

pub returns : goal.returns
returns c = c.get_index_of.ensures.index ∙ position-place c.args.name.now c.self.inside.set.keys
    ∙ ap (λ ns. place_of ns c.args.name.now) c.self.view_is
