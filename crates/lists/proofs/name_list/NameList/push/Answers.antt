use Rattle.lists.proofs.Places.{pushed}
use Rattle.lists.proofs.name_list.NameList.push.Goals as goal

pub returns-clause-ok : goal.returns-clause-ok
returns-clause-ok c = pushed c.args.self.now c.self.inside.set.keys c.insert.new.self.keys c.args.name c.self.view_is
    c.requires c.in_ok-insert.ensures.keys
