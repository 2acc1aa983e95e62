use Rattle.std.proofs.Common.{sym, arith}
use Rattle.roster.proofs.Held.{held_set, held_within}
use Rattle.roster.proofs.hold.set.Goals as goal

pub index_mut-requires : goal.index_mut-requires
index_mut-requires c =
    let lt = held_within c.args.keys.now c.args.holders.now.items c.args.key.now c.in-Some.place c.requires
    (sym c.in-Some.ensures) in
    omega (arith, lt, c.args.holders.now.ok)

pub returns-in-Some-clause-set : goal.returns-in-Some-clause-set
returns-in-Some-clause-set c = λ _. held_set c.args.keys.now c.args.holders.now.items c.args.key.now c.in-Some.place
    c.args.pod c.requires (sym c.in-Some.ensures)
