use Rattle.std.proofs.Common.{[]}
use Rattle.node_rounds.proofs.Opens.{first_next, is_out}
use Rattle.node_rounds.proofs.running.Running.begin_some.Goals as goal

pub begin-requires : goal.begin-requires
begin-requires g c = first_next c.args.self c.args.tick c.args.more.now.rest.items c.requires

pub go_on-requires : goal.go_on-requires
go_on-requires g c = record {
  node = c.args.self;
  kept = c.in_ok-stretch.ensures.kept;
  calm = [];
  tick = c.args.tick;
  is_open = c.in_ok-stretch.ensures.is_open;
  fits = c.requires;
}

pub returns-in-Ok : goal.returns-in-Ok
returns-in-Ok g c =
    let begun = c.in_ok-stretch in
    let went = c.in_default.ensures.goes c.args.self [] c.args.tick begun.ensures.is_open in
    record {
      calm = went.calm_now;
      tick = went.last;
      all = went.taken;
      out = is_out c.args.self went.calm_now went.last c.go_on.new.self c.in-Ok.pieces.items begun.book c.in-Ok.round
          begun.ensures.kept went.is_open begun.ensures.book c.in-Ok.ensures.begun c.in-Ok.ensures.sent
          c.in-Ok.ensures.awaited c.in-Ok.ensures.numbered;
    }
