use Rattle.std.proofs.Common.{refl, rules, true}
use Rattle.json_fields.specs.state.Tape.{data_at}
use Rattle.json_lines.specs.state.Ticks.{moment_at}
use Rattle.tick_lines.specs.state.Tape.{left_in}
use Rattle.trace.specs.state.Tape.{EntriesNoted}
use Rattle.trace.proofs.OnTape.{line_shown, noted_length}
use Rattle.trace.proofs.tape.shown_by_value.Goals as goal

pub with_others-requires : goal.with_others-requires
with_others-requires c =
    let noted : EntriesNoted true c.args.roster.now c.in-Some.at (left_in c.in-Some-line_text.line.entries)
    c.in-Some-3.slots.items = search rules in
    noted_length true c.args.roster.now c.in-Some.at (left_in c.in-Some-line_text.line.entries) c.in-Some-3.slots.items
    noted

pub returns : goal.returns
returns c =
    let noted : EntriesNoted c.args.heeds c.args.roster.now c.in-Some.at (left_in c.in-Some-line_text.line.entries)
    c.in-Some-3.slots.items = search rules in
    line_shown c.args.heeds c.args.roster.now (data_at c.args.value.now) (moment_at (data_at c.args.value.now))
    c.in-Some-line_text.line c.in-Some-2.samples c.in-Some.at c.in-Some-3.slots.items _ noted
    (search rules) (search rules) (search rules) (search rules)
    (rw (c.from_vec.ensures, c.in_ok-pods.ensures noted.entries noted.noted noted.present, c.is_judged.ensures) refl)
