use Rattle.std.proofs.Common.{◌≡◌, ◌+◌, ◌*◌, ◌/◌, ◌%◌, ◌<◌, min, length, arith, rules, sym}
use Rattle.std.proofs.lemmas.Grind.{div_ceil_times}
use Rattle.json_lines.specs.state.Lines.{line_data}
use Rattle.trace.specs.state.Ahead.{IsAhead}
use Rattle.json_lines.proofs.ZippedParts.{shared_zipped}
use Rattle.trace.proofs.windows.read_shared.Goals as goal

pub returns : goal.returns
returns g c =
    let some : 0 < c.max-size.result = search rules in
    let count : length c.in_ok-map_chunks.field-0.items
    ≡ length c.args.lines.now / c.max-size.result + min 1 (length c.args.lines.now % c.max-size.result) =
    search rules in
    shared_zipped (λ line read. IsAhead c.args.heeds c.args.roster.now (line_data line.now) read) (λ reads. reads.items)
    (λ reads. reads.items) c.max-size.result c.args.lines.now c.in_ok-map_chunks.field-0.items c.joined.result
    c.joined.ensures.reads c.joined.ensures.every (λ n d lt.
    let part = (c.in_ok-map_chunks.ensures.each n d lt).1 in
    let here : 0 + n * c.max-size.result ≡ n * c.max-size.result = omega arith in
    rw (here, sym part.argument_is.value) part.call
    ) (rw count (div_ceil_times (length c.args.lines.now) c.max-size.result some).0)
