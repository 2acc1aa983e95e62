use Rattle.std.proofs.Common.{◌≡◌, ◌+◌, ◌*◌, arith, rules, sym}
use Rattle.json_lines.specs.state.Lines.{line_data, data_of}
use Rattle.json_lines.proofs.ReadChunks.{shared_chunks, map_of_zipped, zip_of_mapped}
use Rattle.json_lines.proofs.model.read_shared.Goals as goal

pub returns : goal.returns
returns g c =
    map_of_zipped (λ line. line_data line.now) data_of c.args.lines.now (λ reads. reads.items) c.joined.result
    (shared_chunks (λ line read. data_of read ≡ line_data line.now) (λ reads. reads.items) (λ reads. reads.items)
    c.max-size.result c.args.lines.now c.in_ok-map_chunks.field-0.items c.joined.result c.joined.ensures.reads
    c.joined.ensures.every (λ n d lt.
    let part = (c.in_ok-map_chunks.ensures.each n d lt).1 in
    let here : 0 + n * c.max-size.result ≡ n * c.max-size.result = omega arith in
    rw (here, sym part.argument_is.value)
    (zip_of_mapped (λ line. line_data line.now) data_of _ (λ reads. reads.items) _ part.call)
    ) (search rules) (search rules))
