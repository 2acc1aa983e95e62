use Rattle.std.proofs.Common.{arith}
use Rattle.json_fields.specs.state.Tape.{data_at, items_in}
use Rattle.trace.proofs.NotedItems.{result_within, results_more}
use Rattle.trace.proofs.noted.has_noted_results.Goals as goal

pub note_result-requires : goal.note_result-requires
note_result-requires c =
    let within = result_within c.args.pod.now (data_at c.in-Some.value) c.in-Some-result_near.written
    c.in-Some-result_near.ensures in
    let count = c.loop-value.auto.all in
    let before = c.requires in
    omega arith

pub loop-value-preserved : goal.loop-value-preserved
loop-value-preserved c = λ ls is.
    results_more c.args.pod.now ls (items_in c.args.items) (items_in c.loop-value.items) c.loop-value.all
    c.note_result.new.all (data_at c.in-Some.value) (items_in c.next.new.self) c.in-Some-result_near.written
    c.note_result.result (c.loop-value.invariant ls is) c.in-Some.ensures.value c.in-Some-result_near.ensures
    c.note_result.ensures c.if-note_result.false
