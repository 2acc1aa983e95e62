use Rattle.std.proofs.Common.{◌+◌, arith, rules}
use Rattle.std.proofs.lemmas.Result.{err_from_is_err_and}
use Rattle.json_lines.specs.state.Lines.{line_data}
use Rattle.trace.proofs.TakenAhead.{window_cut}
use Rattle.trace.proofs.Taken.{leads_from_start, leads_behind_blanks, leads_on, stops}
use Rattle.trace.proofs.text.read_windows.Goals as goal

pub loop-rest-init : goal.loop-rest-init
loop-rest-init g c =
    (rw c.nothing-so_far.ensures (leads_from_start c.args.format c.args.text.now), omega arith, omega arith)

pub returns-in_err-next : goal.returns-in_err-next
returns-in_err-next g c =
    let p = err_from_is_err_and c.from_residual.result c.from_residual.ensures.1 in
    let blanks = c.blanks_before-blanks.result in
    let leads = leads_behind_blanks c.args.format c.args.text.now c.loop-rest.number c.loop-rest.so_far
    c.loop-rest.rest.now blanks.1.now blanks.0 c.loop-rest.invariant.0 c.blanks_before-blanks.ensures.count
    c.blanks_before-blanks.ensures.rest in
    rw (p.1, p.2)
    (stops c.args.format c.args.text.now (c.loop-rest.number + blanks.0) c.loop-rest.so_far blanks.1.now
    c.in-Ok.window.rest.now _
    c.in_err-next.field-0.0 leads
    (window_cut blanks.1.now c.in-Ok.window.rest.now c.in-Ok.window.lines.items c.in-Ok.ensures.lines)
    (rw c.deref-in-loop-rest.ensures.value at c.in_err-next.ensures))

pub loop-rest-preserved : goal.loop-rest-preserved
loop-rest-preserved g c =
    let blanks = c.blanks_before-blanks.result in
    let leads = leads_behind_blanks c.args.format c.args.text.now c.loop-rest.number c.loop-rest.so_far
    c.loop-rest.rest.now blanks.1.now blanks.0 c.loop-rest.invariant.0 c.blanks_before-blanks.ensures.count
    c.blanks_before-blanks.ensures.rest in (
      leads_on (λ line. line_data line.now) c.args.format c.args.text.now (c.loop-rest.number + blanks.0)
          c.loop-rest.so_far blanks.1.now c.in-Ok.window.rest.now c.in-Ok.window.lines.items c.len.result
          c.in_ok-next.next leads
          (window_cut blanks.1.now c.in-Ok.window.rest.now c.in-Ok.window.lines.items c.in-Ok.ensures.lines)
          (rw c.deref-in-loop-rest.ensures.value at c.in_ok-next.ensures) (search rules),
      search rules,
      search rules,
    )
