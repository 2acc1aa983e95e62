use Rattle.trace.proofs.Leaving.{given_leaving}
use Rattle.trace.proofs.Shape.{given_shape}
use Rattle.trace.proofs.Sound.{given_acceptable, given_rising}
use Rattle.trace.proofs.text.read_trace_by_workers.Goals as goal

pub returns-clause-acceptable : goal.returns-clause-acceptable
returns-clause-acceptable g c = given_acceptable c.args.format c.args.text.now c.read_windows.result
    c.read_windows.ensures

pub returns-clause-rising : goal.returns-clause-rising
returns-clause-rising g c = given_rising c.args.format c.args.text.now c.read_windows.result
    c.read_windows.ensures

pub returns-clause-shape : goal.returns-clause-shape
returns-clause-shape g c = given_shape c.args.format c.args.text.now c.read_windows.result c.read_windows.ensures

pub returns-clause-leaving : goal.returns-clause-leaving
returns-clause-leaving g c =
    given_leaving c.args.format c.args.text.now c.read_windows.result c.read_windows.ensures
