use Rattle.round_steps.specs.state.Spelling.{spells_pop, spells_steal, spells_update, spells_enter}
use Rattle.round_steps.proofs.Words.{not_pop, not_steal, not_update, not_enter}
use Rattle.round_steps.proofs.spelling.step_of.Goals as goal

pub returns-in_err-worker_of : goal.returns-in_err-worker_of
returns-in_err-worker_of c =
    rw c.from_residual.ensures
    (not_pop c.args.line.now c.in-Some.worker.now c.in-Some.ensures c.in_err-worker_of.ensures)

pub returns-in-Some : goal.returns-in-Some
returns-in-Some c = spells_pop c.in-Some.worker.now _ c.in-Some.ensures c.in_ok-worker_of.ensures

pub returns-in_err-worker_of-2 : goal.returns-in_err-worker_of-2
returns-in_err-worker_of-2 c =
    rw c.from_residual-in_err-worker_of-2.ensures
    (not_update c.args.line.now c.in-Some-after_word.worker.now c.in-Some-after_word.ensures
    c.in_err-worker_of-2.ensures)

pub returns-in-Some-after_word : goal.returns-in-Some-after_word
returns-in-Some-after_word c =
    spells_update c.in-Some-after_word.worker.now _ c.in-Some-after_word.ensures c.in_ok-worker_of-2.ensures

pub returns-in_err-worker_of-3 : goal.returns-in_err-worker_of-3
returns-in_err-worker_of-3 c =
    rw c.from_residual-in_err-worker_of-3.ensures
    (not_enter c.args.line.now c.in-Some-after_word-2.worker.now c.in-Some-after_word-2.ensures
    c.in_err-worker_of-3.ensures)

pub returns-in-Some-after_word-2 : goal.returns-in-Some-after_word-2
returns-in-Some-after_word-2 c =
    spells_enter c.in-Some-after_word-2.worker.now _ c.in-Some-after_word-2.ensures c.in_ok-worker_of-3.ensures

pub returns-in_err-thief : goal.returns-in_err-thief
returns-in_err-thief c =
    rw c.from_residual-in_err-thief.ensures
    (not_steal c.args.line.now c.in_ok-after_word.field-0.now c.in_ok-after_word.ensures c.in_err-thief.ensures)

pub returns : goal.returns
returns c = spells_steal c.in_ok-after_word.field-0.now _ _ c.in_ok-after_word.ensures c.in_ok-thief.ensures
