use Rattle.std.proofs.Common.{◌<◌, ◌≤◌, length, map, string_bytes, arith}
use Rattle.std.proofs.lemmas.List.{length-map}
use Rattle.std.specs.IoError.{error_kind}
use Rattle.replay_program.proofs.Failing.{unwritten_by_kind, all_wordless, all_of_words, all_failed, all_of_input}
use Rattle.replay_program.proofs.Failing.{all_unread}
use Rattle.replay_program.proofs.answer.Goals as goal

pub returns-in_err-words-clause-err : goal.returns-in_err-words-clause-err
returns-in_err-words-clause-err g c =
    all_wordless _ _ _ _ _ (error_kind c.in_err-words.field-0.0) c.in_err-words.ensures.err
    c.from_residual.ensures.1

pub returns-then-len-gt1-clause-ok : goal.returns-then-len-gt1-clause-ok
returns-then-len-gt1-clause-ok g c =
    let words = map string_bytes c.in_ok-words.words.items in
    let some : 1 < length words = omega (arith, length-map c.in_ok-words.words.items string_bytes) in
    all_of_words _ _ _ _ _ _ words _ c.in_ok-words.ensures.ok some (rw c.deref.ensures.value at c.do_asked.ensures.ok)

pub returns-then-len-gt1-clause-err : goal.returns-then-len-gt1-clause-err
returns-then-len-gt1-clause-err g c =
    let words = map string_bytes c.in_ok-words.words.items in
    let some : 1 < length words = omega (arith, length-map c.in_ok-words.words.items string_bytes) in
    all_failed _ _ _ _ _ words _ c.in_ok-words.ensures.ok some (rw c.deref.ensures.value at c.do_asked.ensures.err)

pub returns-clause-ok : goal.returns-clause-ok
returns-clause-ok g c =
    let words = map string_bytes c.in_ok-words.words.items in
    let none : length words ≤ 1 = omega (arith, length-map c.in_ok-words.words.items string_bytes) in
    all_of_input _ _ _ _ _ _ words _ c.in_ok-words.ensures.ok none c.replay_input.ensures.ok

pub returns-clause-err : goal.returns-clause-err
returns-clause-err g c =
    let words = map string_bytes c.in_ok-words.words.items in
    let none : length words ≤ 1 = omega (arith, length-map c.in_ok-words.words.items string_bytes) in
    all_unread _ _ _ _ _ words _ c.in_ok-words.ensures.ok none c.replay_input.ensures.err

pub returns-in_err-words-clause-writes : goal.returns-in_err-words-clause-writes
returns-in_err-words-clause-writes g c =
    unwritten_by_kind _ (error_kind c.in_err-words.field-0.0) _ c.from_residual.ensures.1
