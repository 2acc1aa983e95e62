-- What a call answers, by what its callee answered.
use Rattle.std.proofs.Common.{◌≡◌, ◌+◌, ◌<◌, ◌≤◌, ℕ, List, [], ◌∷◌, length, Some, None, IfSome, Result, Ok, Err, OnOk}
use Rattle.std.proofs.Common.{IfErr, IsErrAnd, IsErrOf, refl, arith}
use Rattle.std.specs.declared.io.ErrorKind.{ErrorKind}
use Rattle.std.specs.declared.io.ErrorKind.TheVariants as kinds
use Rattle.clap.specs.Words.{Text}
use Rattle.node_config.specs.declared.node.Format.{Format}
use Rattle.replay_stream.specs.declared.fault.ReadAllFault.{ReadAllFault}
use Rattle.replay_stream.specs.declared.fault.ReadAllFault.TheVariants as stream
use Rattle.round_steps.specs.declared.fault.StepsFault.{StepsFault}
use Rattle.round_steps.specs.declared.step.Step.{Step}
use Rattle.round_steps.specs.state.Steps.{longest_steps_file, Refuses as RefusesSteps}
use Rattle.commands.specs.declared.fault.UsageFault.{UsageFault}
use Rattle.commands.specs.declared.fault.UsageFault.TheVariants as usage
use Rattle.commands.specs.declared.job.Job.{Job}
use Rattle.commands.specs.state.Jobs.{IsAskedBy, Refuses as RefusesWords}
use Rattle.kubelet_replay.specs.declared.fault.RunFault.{RunFault}
use Rattle.kubelet_replay.specs.rule.Run.{IsRefusal, IsReportIn, IsReportOfText, Writes}
use Rattle.kubelet_replay.specs.state.Run.{read_fault_of}
use Rattle.replay_program.specs.declared.fault.Fault.{Fault}
use Rattle.replay_program.specs.declared.fault.Fault.TheVariants.{Run, Steps}
use Rattle.replay_program.specs.state.Answers.{unread, unwritten, RefusesFile, FailsFile, HasShortText, RefusesText}
use Rattle.replay_program.specs.state.Answers.{TakesShort, IsUnread, FailsText, FailsPlay, AnswersAsked, FailsAsked}
use Rattle.replay_program.specs.state.Answers.{Fails, FailsInput, Asking, AnswersAll, FailsAll}
use Rattle.replay_program.specs.state.Answers as answers
use Rattle.replay_program.specs.state.Fault.{of_kind, of_usage}
use Rattle.replay_program.specs.state.Files.{Bytes, FileState, not_opened}

-- a fault of the system is none of the writer's
kind_unwritten : (V : Type 0) (kind : ErrorKind) → unwritten {V = V} (Err (of_kind kind)) ≡ 0
unfolding of_kind
kind_unwritten V kinds.OutOfMemory = refl
kind_unwritten V kinds.InvalidData = refl
kind_unwritten V kind = refl

pub unwritten_by_kind : {V : Type 0} (result : Result V Fault) (kind : ErrorKind) (calls : ℕ)
    → IsErrAnd result (λ fault. fault ≡ of_kind kind) → calls ≡ calls + unwritten result
unwritten_by_kind (Ok v) kind calls is = omega arith
unwritten_by_kind {V} (Err fault) kind calls is =
    let none : unwritten {V = V} (Err fault) ≡ 0 = rw is (kind_unwritten V kind) in omega (arith, none)

-- nor is one of the words
usage_unwritten : (V : Type 0) (why : UsageFault) → unwritten {V = V} (Err (of_usage why)) ≡ 0
unfolding of_usage
usage_unwritten V (usage.Refused error) = refl
usage_unwritten V usage.OutOfMemory = refl

pub unwritten_by_usage : {V : Type 0} (result : Result V Fault) (why : UsageFault) (calls : ℕ)
    → IsErrAnd result (λ fault. fault ≡ of_usage why) → calls ≡ calls + unwritten result
unwritten_by_usage (Ok v) why calls is = omega arith
unwritten_by_usage {V} (Err fault) why calls is =
    let none : unwritten {V = V} (Err fault) ≡ 0 = rw is (usage_unwritten V why) in omega (arith, none)

-- nor is that of a steps file
text_unwritten : (V : Type 0) (why : ReadAllFault) → unwritten {V = V} (Err (Run (read_fault_of why))) ≡ 0
text_unwritten V stream.Read = refl
text_unwritten V stream.TooLong = refl
text_unwritten V stream.OutOfMemory = refl

fails_unwritten : (V : Type 0) (Seen : FileState → Type 0) (why : Fault) → FailsText Seen why
    → unwritten {V = V} (Err why) ≡ 0
fails_unwritten V Seen why (answers.text_unopened kind seen is) = rw is (kind_unwritten V kind)
fails_unwritten V Seen why (answers.text_unread cause is refuses) = rw is (text_unwritten V cause)

pub unwritten_by_text : {V : Type 0} (Seen : FileState → Type 0) (result : Result V Fault) (why : Fault) (calls : ℕ)
    → FailsText Seen why → IsErrAnd result (λ fault. fault ≡ why) → calls ≡ calls + unwritten result
unwritten_by_text Seen (Ok v) why calls fails is = omega arith
unwritten_by_text {V} Seen (Err fault) why calls fails is =
    let none : unwritten {V = V} (Err fault) ≡ 0 = rw is (fails_unwritten V Seen why fails) in omega (arith, none)

-- the trace's file was not opened
pub file_unopened : {V : Type 0} (Seen : FileState → Type 0) (format : Format) (IsAnswer : List ℕ → List ℕ → Type 0)
    (old : Bytes) (result : Result V Fault) (kind : ErrorKind) → Seen (not_opened kind)
    → IsErrAnd result (λ fault. fault ≡ of_kind kind) → IfErr result (FailsFile Seen format IsAnswer old old)
file_unopened Seen format IsAnswer old (Ok v) kind seen is = tt
file_unopened Seen format IsAnswer old (Err fault) kind seen is = answers.file_unopened kind seen is refl

-- the trace's file is refused
pub file_refused : {V : Type 0} (Seen : FileState → Type 0) (format : Format) (IsAnswer : List ℕ → List ℕ → Type 0)
    (old new : Bytes) (result : Result V Fault) (why : RunFault) → IsErrAnd result (λ fault. fault ≡ Run why)
    → RefusesFile Seen format IsAnswer old new why → IfErr result (FailsFile Seen format IsAnswer old new)
file_refused Seen format IsAnswer old new (Ok v) why is refuses = tt
file_refused Seen format IsAnswer old new (Err fault) why is refuses = answers.file_refused why is refuses

-- the steps file was not opened
pub text_unopened : {V : Type 0} (Seen : FileState → Type 0) (result : Result V Fault) (kind : ErrorKind)
    → Seen (not_opened kind) → IsErrAnd result (λ fault. fault ≡ of_kind kind) → IfErr result (FailsText Seen)
text_unopened Seen (Ok v) kind seen is = tt
text_unopened Seen (Err fault) kind seen is = answers.text_unopened kind seen is

-- it is too long only where it has more bytes than it may, and out of memory only within that
pub is_unread : {V : Type 0} (left rest : Bytes) (why : ReadAllFault)
    → (IsErrOf {T = V} (Err why) stream.TooLong → IfSome left (λ bytes. longest_steps_file < length bytes))
    → (IsErrOf {T = V} (Err why) stream.OutOfMemory → TakesShort left rest) → IsUnread left rest why
is_unread left rest stream.Read longer short = tt
is_unread None rest stream.TooLong longer short = tt
is_unread (Some bytes) rest stream.TooLong longer short = longer refl
is_unread left rest stream.OutOfMemory longer short = short refl

-- the steps file was not read
pub text_refused : {V : Type 0} (Seen : FileState → Type 0) (result : Result V Fault) (why : ReadAllFault)
    → IsErrAnd result (λ fault. fault ≡ Run (read_fault_of why)) → RefusesText Seen why → IfErr result (FailsText Seen)
text_refused Seen (Ok v) why is refuses = tt
text_refused Seen (Err fault) why is refuses = answers.text_unread why is refuses

-- the steps file has no text
pub play_textless : {V : Type 0} (SeenSteps SeenTrace : FileState → Type 0) (format : Format) (old : Bytes)
    (result : Result V Fault) (why : Fault) → FailsText SeenSteps why → IsErrAnd result (λ fault. fault ≡ why)
    → IfErr result (FailsPlay SeenSteps SeenTrace format old old)
play_textless SeenSteps SeenTrace format old (Ok v) why fails is = tt
play_textless SeenSteps SeenTrace format old (Err fault) why fails is =
    let same : fault ≡ why = is in answers.stepless (answers.textless (rw same fails)) refl

-- the steps file says no steps
pub play_stepless : {V : Type 0} (SeenSteps SeenTrace : FileState → Type 0) (format : Format) (old : Bytes)
    (result : Result V Fault) (text : List ℕ) (why : StepsFault) → HasShortText SeenSteps text → RefusesSteps text why
    → IsErrAnd result (λ fault. fault ≡ Steps why) → IfErr result (FailsPlay SeenSteps SeenTrace format old old)
play_stepless SeenSteps SeenTrace format old (Ok v) text why has refuses is = tt
play_stepless SeenSteps SeenTrace format old (Err fault) text why has refuses is =
    answers.stepless (answers.steps_refused text why has is refuses) refl

-- the trace's file is not answered
pub play_traceless : {V : Type 0} (SeenSteps SeenTrace : FileState → Type 0) (format : Format) (old new : Bytes)
    (result : Result V Fault) → IfErr result (FailsFile SeenTrace format (IsReportIn format) old new)
    → IfErr result (FailsPlay SeenSteps SeenTrace format old new)
play_traceless SeenSteps SeenTrace format old new (Ok v) fails = tt
play_traceless SeenSteps SeenTrace format old new (Err fault) fails = answers.traceless fails

-- the words are refused
pub asked_mistaken : {V : Type 0} (Seen : List ℕ → FileState → Type 0) (words : List Text) (old : Bytes)
    (result : Result V Fault) (why : UsageFault) → RefusesWords words why
    → IsErrAnd result (λ fault. fault ≡ of_usage why) → IfErr result (FailsAsked Seen words old old)
asked_mistaken Seen words old (Ok v) why refuses is = tt
asked_mistaken Seen words old (Err fault) why refuses is = answers.mistaken why refuses is refl

-- the words ask for a job that is not done
pub asked_undone : {V : Type 0} (Seen : List ℕ → FileState → Type 0) (words : List Text) (old new : Bytes)
    (result : Result V Fault) (job : Job) → IsAskedBy words job → IfErr result (Fails Seen job old new)
    → IfErr result (FailsAsked Seen words old new)
asked_undone Seen words old new (Ok v) job asked fails = tt
asked_undone Seen words old new (Err fault) job asked fails = answers.undone job asked fails

-- the program's words could not be had
pub all_wordless : {V : Type 0} (Asked : Asking → Type 0) (Seen : List ℕ → FileState → Type 0) (input old : Bytes)
    (result : Result V Fault) (kind : ErrorKind) → Asked (Err kind) → IsErrAnd result (λ fault. fault ≡ of_kind kind)
    → IfErr result (FailsAll Asked Seen input old old)
all_wordless Asked Seen input old (Ok v) kind asked is = tt
all_wordless Asked Seen input old (Err fault) kind asked is = answers.wordless kind asked is refl

-- the input is refused
pub input_refused : {V : Type 0} (input old new : Bytes) (result : Result V Fault) (why : RunFault)
    → IsRefusal IsReportOfText input old new why → IsErrAnd result (λ fault. fault ≡ Run why)
    → IfErr result (FailsInput input old new)
input_refused input old new (Ok v) why refuses is = tt
input_refused input old new (Err fault) why refuses is = record { why = why; fault_is = is; refuses = refuses }

-- with words behind the program's name, the answer is theirs
pub all_of_words : {V : Type 0} (Asked : Asking → Type 0) (Seen : List ℕ → FileState → Type 0)
    (Played : ℕ → List Step → Type 0) (input old new : Bytes) (words : List Text) (result : Result V Fault)
    → Asked (Ok words) → 1 < length words → OnOk result (AnswersAsked Seen Played words old new)
    → OnOk result (AnswersAll Asked Seen Played input old new)
all_of_words Asked Seen Played input old new words (Err fault) asked some answers = tt
all_of_words Asked Seen Played input old new [] (Ok v) asked some answers = absurd (omega arith)
all_of_words Asked Seen Played input old new (name ∷ []) (Ok v) asked some answers = absurd (omega arith)
all_of_words Asked Seen Played input old new (name ∷ word ∷ words) (Ok v) asked some answers =
    record { words = name ∷ word ∷ words; asked = asked; answers = answers }

pub all_failed : {V : Type 0} (Asked : Asking → Type 0) (Seen : List ℕ → FileState → Type 0) (input old new : Bytes)
    (words : List Text) (result : Result V Fault) → Asked (Ok words) → 1 < length words
    → IfErr result (FailsAsked Seen words old new) → IfErr result (FailsAll Asked Seen input old new)
all_failed Asked Seen input old new words (Ok v) asked some fails = tt
all_failed Asked Seen input old new [] (Err fault) asked some fails = absurd (omega arith)
all_failed Asked Seen input old new (name ∷ []) (Err fault) asked some fails = absurd (omega arith)
all_failed Asked Seen input old new (name ∷ word ∷ words) (Err fault) asked some fails =
    answers.unanswered (name ∷ word ∷ words) asked fails

-- without any, it is the report of the input
pub all_of_input : {V : Type 0} (Asked : Asking → Type 0) (Seen : List ℕ → FileState → Type 0)
    (Played : ℕ → List Step → Type 0) (input old new : Bytes) (words : List Text) (result : Result V Fault)
    → Asked (Ok words) → length words ≤ 1 → OnOk result (Writes IsReportOfText input old new)
    → OnOk result (AnswersAll Asked Seen Played input old new)
all_of_input Asked Seen Played input old new words (Err fault) asked none writes = tt
all_of_input Asked Seen Played input old new [] (Ok v) asked none writes =
    record { words = []; asked = asked; answers = writes }
all_of_input Asked Seen Played input old new (name ∷ []) (Ok v) asked none writes =
    record { words = name ∷ []; asked = asked; answers = writes }
all_of_input Asked Seen Played input old new (name ∷ word ∷ words) (Ok v) asked none writes =
    absurd (omega arith)

pub all_unread : {V : Type 0} (Asked : Asking → Type 0) (Seen : List ℕ → FileState → Type 0) (input old new : Bytes)
    (words : List Text) (result : Result V Fault) → Asked (Ok words) → length words ≤ 1
    → IfErr result (FailsInput input old new) → IfErr result (FailsAll Asked Seen input old new)
all_unread Asked Seen input old new words (Ok v) asked none fails = tt
all_unread Asked Seen input old new [] (Err fault) asked none fails = answers.unanswered [] asked fails
all_unread Asked Seen input old new (name ∷ []) (Err fault) asked none fails =
    answers.unanswered (name ∷ []) asked fails
all_unread Asked Seen input old new (name ∷ word ∷ words) (Err fault) asked none fails = absurd (omega arith)
