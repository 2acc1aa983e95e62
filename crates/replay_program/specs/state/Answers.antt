-- What the program writes, by its words and by the files that it opened.
use Rattle.std.specs.Prelude.{◌≡◌, ◌+◌, ◌<◌, ◌≤◌, ℕ, List, [], ◌∷◌, Some, None, Result, Ok, Err, ⊤, length}
use Rattle.std.specs.Io.KnownBytes.{Consumes}
use Rattle.std.specs.declared.io.ErrorKind.{ErrorKind}
use Rattle.clap.specs.Words.{Text}
use Rattle.node_config.specs.declared.node.Format.{Format}
use Rattle.replay_stream.specs.declared.fault.ReadAllFault.{ReadAllFault}
use Rattle.replay_stream.specs.declared.fault.ReadAllFault.TheVariants as stream
use Rattle.round_steps.specs.declared.step.Step.{Step}
use Rattle.round_steps.specs.declared.fault.StepsFault.{StepsFault}
use Rattle.round_steps.specs.state.Steps.{lines_of, longest_steps_file, AreSteps, Refuses as RefusesSteps}
use Rattle.commands.specs.declared.fault.UsageFault.{UsageFault}
use Rattle.commands.specs.declared.job.Job.{Job}
use Rattle.commands.specs.declared.job.Job.TheVariants as jobs
use Rattle.commands.specs.state.Jobs.{IsAskedBy, Refuses as RefusesWords}
use Rattle.kubelet_replay.specs.declared.fault.RunFault.{RunFault}
use Rattle.kubelet_replay.specs.declared.fault.RunFault.TheVariants.{Read, OutOfMemory, Write}
use Rattle.kubelet_replay.specs.rule.Run.{IsAllOf, IsReportIn, IsReportOfText, IsCheckIn, IsRefusal, IsRefusalIn}
use Rattle.kubelet_replay.specs.rule.Run.{TakesWithin, Writes}
use Rattle.kubelet_replay.specs.state.Run.{read_fault_of}
use Rattle.replay_program.specs.declared.fault.Fault.{Fault}
use Rattle.replay_program.specs.declared.fault.Fault.TheVariants.{Run, Steps}
use Rattle.replay_program.specs.state.Fault.{of_kind, of_usage}
use Rattle.replay_program.specs.state.Files.{Bytes, FileState, not_opened, was_opened, was_closed}

-- how many calls of the reader failed, by what its text is answered
abbrev pub unread : {V : Type 0} → Result V Fault → ℕ
unread (Err (Run Read)) = 1
unread answer = 0

-- how many calls of the writer failed, by what the program answers
abbrev pub unwritten : {V : Type 0} → Result V Fault → ℕ
unwritten (Err (Run Write)) = 1
unwritten answer = 0

-- a file was opened with these bytes, and closed with the rest of them, and so many reads of it failed
pub record IsRead (Seen : FileState → Type 0) (left rest : Bytes) (failed : ℕ) : Type 0 where
  pub opened : Seen (was_opened left)
  pub calls : ℕ
  pub closed : Seen (was_closed rest calls)
  pub counted : calls ≡ failed

-- a file was read, and what is written is what its text is answered
pub record AnswersFile (Seen : FileState → Type 0) (IsAnswer : List ℕ → List ℕ → Type 0) (old new : Bytes)
    : Type 0 where
  pub left : Bytes
  pub rest : Bytes
  pub read : IsRead Seen left rest 0
  pub writes : Writes IsAnswer left old new

-- a file was opened, and fails: as unreadable if and only if one of its reads failed, and for memory only if no more
-- than the limit was taken
pub record RefusesFile (Seen : FileState → Type 0) (format : Format) (IsAnswer : List ℕ → List ℕ → Type 0)
    (old new : Bytes) (why : RunFault) : Type 0 where
  pub left : Bytes
  pub rest : Bytes
  pub read : IsRead Seen left rest (unread {V = ⊤} (Err (Run why)))
  pub refuses : IsRefusalIn format IsAnswer left old new why
  pub within : why ≡ OutOfMemory → TakesWithin left rest

-- no file was opened, and nothing is written; or one was, and it fails
pub data FailsFile (Seen : FileState → Type 0) (format : Format) (IsAnswer : List ℕ → List ℕ → Type 0)
    (old new : Bytes) (fault : Fault) : Type 0 where
  file_unopened : (kind : ErrorKind) → Seen (not_opened kind) → fault ≡ of_kind kind → new ≡ old
      → FailsFile Seen format IsAnswer old new fault
  file_refused : (why : RunFault) → fault ≡ Run why → RefusesFile Seen format IsAnswer old new why
      → FailsFile Seen format IsAnswer old new fault

-- a steps file was read, and this is its whole text
pub record HasText (Seen : FileState → Type 0) (text : List ℕ) : Type 0 where
  pub left : Bytes
  pub rest : Bytes
  pub read : IsRead Seen left rest 0
  pub all : IsAllOf left text

-- a steps file was read, and this is its whole text, which is not too long
pub record HasShortText (Seen : FileState → Type 0) (text : List ℕ) : Type 0 where
  pub read : HasText Seen text
  pub within : length text ≤ longest_steps_file

-- a steps file was read, and these are its steps
pub record HasSteps (Seen : FileState → Type 0) (steps : List Step) : Type 0 where
  pub text : List ℕ
  pub read : HasShortText Seen text
  pub said : AreSteps (lines_of text) steps

-- it has more bytes than a steps file may have, where that is known
abbrev pub IsLonger : Bytes → Type 0
IsLonger None = Unit {0}
IsLonger (Some bytes) = longest_steps_file < length bytes

-- no more of it was taken than a steps file may have
abbrev pub TakesShort : Bytes → Bytes → Type 0
TakesShort left rest = (front : List ℕ) × (length front ≤ longest_steps_file) × Consumes left rest front

-- the file may be one that is not read for this reason
abbrev pub IsUnread : Bytes → Bytes → ReadAllFault → Type 0
IsUnread left rest stream.Read = Unit {0}
IsUnread left rest stream.TooLong = IsLonger left
IsUnread left rest stream.OutOfMemory = TakesShort left rest

-- a steps file was opened, and is not read
pub record RefusesText (Seen : FileState → Type 0) (why : ReadAllFault) : Type 0 where
  pub left : Bytes
  pub rest : Bytes
  pub read : IsRead Seen left rest (unread {V = ⊤} (Err (Run (read_fault_of why))))
  pub is_unread : IsUnread left rest why

-- no steps file was opened, or one was that is not read
pub data FailsText (Seen : FileState → Type 0) (fault : Fault) : Type 0 where
  text_unopened : (kind : ErrorKind) → Seen (not_opened kind) → fault ≡ of_kind kind → FailsText Seen fault
  text_unread : (why : ReadAllFault) → fault ≡ Run (read_fault_of why) → RefusesText Seen why → FailsText Seen fault

-- a steps file has no text; or it has no steps
pub data FailsSteps (Seen : FileState → Type 0) (fault : Fault) : Type 0 where
  textless : FailsText Seen fault → FailsSteps Seen fault
  steps_refused : (text : List ℕ) (why : StepsFault) → HasShortText Seen text → fault ≡ Steps why
      → RefusesSteps text why → FailsSteps Seen fault

-- a steps file has steps, which are simulated, and a trace's file is answered
pub record AnswersPlay (SeenSteps SeenTrace : FileState → Type 0) (Played : List Step → Type 0) (format : Format)
    (old new : Bytes) : Type 0 where
  pub steps : List Step
  pub said : HasSteps SeenSteps steps
  pub played : Played steps
  pub answers : AnswersFile SeenTrace (IsReportIn format) old new

-- a steps file has no steps, and nothing is written; or a trace's file is not answered
pub data FailsPlay (SeenSteps SeenTrace : FileState → Type 0) (format : Format) (old new : Bytes) (fault : Fault)
    : Type 0 where
  stepless : FailsSteps SeenSteps fault → new ≡ old → FailsPlay SeenSteps SeenTrace format old new fault
  traceless : FailsFile SeenTrace format (IsReportIn format) old new fault
      → FailsPlay SeenSteps SeenTrace format old new fault

-- what is written for a job: the report of its trace in its format, or the line of the check; with a steps file, its
-- steps are simulated for the job's workers. How many workers a run has is nowhere visible in what is written
abbrev pub Answers : (List ℕ → FileState → Type 0) → (ℕ → List Step → Type 0) → Job → Bytes → Bytes → Type 0
Answers Seen Played (jobs.Run trace workers format) = AnswersFile (Seen trace.now) (IsReportIn format)
Answers Seen Played (jobs.Check trace format) = AnswersFile (Seen trace.now) (IsCheckIn format)
Answers Seen Played (jobs.Play trace steps workers format) =
    AnswersPlay (Seen steps.now) (Seen trace.now) (Played workers) format

-- why a job is not done
abbrev pub Fails : (List ℕ → FileState → Type 0) → Job → Bytes → Bytes → Fault → Type 0
Fails Seen (jobs.Run trace workers format) = FailsFile (Seen trace.now) format (IsReportIn format)
Fails Seen (jobs.Check trace format) = FailsFile (Seen trace.now) format (IsCheckIn format)
Fails Seen (jobs.Play trace steps workers format) = FailsPlay (Seen steps.now) (Seen trace.now) format

-- the words ask for a job, and what is written is its answer
pub record AnswersAsked (Seen : List ℕ → FileState → Type 0) (Played : ℕ → List Step → Type 0) (words : List Text)
    (old new : Bytes) : Type 0 where
  pub job : Job
  pub asked : IsAskedBy words job
  pub answers : Answers Seen Played job old new

-- the arguments are rejected, and nothing is written; or they ask for a job that is not done
pub data FailsAsked (Seen : List ℕ → FileState → Type 0) (words : List Text) (old new : Bytes) (fault : Fault)
    : Type 0 where
  mistaken : (why : UsageFault) → RefusesWords words why → fault ≡ of_usage why → new ≡ old
      → FailsAsked Seen words old new fault
  undone : (job : Job) → IsAskedBy words job → Fails Seen job old new fault → FailsAsked Seen words old new fault

-- the answer to the arguments; without any after the program's name, it is the report of the input's text
abbrev pub AnswersWords : (List ℕ → FileState → Type 0) → (ℕ → List Step → Type 0) → Bytes → List Text → Bytes → Bytes
    → Type 0
AnswersWords Seen Played input (name ∷ word ∷ words) = AnswersAsked Seen Played (name ∷ word ∷ words)
AnswersWords Seen Played input (name ∷ []) = Writes IsReportOfText input
AnswersWords Seen Played input [] = Writes IsReportOfText input

-- the input's text is rejected
pub record FailsInput (input old new : Bytes) (fault : Fault) : Type 0 where
  pub why : RunFault
  pub fault_is : fault ≡ Run why
  pub refuses : IsRefusal IsReportOfText input old new why

-- why the words are not answered
abbrev pub FailsWords : (List ℕ → FileState → Type 0) → Bytes → List Text → Bytes → Bytes → Fault → Type 0
FailsWords Seen input (name ∷ word ∷ words) = FailsAsked Seen (name ∷ word ∷ words)
FailsWords Seen input (name ∷ []) = FailsInput input
FailsWords Seen input [] = FailsInput input

-- the program's words, or why they could not be had
abbrev pub Asking : Type 0
Asking = Result (List Text) ErrorKind

-- the program has these words, and what is written is what they are answered
pub record AnswersAll (Asked : Asking → Type 0) (Seen : List ℕ → FileState → Type 0) (Played : ℕ → List Step → Type 0)
    (input old new : Bytes) : Type 0 where
  pub words : List Text
  pub asked : Asked (Ok words)
  pub answers : AnswersWords Seen Played input words old new

-- the program's words could not be had, and nothing is written; or they are not answered
pub data FailsAll (Asked : Asking → Type 0) (Seen : List ℕ → FileState → Type 0) (input old new : Bytes)
    (fault : Fault) : Type 0 where
  wordless : (kind : ErrorKind) → Asked (Err kind) → fault ≡ of_kind kind → new ≡ old
      → FailsAll Asked Seen input old new fault
  unanswered : (words : List Text) → Asked (Ok words) → FailsWords Seen input words old new fault
      → FailsAll Asked Seen input old new fault

-- how many of the input's calls failed: none if an argument follows the program's name, and else as the answer shows
abbrev pub unread_by : {V : Type 0} → Asking → Result V Fault → ℕ
unread_by (Ok (name ∷ word ∷ words)) answer = 0
unread_by (Ok (name ∷ [])) answer = unread answer
unread_by (Ok []) answer = unread answer
unread_by (Err kind) answer = 0

-- so many of the input's calls failed, by the program's words and what they are answered
abbrev pub ReadsAll : {V : Type 0} → (Asking → Type 0) → ℕ → ℕ → Result V Fault → Type 0
ReadsAll Asked old new answer = (words : Asking) × Asked words × (new ≡ old + unread_by words answer)
