-- The program's command line, as clap's contracts see it.
use Rattle.std.specs.Prelude.{◌≡◌, ℕ, List, Some, IsSomeAnd, [], ◌∷◌, codes, true, false}
use Rattle.clap.specs.declared.builder.action.ArgAction.TheVariants.{SetTrue}
use Rattle.clap.specs.Words.{App, Rule, app_of, new_app, new_rule, with_rule, with_subcommand}
use Rattle.clap.specs.declared.builder.command.Command.{Command}
use Rattle.clap.specs.declared.builder.command.Command.TheViews.{out-Command}
use Rattle.clap.specs.declared.builder.value_parser.ValueParser.TheVariants.{Unsigned}
use Rattle.worker_count.specs.rule.Limit.{most_workers}

abbrev pub trace_rule : Rule
trace_rule = record (new_rule (codes "TRACE")) { required = true }

abbrev pub steps_rule : Rule
steps_rule = record (new_rule (codes "STEPS")) { required = true }

-- a number from 1 to the most workers, and else 4
abbrev pub workers_rule : Rule
workers_rule = record (new_rule (codes "workers")) {
  long = Some (codes "workers");
  value_names = 1;
  parser = Some (Unsigned 1 most_workers);
  defaults = codes "4" ∷ [];
}

-- a flag
abbrev pub extended_rule : Rule
extended_rule = record (new_rule (codes "extended")) {
  long = Some (codes "extended");
  action = Some SetTrue;
}

-- each subcommand has a trace first: `NAME TRACE`
abbrev pub of_trace : List ℕ → App
of_trace name = with_rule (new_app name) trace_rule

-- `run TRACE --workers N --extended`
abbrev pub run : App
run = with_rule (with_rule (of_trace (codes "run")) workers_rule) extended_rule

-- `check TRACE --extended`
abbrev pub check : App
check = with_rule (of_trace (codes "check")) extended_rule

-- `play TRACE STEPS --workers N --extended`
abbrev pub play : App
play = with_rule (with_rule (with_rule (of_trace (codes "play")) steps_rule) workers_rule) extended_rule

-- the command needs one of its subcommands
abbrev pub needing_one : App → App
needing_one app = record app { top = record app.top { subcommand_required = true } }

-- `--version` is answered
abbrev pub with_version : App → App
with_version app = record app { top = record app.top { has_version = true } }

-- the program, of which one of the three is asked
abbrev pub program : App
program =
    let named = needing_one (with_version (new_app (codes "kubelet_replay"))) in
    with_subcommand (with_subcommand (with_subcommand named run.top) check.top) play.top

-- clap's command is the one that is described, with no argument for the levels below it
pub record IsCommand (app : App) (command : Command) : Type 0 where
  pub described : app_of command ≡ app
  pub local : (out-Command command).has_globals ≡ false

-- clap is given this text about the command, for its help
abbrev pub IsAbout : List ℕ → Command → Type 0
IsAbout text command = IsSomeAnd (out-Command command).about (λ said. said.now ≡ text)

-- the text about the program
abbrev pub about : List ℕ
about = codes "Replays what a kubelet would have decided on a node, from the node's recorded trace."

-- the text about `run`
abbrev pub run_about : List ℕ
run_about = codes "Writes the report of a trace: why each pod was restarted, became unready or was evicted"

-- the text about `check`
abbrev pub check_about : List ℕ
check_about = codes "Says whether a file is a trace, or names its first faulty line"

-- the text about `play`
abbrev pub play_about : List ℕ
play_about = codes "Writes the same report, with workers that take the steps of a steps file, in their order"
