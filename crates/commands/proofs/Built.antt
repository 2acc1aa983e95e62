-- Commands that grow by an argument or a subcommand.
use Rattle.std.proofs.Common.{◌≡◌, ◌∙◌, ap, ap₂, Bool, true, false, Option, is_some, List, ℕ, ◌||◌, Result}
use Rattle.std.specs.Prelude.{IfOk}
use Rattle.std.specs.Borrow.{Bor}
use Rattle.std.proofs.lemmas.Result.{IfOk-weaker}
use Rattle.clap.specs.Words.{App, Rule, AddsArg, AddsSubcommand, app_of, rule_of, with_rule, with_subcommand}
use Rattle.clap.specs.declared.builder.arg.Arg.{Arg}
use Rattle.clap.specs.declared.builder.command.Command.{Command}
use Rattle.clap.specs.declared.builder.command.Command.TheViews.{out-Command}
use Rattle.clap.specs.Simple.{app_of_fields}
use Rattle.commands.specs.state.Program.{IsCommand, needing_one, with_version}

pub with_arg : (old new : Command) (a : Arg) (app : App) (rule : Rule) → IsCommand app old → rule_of a ≡ rule
    → a.global ≡ false
    → AddsArg old a new → IsCommand (with_rule app rule) new
with_arg old new a app rule is one local adds =
    record {
      described = adds.shape local ∙ ap₂ with_rule is.described one;
      local = adds.globals ∙ ap₂ (λ (b c : Bool). b || c) is.local local;
    }

-- the last one, where there is memory for it
pub with_last_arg : {E : Type 0} (old : Command) (made : Result Command E) (a : Arg) (app : App) (rule : Rule)
    → IsCommand app old → rule_of a ≡ rule → a.global ≡ false → IfOk made (AddsArg old a)
    → IfOk made (IsCommand (with_rule app rule))
with_last_arg old made a app rule is one local adds =
    IfOk-weaker made _ _ (λ command added. with_arg old command a app rule is one local added) adds

pub with_one_below : (old sub new : Command) (app below : App) → IsCommand app old → IsCommand below sub
    → AddsSubcommand old sub new → IsCommand (with_subcommand app below.top) new
with_one_below old sub new app below is one adds =
    record {
      described = adds.shape one.local ∙ ap₂ with_subcommand is.described (ap (λ (a : App). a.top) one.described);
      local = adds.globals ∙ ap₂ (λ (b c : Bool). b || c) is.local one.local;
    }

-- a text about the command changes nothing of this
pub about_told : (old new : Command) (app : App) {about : Option (Bor (List ℕ))} → IsCommand app old
    → out-Command new ≡ record (out-Command old) { about = about } → IsCommand app new
about_told old new app is same =
    record {
      described = ap app_of_fields same ∙ is.described;
      local = ap (λ f. f.has_globals) same ∙ is.local;
    }

pub answers_version : (old new : Command) (app : App) {version : Option (Bor (List ℕ))} → IsCommand app old
    → out-Command new ≡ record (out-Command old) { version = version } → is_some version ≡ true
    → IsCommand (with_version app) new
answers_version old new app {version} is same some =
    let given : record (app_of old) { top = record (app_of old).top { has_version = is_some version } }
    ≡ with_version (app_of old) =
    ap (λ (b : Bool). record (app_of old) { top = record (app_of old).top { has_version = b } }) some in
    record {
      described = ap app_of_fields same ∙ given ∙ ap with_version is.described;
      local = ap (λ f. f.has_globals) same ∙ is.local;
    }

pub needs_one_below : (old new : Command) (app : App) → IsCommand app old
    → out-Command new ≡ record (out-Command old) { subcommand_required = true } → IsCommand (needing_one app) new
needs_one_below old new app is same =
    record {
      described = ap app_of_fields same ∙ ap needing_one is.described;
      local = ap (λ f. f.has_globals) same ∙ is.local;
    }
