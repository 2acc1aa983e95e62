use Rattle.std.proofs.Common.{◌∙◌, List, ℕ, Option, ap, codes}
use Rattle.clap.specs.Words.{found_of}
use Rattle.clap.proofs.WalkLemmas.{first_value-rows}
use Rattle.commands.specs.state.Jobs.{format_asked}
use Rattle.commands.proofs.job.format_in.Goals as goal

pub returns : goal.returns
returns c =
    c.format_asked.ensures
    ∙ ap (λ (value : Option (List ℕ)). format_asked value)
    (c.get_str.ensures ∙ first_value-rows (found_of c.args.given.now) (codes "extended"))
