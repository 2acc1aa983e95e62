-- Members that are truth values, one of which has a meaning (this project's extended format).
use Rattle.std.specs.Prelude.{Bool, true, false, Option, Some, None}
use Rattle.serde_json.specs.Data.{Data}
use Rattle.serde_json.specs.Find.{as_bool}
use Rattle.tick_lines.specs.declared.truth.TruthMember.{TruthMember}
use Rattle.tick_lines.specs.declared.truth.TruthMember.TheVariants.{No, Yes, OfOtherKind}

abbrev pub truth_from : Option Bool → TruthMember
truth_from None = OfOtherKind
truth_from (Some true) = Yes
truth_from (Some false) = No

-- the content of a member that means something by true: a value that is no truth value is kept apart, and nothing here
-- rejects it
abbrev pub truth_of : Option Data → TruthMember
truth_of None = No
truth_of (Some d) = truth_from (as_bool d)

abbrev pub denial_from : Option Bool → TruthMember
denial_from None = OfOtherKind
denial_from (Some true) = No
denial_from (Some false) = Yes

-- the same of a member that means something by false
abbrev pub denial_of : Option Data → TruthMember
denial_of None = No
denial_of (Some d) = denial_from (as_bool d)
