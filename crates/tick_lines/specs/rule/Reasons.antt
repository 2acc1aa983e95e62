-- The member of an entry with the reason for which the node has ended the pod (this project's extended format).
use Rattle.std.specs.Prelude.{ℕ, List, Option, Some, None, option_and_then}
use Rattle.serde_json.specs.Data.{Data}
use Rattle.serde_json.specs.Find.{as_str}
use Rattle.observations.specs.rule.Reasons.{reason_of}
use Rattle.tick_lines.specs.declared.reason.ReasonMember.{ReasonMember}
use Rattle.tick_lines.specs.declared.reason.ReasonMember.TheVariants as members

abbrev pub reason_from : Option (List ℕ) → ReasonMember
reason_from None = members.OfOtherKind
reason_from (Some reason) = members.Reason reason

-- the content of a value, by its text, if it is one
abbrev pub reason_said : Option (List ℕ) → ReasonMember
reason_said text = reason_from (option_and_then reason_of text)

-- the content of the member: a text that is no reason, and a value of another kind, are kept apart, and nothing here
-- rejects them
abbrev pub reason_member_of : Option Data → ReasonMember
reason_member_of None = members.Missing
reason_member_of (Some d) = reason_said (as_str d)
