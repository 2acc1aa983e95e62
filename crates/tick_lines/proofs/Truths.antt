-- Whether an entry says that its pod has no sample, or is being deleted, and a line that its tick is not judged.
use Rattle.std.proofs.Common.{◌≡◌, ◌⊎◌, true, false, Option, Some, None, refl, subst, inl, inr}
use Rattle.std.specs.Prelude.{codes}
use Rattle.serde_json.specs.Data.{Data, null, boolean, number, string, array, object}
use Rattle.json_fields.specs.rule.Fields.{field_at}
use Rattle.tick_lines.specs.declared.truth.TruthMember.TheVariants.{OfOtherKind}
use Rattle.tick_lines.specs.rule.Truths.{truth_of, denial_of}
use Rattle.tick_lines.specs.state.Laws.{SaysTruth, SaysDenial, UnsampledSaid, DeletingSaid, JudgedSaid}
use Rattle.tick_lines.proofs.Parts.{line_parts, entry_parts}

abbrev IsSilent : Option Data → Type 0
IsSilent found = (found ≡ None) ⊎ (found ≡ Some (boolean false))

not_silent : (d : Data) → (d ≡ boolean false → ⊥) → IsSilent (Some d) → ⊥
not_silent d other (inl none) = absurd (cc)
not_silent d other (inr said) = other (cc)

-- of another kind
other_kind : (d : Data) → (d ≡ boolean true → ⊥) → (d ≡ boolean false → ⊥) → SaysTruth (Some d) OfOtherKind
other_kind d not_true not_false = record {
  yes = (λ e. absurd (cc), λ e. absurd (not_true (cc)));
  no = (λ e. absurd (cc), λ e. absurd (not_silent d not_false e));
}

pub says_truth : (found : Option Data) → SaysTruth found (truth_of found)
says_truth None = record { yes = (λ e. absurd (cc), λ e. absurd (cc)); no = (λ e. inl refl, λ e. refl) }
says_truth (Some null) = other_kind null (λ e. absurd (cc)) (λ e. absurd (cc))
says_truth (Some (boolean true)) = record {
  yes = (λ e. refl, λ e. refl);
  no = (λ e. absurd (cc), λ e. absurd (not_silent (boolean true) (λ same. absurd (cc)) e));
}
says_truth (Some (boolean false)) = record {
  yes = (λ e. absurd (cc), λ e. absurd (cc));
  no = (λ e. inr refl, λ e. refl);
}
says_truth (Some (number n)) = other_kind (number n) (λ e. absurd (cc)) (λ e. absurd (cc))
says_truth (Some (string s)) = other_kind (string s) (λ e. absurd (cc)) (λ e. absurd (cc))
says_truth (Some (array ds)) = other_kind (array ds) (λ e. absurd (cc)) (λ e. absurd (cc))
says_truth (Some (object ms)) = other_kind (object ms) (λ e. absurd (cc)) (λ e. absurd (cc))

pub unsampled_said : UnsampledSaid
unsampled_said d entry e =
    let found = field_at (codes "unsampled") d in
    subst (SaysTruth found) (entry_parts d entry e).unsampled (says_truth found)

pub deleting_said : DeletingSaid
deleting_said d entry e =
    let found = field_at (codes "deleting") d in
    subst (SaysTruth found) (entry_parts d entry e).deleting (says_truth found)

-- the same of a member that says something by false
not_granted : (d : Data) → (d ≡ boolean true → ⊥) → (Some d ≡ None) ⊎ (Some d ≡ Some (boolean true)) → ⊥
not_granted d other (inl none) = absurd (cc)
not_granted d other (inr said) = other (cc)

no_denial : (d : Data) → (d ≡ boolean true → ⊥) → (d ≡ boolean false → ⊥) → SaysDenial (Some d) OfOtherKind
no_denial d not_true not_false = record {
  yes = (λ e. absurd (cc), λ e. absurd (not_false (cc)));
  no = (λ e. absurd (cc), λ e. absurd (not_granted d not_true e));
}

says_denial : (found : Option Data) → SaysDenial found (denial_of found)
says_denial None = record { yes = (λ e. absurd (cc), λ e. absurd (cc)); no = (λ e. inl refl, λ e. refl) }
says_denial (Some null) = no_denial null (λ e. absurd (cc)) (λ e. absurd (cc))
says_denial (Some (boolean true)) = record {
  yes = (λ e. absurd (cc), λ e. absurd (cc));
  no = (λ e. inr refl, λ e. refl);
}
says_denial (Some (boolean false)) = record {
  yes = (λ e. refl, λ e. refl);
  no = (λ e. absurd (cc), λ e. absurd (not_granted (boolean false) (λ same. absurd (cc)) e));
}
says_denial (Some (number n)) = no_denial (number n) (λ e. absurd (cc)) (λ e. absurd (cc))
says_denial (Some (string s)) = no_denial (string s) (λ e. absurd (cc)) (λ e. absurd (cc))
says_denial (Some (array ds)) = no_denial (array ds) (λ e. absurd (cc)) (λ e. absurd (cc))
says_denial (Some (object ms)) = no_denial (object ms) (λ e. absurd (cc)) (λ e. absurd (cc))

pub judged_said : JudgedSaid
judged_said d line e =
    let found = field_at (codes "judged") d in
    subst (SaysDenial found) (line_parts d line e).unjudged (says_denial found)
