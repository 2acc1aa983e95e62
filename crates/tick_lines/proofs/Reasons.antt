-- Why an entry says that the node has ended its pod.
use Rattle.std.proofs.Common.{◌≡◌, ◌∙◌, ℕ, Bool, true, false, List, Option, Some, None, refl, sym, subst}
use Rattle.std.specs.Prelude.{IsTrue, codes, if◌then◌else◌}
use Rattle.serde_json.specs.Data.{Data, null, boolean, number, string, array, object}
use Rattle.json_fields.specs.rule.Fields.{field_at}
use Rattle.observations.specs.rule.Reasons.{is_reason, reason_of}
use Rattle.tick_lines.specs.declared.reason.ReasonMember.TheVariants as members
use Rattle.tick_lines.specs.rule.Reasons.{reason_from, reason_member_of}
use Rattle.tick_lines.specs.state.Laws.{SaysReason, FailedSaid}
use Rattle.tick_lines.proofs.Parts.{entry_parts}

-- of another kind
other_kind : (d : Data) → ((s : List ℕ) → d ≡ string s → ⊥) → SaysReason (Some d) members.OfOtherKind
other_kind d not_text = record {
  reason = λ r. (λ e. absurd (cc), λ w. absurd (not_text r (let both : Some d ≡ Some (string r) = w.0 in cc)));
  missing = (λ e. absurd (cc), λ e. absurd (cc));
}

says_text : (s : List ℕ) → SaysReason (Some (string s)) (reason_from (reason_of s))
says_text s = by (is_reason s) refl
  where
    by : (b : Bool) → is_reason s ≡ b → SaysReason (Some (string s)) (reason_from (if b then Some s else None))
    by true e = record {
      reason = λ r. (
        (λ same. let is : s ≡ r = cc in
            (let both : Some (string s) ≡ Some (string r) = cc in both, subst (λ t. IsTrue (is_reason t)) is e)),
        (λ w. let both : Some (string s) ≡ Some (string r) = w.0 in cc),
      );
      missing = (λ same. absurd (cc), λ none. absurd (cc));
    }
    by false e = record {
      reason = λ r. (
        (λ same. absurd (cc)),
        (λ w.
            let both : Some (string s) ≡ Some (string r) = w.0 in
            let is : r ≡ s = cc in
            let t : true ≡ false = sym (subst (λ t. is_reason t ≡ true) is w.1) ∙ e in
            absurd (cc)),
      );
      missing = (λ same. absurd (cc), λ none. absurd (cc));
    }

says_reason : (found : Option Data) → SaysReason found (reason_member_of found)
says_reason None = record {
  reason = λ r. (λ e. absurd (cc), λ w. absurd (let both : None ≡ Some (string r) = w.0 in cc));
  missing = (λ e. refl, λ e. refl);
}
says_reason (Some null) = other_kind null (λ s e. absurd (cc))
says_reason (Some (boolean b)) = other_kind (boolean b) (λ s e. absurd (cc))
says_reason (Some (number n)) = other_kind (number n) (λ s e. absurd (cc))
says_reason (Some (string s)) = says_text s
says_reason (Some (array ds)) = other_kind (array ds) (λ s e. absurd (cc))
says_reason (Some (object ms)) = other_kind (object ms) (λ s e. absurd (cc))

pub failed_said : FailedSaid
failed_said d entry e =
    let found = field_at (codes "failed") d in
    subst (SaysReason found) (entry_parts d entry e).failed (says_reason found)
