-- What serde_json found, in the words of the definitions.
use Rattle.std.proofs.Common.{◌≡◌, List, ℕ, Some, None, inl, inr, refl}
use Rattle.std.specs.Str.{IsUtf8, is_utf8}
use Rattle.std.proofs.lemmas.Bool.{cases_Bool}
use Rattle.std.proofs.lemmas.Str.{IsUtf8-from_is_utf8, is_utf8-from_IsUtf8}
use Rattle.serde_json.specs.Data.{Data}
use Rattle.serde_json.specs.Read.{read}
use Rattle.json_lines.specs.rule.Lines.{json_in}

pub json_found : (line : List ℕ) (d : Data) → IsUtf8 line → read line ≡ Some d → Some d ≡ json_in line
unfolding json_in
json_found line d utf8 e = rw (is_utf8-from_IsUtf8 line utf8, e) refl

pub json_missing : (line : List ℕ) → (IsUtf8 line → read line ≡ None) → None ≡ json_in line
unfolding json_in
json_missing line none =
    elim (cases_Bool (is_utf8 line)) [
      | inl good ↦ rw (good, none (IsUtf8-from_is_utf8 line good)) refl
      | inr bad ↦ rw bad refl
    ]
