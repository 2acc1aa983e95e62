-- Where a text that has grown may be cut.
use Rattle.std.proofs.Common.{◌≡◌, ℕ, ◌≤◌, ◌++◌, List, length, if◌then◌else◌, Result, Ok, Err, is_ok}
use Rattle.std.proofs.Common.{String, string_bytes, string_len, arith, subst, sym}
use Rattle.std.specs.Str.{IsUtf8}
use Rattle.std.specs.String.Boundary.{IsSplitPoint}
use Rattle.std.proofs.lemmas.Grind.{common_steps}
use Rattle.std.proofs.lemmas.Str.{IsUtf8-string_bytes, IsCharBoundary-from_take}
use Rattle.event_list.specs.state.Text.{Extends}

-- whole characters may be cut behind whole characters
behind : (old new : List ℕ) → IsUtf8 old → IsUtf8 new → Extends old new → IsSplitPoint new (length old)
behind old new one both grown =
    let within : length old ≤ length new = grind (arith, common_steps) in
    let at = IsCharBoundary-from_take new (length old) both within (subst IsUtf8 (sym grown) one) in
    (at.0, λ _. at.1)

-- a text may be cut where it ended before it grew
pub end_before : {Z : Type 0} (old new : String Z) (n : ℕ) → n ≡ string_len old
    → Extends (string_bytes old) (string_bytes new) → IsSplitPoint (string_bytes new) n
end_before old new n is grown =
    let P : ℕ → Type 0 = IsSplitPoint (string_bytes new) in
    let counted : n ≡ length (string_bytes old) = omega arith in
    subst P (sym counted)
    (behind (string_bytes old) (string_bytes new) (IsUtf8-string_bytes old) (IsUtf8-string_bytes new) grown)

-- a text that words were added to, and then more words or none, begins with what it was
pub added_twice : {X E : Type 0} (r : Result X E) (old words with_words more new : List ℕ) → with_words ≡ old ++ words
    → new ≡ (if is_ok r then with_words ++ more else with_words) → Extends old new
added_twice (Ok x) old words with_words more new is are = grind (arith, common_steps)
added_twice (Err e) old words with_words more new is are = grind (arith, common_steps)
