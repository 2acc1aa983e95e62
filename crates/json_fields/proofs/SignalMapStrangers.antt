-- A member of a name that a map may not have.
use Rattle.std.proofs.Common.{◌≡◌, ◌∙◌, ℕ, true, false, List, Option, Some, None, Result, Err, refl, ap, sym}
use Rattle.std.proofs.Common.{Ordering, Less, Equal, Greater, nat_cmp, is_eq}
use Rattle.std.specs.Prelude.{is_some, option_and_then}
use Rattle.std.specs.Cmp.Lexicographic.{slice_cmp}
use Rattle.std.specs.Ordering.{match_ordering}
use Rattle.std.proofs.lemmas.Map.Text.{is_eq-slice_cmp}
use Rattle.std.proofs.lemmas.Slice.Eq.{bytes_eq-Decides}
use Rattle.std.proofs.lemmas.Bool.{or_right}
use Rattle.serde_json.specs.Data.{Data, null, boolean, number, string, array, object, Members, no_members, member}
use Rattle.serde_json.specs.Find.{as_null, get_member}
use Rattle.json_fields.specs.rule.Fields.{present, field_at}
use Rattle.signals.specs.declared.signal.Signal.{Signal}
use Rattle.json_fields.specs.declared.scope.Scope.{Scope}
use Rattle.json_fields.specs.rule.SignalMaps.{may_name, has_stranger, read_map}

-- a value that is there isn't null
not_null : (d value : Data) → present (Some d) ≡ Some value → is_some (as_null d) ≡ false
not_null null value e = absurd (cc)
not_null (boolean b) value e = refl
not_null (number n) value e = refl
not_null (string s) value e = refl
not_null (array ds) value e = refl
not_null (object ms) value e = refl

found_at : (o : Ordering) (scope : Scope) (name l : List ℕ) (d value : Data) (rest : Members)
    → slice_cmp nat_cmp name l ≡ o → may_name scope name ≡ false
    → (present (get_member name rest) ≡ Some value → has_stranger scope rest ≡ true)
    → present (match_ordering o (get_member name rest) (Some d) (get_member name rest)) ≡ Some value
    → has_stranger scope (member l d rest) ≡ true
found_at Less scope name l d value rest is other later e = or_right _ (has_stranger scope rest) (later e)
found_at Equal scope name l d value rest is other later e =
    let same : name ≡ l = (bytes_eq-Decides name l).0 (sym (is_eq-slice_cmp name l) ∙ ap is_eq is) in
    let named_other : may_name scope l ≡ false = sym (ap (may_name scope) same) ∙ other in
    rw (not_null d value e, named_other) refl
found_at Greater scope name l d value rest is other later e = or_right _ (has_stranger scope rest) (later e)

stranger_found : (scope : Scope) (name : List ℕ) (value : Data) (ms : Members) → may_name scope name ≡ false
    → present (get_member name ms) ≡ Some value → has_stranger scope ms ≡ true
stranger_found scope name value no_members other e = absurd (cc)
stranger_found scope name value (member l d rest) other e =
    found_at _ scope name l d value rest refl other (stranger_found scope name value rest other)
    e

object_refused : {A E : Type 0} (scope : Scope) (fault : E) (read : Signal → Option Data → Result A E)
    (found value : Data)
    (name : List ℕ) → may_name scope name ≡ false → field_at name found ≡ Some value
    → read_map scope fault read (Some found) ≡ Err fault
unfolding read_map
object_refused scope fault read null value name other e = absurd (cc)
object_refused scope fault read (boolean b) value name other e = absurd (cc)
object_refused scope fault read (number n) value name other e = absurd (cc)
object_refused scope fault read (string s) value name other e = absurd (cc)
object_refused scope fault read (array ds) value name other e = absurd (cc)
object_refused scope fault read (object ms) value name other e = rw (stranger_found scope name value ms other e) refl

-- refuses the map
pub map_refused : {A E : Type 0} (scope : Scope) (fault : E) (read : Signal → Option Data → Result A E)
    (found : Option Data) (value : Data) (name : List ℕ) → option_and_then (field_at name) found ≡ Some value
    → may_name scope name ≡ false → read_map scope fault read found ≡ Err fault
map_refused scope fault read None value name has other = absurd (cc)
map_refused scope fault read (Some d) value name has other = object_refused scope fault read d value name other has
