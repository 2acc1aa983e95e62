-- Gates whose names are borrowed, with one more.
use Rattle.std.proofs.Common.{◌≡◌, ◌≤◌, ◌<◌, ◌∙◌, ◌||◌, ℕ, Bool, true, false, List, [], ◌∷◌, ◌++◌, length, map, Bor}
use Rattle.std.proofs.Common.{Ok, Err}
use Rattle.std.proofs.Common.{Result, refl, ap, sym, arith, bytes_eq, nat_le}
use Rattle.std.specs.Prelude.{if◌then◌else◌}
use Rattle.std.specs.List.{list_any}
use Rattle.std.proofs.lemmas.Bool.{le-leb, lt-leb}
use Rattle.std.proofs.lemmas.List.{length-map, map-append}
use Rattle.json_fields.specs.rule.Reading.{◌>>=◌, refused_if}
use Rattle.manifest.specs.rule.Gates.{most_gates}
use Rattle.manifest_fields.specs.declared.fault.ManifestFault.{ManifestFault}
use Rattle.manifest_fields.specs.declared.fault.ManifestFault.TheVariants.{TooMany}
use Rattle.extended_manifest.specs.state.Additions.{has_name}
use Rattle.extended_manifest.specs.rule.Extended.{with_gate}

abbrev texts : List (Bor (List ℕ)) → List (List ℕ)
texts names = map (λ n. n.now) names

any_of_texts : (names : List (Bor (List ℕ))) (name : List ℕ)
    → list_any (λ other. bytes_eq other name) (texts names) ≡ has_name names name
any_of_texts [] name = refl
any_of_texts (n ∷ ns) name = ap (λ b. bytes_eq n.now name || b) (any_of_texts ns name)

-- what comes of a name, by whether it is there and whether there is room
abbrev chosen : Bool → Bool → List (List ℕ) → List ℕ → Result (List (List ℕ)) ManifestFault
chosen there full gates name =
    if there then Ok gates else (refused_if full TooMany >>= λ room. Ok (gates ++ name ∷ []))

chosen_by : (names : List (Bor (List ℕ))) (name : List ℕ) (there full : Bool) → has_name names name ≡ there
    → nat_le most_gates (length names) ≡ full → with_gate (texts names) name ≡ chosen there full (texts names) name
chosen_by names name there full e f =
    ap (λ b. chosen b (nat_le most_gates (length (texts names))) (texts names) name) (any_of_texts names name ∙ e)
    ∙ ap (λ n. chosen there (nat_le most_gates n) (texts names) name) (length-map names (λ n. n.now))
    ∙ ap (λ b. chosen there b (texts names) name) f

pub is_there : (names : List (Bor (List ℕ))) (name : List ℕ) → has_name names name ≡ true
    → with_gate (texts names) name ≡ Ok (texts names)
is_there names name e = chosen_by names name true (nat_le most_gates (length names)) e refl

pub no_room : (names : List (Bor (List ℕ))) (name : List ℕ) → has_name names name ≡ false → most_gates ≤ length names
    → with_gate (texts names) name ≡ Err TooMany
no_room names name e full = chosen_by names name false true e (le-leb most_gates (length names) full)

pub gate_added : (names : List (Bor (List ℕ))) (name : Bor (List ℕ)) → has_name names name.now ≡ false
    → length names < most_gates → with_gate (texts names) name.now ≡ Ok (texts (names ++ name ∷ []))
gate_added names name e room =
    chosen_by names name.now false false e (lt-leb most_gates (length names) room)
    ∙ ap (λ gates. Ok gates) (sym (map-append (λ n. n.now) names (name ∷ [])))
