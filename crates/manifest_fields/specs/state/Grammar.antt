-- The two kinds of name that a field may ask for.
use Rattle.std.specs.Prelude.{ℕ, List, Bool}
use Rattle.manifest.specs.rule.Names.{is_name, is_label}
use Rattle.manifest_fields.specs.declared.fields.Grammar.{Grammar}
use Rattle.manifest_fields.specs.declared.fields.Grammar.TheVariants as grammars

abbrev pub passes : Grammar → List ℕ → Bool
passes grammars.Name text = is_name text
passes grammars.Label text = is_label text
