-- The quantity or the limit that a value of JSON holds (Kubernetes, "Quantity" of the resource
-- pages; "Node-pressure Eviction", "Eviction thresholds").
use Rattle.std.specs.Prelude.{ℕ, ◌*◌, min, List, Option, Some, None, is_some, option_and_then, if◌then◌else◌, Result}
use Rattle.std.specs.Prelude.{Ok, Err}
use Rattle.serde_json.specs.Data.{Data}
use Rattle.serde_json.specs.Find.{as_str, as_number, as_i64, as_u64}
use Rattle.json_fields.specs.rule.Reading.{◌>>=◌, else_fault}
use Rattle.quantity.specs.rule.Limit.{limit_of}
use Rattle.quantity.specs.rule.Quantity.{quantity_of, greatest_quantity}
use Rattle.quantity.specs.declared.fault.QuantityFault.{QuantityFault}
use Rattle.quantity.specs.declared.fault.QuantityFault.TheVariants.{Negative}
use Rattle.quantity.specs.declared.limit.Limit.{Limit}
use Rattle.quantity.specs.declared.limit.Limit.TheVariants.{Quantity}
use Rattle.json_fields.specs.declared.fault.FieldFault.{FieldFault}
use Rattle.json_fields.specs.declared.fault.FieldFault.TheVariants.{WrongKind, Faulty}

-- the quantity of a text
abbrev pub written : {A : Type 0} → Result A QuantityFault → Result A FieldFault
written (Ok x) = Ok x
written (Err fault) = Err (Faulty fault)

-- a whole number is one of units, and no negative one
abbrev pub units_from : Data → Option ℕ → Result ℕ FieldFault
units_from d None = if is_some (option_and_then as_i64 (as_number d)) then Err (Faulty Negative) else Err WrongKind
units_from d (Some units) = Ok (min (1000 * units) greatest_quantity)

abbrev pub units_in : Data → Result ℕ FieldFault
units_in d = units_from d (option_and_then as_u64 (as_number d))

abbrev pub quantity_from : Data → Option (List ℕ) → Result ℕ FieldFault
quantity_from d None = units_in d
quantity_from d (Some text) = written (quantity_of text)

-- a quantity, in thousandths: a text of one, or a number of units
abbrev pub quantity_in : Data → Result ℕ FieldFault
quantity_in d = quantity_from d (as_str d)

-- a quantity that may be left out; one that is faulty has this fault
abbrev pub quantity_or : {E : Type 0} → E → Option Data → Result (Option ℕ) E
quantity_or fault None = Ok None
quantity_or fault (Some d) = else_fault fault (quantity_in d) >>= λ thousandths. Ok (Some thousandths)

abbrev pub limit_from : Data → Option (List ℕ) → Result Limit FieldFault
limit_from d None = units_in d >>= λ thousandths. Ok (Quantity thousandths)
limit_from d (Some text) = written (limit_of text)

-- a limit: a text that ends with `%` is a percentage, and any other value a quantity
abbrev pub limit_in : Data → Result Limit FieldFault
limit_in d = limit_from d (as_str d)
