use Rattle.std.proofs.Common.{◌∙◌}
use Rattle.json_fields.proofs.OnTape.{string_is, number_is, boolean_is, null_is, view-String, view-Number, view-Bool}
use Rattle.json_fields.proofs.OnTape.{view-Null}
use Rattle.json_fields.proofs.tape.scalar_of.Goals as goal

pub returns-in-Some : goal.returns-in-Some
returns-in-Some g c j begins =
    view-String _ c.in-Some.text ∙ string_is c.in-Some.text.now j (c.in-Some.ensures j begins)

pub returns-in-Some-as_number : goal.returns-in-Some-as_number
returns-in-Some-as_number g c j begins =
    view-Number _ c.in-Some-as_number.text
    ∙ number_is c.in-Some-as_number.text.now j (c.in-Some-as_number.ensures j begins)

pub returns-in-Some-as_bool : goal.returns-in-Some-as_bool
returns-in-Some-as_bool g c j begins =
    view-Bool _ c.in-Some-as_bool.truth ∙ boolean_is c.in-Some-as_bool.truth j (c.in-Some-as_bool.ensures j begins)

pub returns-then-is_null : goal.returns-then-is_null
returns-then-is_null g c j begins = view-Null _ ∙ null_is j (c.if-is_null.ensures j begins)
