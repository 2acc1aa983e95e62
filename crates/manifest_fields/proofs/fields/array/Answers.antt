use Rattle.manifest_fields.proofs.Arrays.{items_or_found}
use Rattle.manifest_fields.proofs.fields.array.Goals as goal

pub returns-in-Some-as_array : goal.returns-in-Some-as_array
returns-in-Some-as_array c = rw (c.in-Some.is, c.as_slice.ensures.value)
    (items_or_found c.args.field c.in-Some-as_array.list.now.items _ c.in-Some-as_array.ensures)
