-- The listings of containers in an entry, as they are written.
use Rattle.std.specs.Prelude.{ℕ, ℤ, ◌^◌, ◌==◌, List, [], ◌∷◌, nat_lt, Option, Some, None}
use Rattle.std.specs.Prelude.{option_and_then, if◌then◌else◌, Result, Ok, Err, codes}
use Rattle.serde_json.specs.Data.{Data}
use Rattle.serde_json.specs.Find.{as_str, as_number, as_i64, as_u64}
use Rattle.json_fields.specs.rule.Fields.{field_at, text_at}
use Rattle.json_fields.specs.rule.Numbers.{is_int32}
use Rattle.json_fields.specs.rule.Reading.{◌>>=◌, some_or}
use Rattle.state_diff.specs.declared.seen.CriState.{CriState}
use Rattle.state_diff.specs.declared.seen.CriState.TheVariants.{Created, Running, Exited, Unknown}
use Rattle.tick_lines.specs.declared.fault.TickLineFault.{TickLineFault}
use Rattle.tick_lines.specs.declared.fault.TickLineFault.TheVariants.{Usage}
use Rattle.tick_lines.specs.declared.listing.ListedInstance.{ListedInstance}
use Rattle.tick_lines.specs.declared.listing.Listing.{Listing}
use Rattle.tick_lines.specs.rule.Fields.{each_item, value_named}

abbrev pub attempt_from : Option ℕ → Result ℕ TickLineFault
attempt_from None = Err Usage
attempt_from (Some n) = if nat_lt n (2 ^ 31) then Ok n else Err Usage

-- below 2^31; 0 where none is written
abbrev pub attempt_of : Option Data → Result ℕ TickLineFault
attempt_of None = Ok 0
attempt_of (Some d) = attempt_from (option_and_then as_u64 (as_number d))

abbrev pub state_names : List (List ℕ × CriState)
state_names =
    (codes "CONTAINER_CREATED", Created) ∷
    (codes "CONTAINER_RUNNING", Running) ∷
    (codes "CONTAINER_EXITED", Exited) ∷
    (codes "CONTAINER_UNKNOWN", Unknown) ∷ []

-- the state of this name (CRI, ContainerState)
abbrev pub state_named : List ℕ → Result CriState TickLineFault
state_named name = value_named state_names name

-- the state of this number
abbrev pub state_numbered : Option ℕ → Result CriState TickLineFault
state_numbered None = Err Usage
state_numbered (Some n) =
    if n == 0 then Ok Created
    else (if n == 1 then Ok Running
    else (if n == 2 then Ok Exited
    else (if n == 3 then Ok Unknown else Err Usage)))

abbrev pub state_from : Data → Option (List ℕ) → Result CriState TickLineFault
state_from d None = state_numbered (option_and_then as_u64 (as_number d))
state_from d (Some s) = state_named s

abbrev pub state_of : Option Data → Result CriState TickLineFault
state_of None = Err Usage
state_of (Some d) = state_from d (as_str d)

abbrev pub code_from : Option ℤ → Option ℤ
code_from None = None
code_from (Some z) = if is_int32 z then Some z else None

-- an exit code, if this is one: a number of the API's type int32
abbrev pub code_of : Option Data → Option ℤ
code_of None = None
code_of (Some d) = code_from (option_and_then as_i64 (as_number d))

unfoldable pub instance_of : Data → Result ListedInstance TickLineFault
instance_of d = do
  attempt ← attempt_of (field_at (codes "attempt") d)
  state ← state_of (field_at (codes "state") d)
  Ok (record { attempt = attempt; state = state; code = code_of (field_at (codes "exitCode") d) })

unfoldable pub listing_of : Data → Result Listing TickLineFault
listing_of d = do
  name ← some_or Usage (text_at (codes "name") d)
  instance ← instance_of d
  Ok (record { name = name; instance = instance })

-- the listings of an entry, in order
abbrev pub listings_of : Option Data → Result (List Listing) TickLineFault
listings_of found = each_item listing_of found
