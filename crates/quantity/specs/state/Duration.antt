-- What a duration means: the texts that have seconds, and the fault of each that has none (Kubernetes, "Node-pressure
-- Eviction", "Soft eviction thresholds": `evictionSoftGracePeriod`).
use Rattle.std.specs.Prelude.{◌≡◌, ◌≢◌, slice_index, false, ℕ, ◌+◌, ◌*◌, ◌<◌, ◌≤◌, ◌⊎◌, List, [], ◌∷◌, ◌++◌}
use Rattle.std.specs.Prelude.{length, slice_get, Some, None, option_and_then}
use Rattle.std.specs.Prelude.{IsSome, unwrap_or, All, sum_by, codes}
use Rattle.std.specs.List.{flat_map}
use Rattle.std.specs.Char.{is_ascii_digit}
use Rattle.std.specs.Str.Parse.{digits_value}
use Rattle.quantity.specs.state.Digits.{AllDigits}
use Rattle.quantity.specs.declared.fault.QuantityFault.{QuantityFault}
use Rattle.quantity.specs.declared.fault.QuantityFault.TheVariants.{Empty, BadDigit, BadSuffix, TooManyDigits}
use Rattle.quantity.specs.rule.Duration.{end_of_time, unit_seconds}

-- What a text means.

-- one part of a duration: digits and a unit
pub record Part : Type 0 where
  pub digits : List ℕ
  pub unit : ℕ

abbrev pub part_text : Part → List ℕ
part_text part = part.digits ++ part.unit ∷ []

-- 1 to 12 digits, and a unit
pub record IsPart (part : Part) : Type 0 where
  pub all_digits : AllDigits part.digits
  pub some_digits : 0 < length part.digits
  pub few_digits : length part.digits ≤ 12
  pub known_unit : IsSome (unit_seconds part.unit)

abbrev pub part_seconds : Part → ℕ
part_seconds part = digits_value 10 part.digits * unwrap_or (unit_seconds part.unit) 0

-- the text is these parts, one after another, and the seconds are their sum
pub record IsSumOf (text : List ℕ) (parts : List Part) (seconds : ℕ) : Type 0 where
  pub text_is : text ≡ flat_map part_text parts
  pub some_part : 0 < length parts
  pub each_part : All IsPart parts
  pub sum_is : seconds ≡ sum_by part_seconds parts
  pub below : seconds < end_of_time

-- the text is a duration of this many seconds
abbrev pub HasSeconds : List ℕ → ℕ → Type 0
HasSeconds text seconds = ((text ≡ codes "0") × (seconds ≡ 0)) ⊎ ((parts : List Part) × IsSumOf text parts seconds)

-- Why a text has no value: the first fault from left to right.

-- a number and what follows it: no unit, or one that brings the sum to the end of time
abbrev pub HasUnitFault : ℕ → ℕ → List ℕ → QuantityFault → Type 0
HasUnitFault sum number text fault =
    ((option_and_then unit_seconds (slice_get text 0) ≡ None) × (fault ≡ BadSuffix)) ⊎
    ((seconds : ℕ) × (option_and_then unit_seconds (slice_get text 0) ≡ Some seconds)
    × (end_of_time ≤ sum + number * seconds) × (fault ≡ TooManyDigits))

-- the digits that a text begins with are none; more than 12; or their unit has a fault
pub record HasPartFault (sum : ℕ) (text : List ℕ) (fault : QuantityFault) : Type 0 where
  pub digits : List ℕ
  pub more : List ℕ
  pub some_text : 0 < length text
  pub text_is : text ≡ digits ++ more
  pub all_digits : AllDigits digits
  pub no_more_digits : is_ascii_digit (slice_index more 0) ≡ false
  pub fault_is :
      ((length digits ≡ 0) × (fault ≡ BadDigit)) ⊎
      (((12 < length digits) × (fault ≡ TooManyDigits)) ⊎
      ((0 < length digits) × (length digits ≤ 12) × HasUnitFault sum (digits_value 10 digits) more fault))

-- some parts are without fault, and so is their sum; the part after them has the fault
pub record HasFaultAfter (sum : ℕ) (text : List ℕ) (fault : QuantityFault) : Type 0 where
  pub parts : List Part
  pub rest : List ℕ
  pub text_is : text ≡ flat_map part_text parts ++ rest
  pub each_part : All IsPart parts
  pub below : sum + sum_by part_seconds parts < end_of_time
  pub part_fault : HasPartFault (sum + sum_by part_seconds parts) rest fault

-- the text is empty, or is not `0` and has a fault in a part
abbrev pub HasDurationFault : List ℕ → QuantityFault → Type 0
HasDurationFault text fault = ((text ≡ []) × (fault ≡ Empty)) ⊎ ((0 < length text) × (text ≢ codes "0")
    × HasFaultAfter 0 text fault)
