-- The statements of the laws.
use Rattle.std.specs.Prelude.{◌≡◌, ◌≢◌, ℕ, ◌/◌, ◌%◌, ◌^◌, ◌<◌, ◌≤◌, ◌⊎◌, List, ◌∷◌, ◌++◌, slice_index, true}
use Rattle.std.specs.Char.{is_ascii_digit}
use Rattle.quantity.specs.state.Digits.{AllDigits}
use Rattle.quantity.specs.state.Duration.{HasSeconds}
use Rattle.quantity.specs.rule.Number.{after_number}
use Rattle.quantity.specs.state.Number.{IsLongestRun, run_of}
use Rattle.quantity.specs.declared.fault.QuantityFault.{QuantityFault}
use Rattle.quantity.specs.rule.Percent.{share_of}
use Rattle.quantity.specs.state.Percent.{HasHundredths, percent_text}
use Rattle.quantity.specs.state.Printed.{quantity_text}
use Rattle.quantity.specs.rule.Quantity.{greatest_quantity, after_plus}
use Rattle.quantity.specs.state.Quantity.{HasThousandths, HasQuantityFault}

abbrev pub QuantityTextHasOneValue : List ℕ → ℕ → ℕ → Type 0
QuantityTextHasOneValue text m n = HasThousandths text m → HasThousandths text n → m ≡ n

abbrev pub PercentTextHasOneValue : List ℕ → ℕ → ℕ → Type 0
PercentTextHasOneValue text m n = HasHundredths text m → HasHundredths text n → m ≡ n

abbrev pub DurationTextHasOneValue : List ℕ → ℕ → ℕ → Type 0
DurationTextHasOneValue text m n = HasSeconds text m → HasSeconds text n → m ≡ n

-- `+` is 43; a text may begin with one of them alone
abbrev pub LeadingPlusChangesNothing : List ℕ → ℕ → Type 0
LeadingPlusChangesNothing text n = (slice_index text 0 ≢ 43 → HasThousandths text n → HasThousandths (43 ∷ text) n)
    × (HasThousandths (43 ∷ text) n → HasThousandths text n)

-- front is digits, perhaps after a plus, so the digit that follows it stands before the point
abbrev pub LargerDigitGivesNoLess : List ℕ → List ℕ → ℕ → ℕ → ℕ → ℕ → Type 0
LargerDigitGivesNoLess front back low high m n =
    AllDigits (after_plus front) → is_ascii_digit low ≡ true → is_ascii_digit high ≡ true → low ≤ high →
    HasThousandths (front ++ low ∷ back) m → HasThousandths (front ++ high ∷ back) n → m ≤ n

abbrev pub SharesAreWithinCapacity : ℕ → ℕ → Type 0
SharesAreWithinCapacity hundredths capacity = hundredths ≤ 10000 → share_of hundredths capacity ≤ capacity

abbrev pub SharesGrow : ℕ → ℕ → ℕ → ℕ → Type 0
SharesGrow few many low high = few ≤ many → low ≤ high → share_of few low ≤ share_of many high

-- each quantity that some text writes
abbrev pub WrittenQuantitiesReadBack : List ℕ → ℕ → Type 0
WrittenQuantitiesReadBack text thousandths = HasThousandths text thousandths
    → HasThousandths (quantity_text thousandths) thousandths

-- among them all whose units, or thousandths, have at most 17 digits
abbrev pub PrintedQuantitiesReadBack : ℕ → Type 0
PrintedQuantitiesReadBack thousandths =
    thousandths ≤ greatest_quantity →
    (thousandths < 10 ^ 17) ⊎ ((thousandths % 1000 ≡ 0) × (thousandths / 1000 < 10 ^ 17)) →
    HasThousandths (quantity_text thousandths) thousandths

-- the number of a text is the longest run that the text begins with
abbrev pub NumberIsLongestRun : List ℕ → Type 0
NumberIsLongestRun text = IsLongestRun text (run_of text) (after_number text)

abbrev pub PrintedPercentagesReadBack : ℕ → Type 0
PrintedPercentagesReadBack hundredths = hundredths ≤ 10000 → HasHundredths (percent_text hundredths) hundredths

abbrev pub QuantityTextHasOneFault : List ℕ → QuantityFault → QuantityFault → Type 0
QuantityTextHasOneFault text one other = HasQuantityFault text one → HasQuantityFault text other → one ≡ other
