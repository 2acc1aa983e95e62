-- What is printed of a quantity.
use Rattle.std.specs.Prelude.{ℕ, suc, zero, ◌+◌, ◌*◌, ◌-◌, ◌/◌, ◌%◌, ◌^◌, List, [], ◌++◌, length, replicate, Option}
use Rattle.std.specs.Prelude.{Some, None, option_map, ◌&&◌, nat_lt, ◌==◌, if◌then◌else◌, codes, decimal}
use Rattle.std.specs.Option.{option_or}
use Rattle.quantity.specs.rule.Quantity.{thousandths_of}
use Rattle.quantity.specs.rule.Suffix.{times}
use Rattle.quantity.specs.declared.form.Form.{Form}
use Rattle.quantity.specs.declared.form.Scale.{Scale}
use Rattle.quantity.specs.declared.form.Scale.TheVariants.{Units, Exa, Peta, Tera, Giga, Mega, Kilo, Exbi, Pebi, Tebi}
use Rattle.quantity.specs.declared.form.Scale.TheVariants.{Gibi, Mebi, Kibi}

-- the suffix of a scale, and how much it scales
abbrev pub scale_parts : Scale → List ℕ × ℕ
scale_parts Units = (codes "", 1)
scale_parts Exa = (codes "E", 10 ^ 18)
scale_parts Peta = (codes "P", 10 ^ 15)
scale_parts Tera = (codes "T", 10 ^ 12)
scale_parts Giga = (codes "G", 10 ^ 9)
scale_parts Mega = (codes "M", 10 ^ 6)
scale_parts Kilo = (codes "k", 10 ^ 3)
scale_parts Exbi = (codes "Ei", 2 ^ 60)
scale_parts Pebi = (codes "Pi", 2 ^ 50)
scale_parts Tebi = (codes "Ti", 2 ^ 40)
scale_parts Gibi = (codes "Gi", 2 ^ 30)
scale_parts Mebi = (codes "Mi", 2 ^ 20)
scale_parts Kibi = (codes "Ki", 2 ^ 10)

abbrev pub scale_suffix : Scale → List ℕ
scale_suffix scale = (scale_parts scale).0

abbrev pub scale_numerator : Scale → ℕ
scale_numerator scale = (scale_parts scale).1

-- the scales in the order in which they are tried: units first, then decimal and binary ones, the
-- largest first
abbrev pub scale_at : ℕ → Scale
scale_at place =
    if place == 0 then Units
    else if place == 1 then Exa
    else if place == 2 then Peta
    else if place == 3 then Tera
    else if place == 4 then Giga
    else if place == 5 then Mega
    else if place == 6 then Kilo
    else if place == 7 then Exbi
    else if place == 8 then Pebi
    else if place == 9 then Tebi
    else if place == 10 then Gibi
    else if place == 11 then Mebi
    else Kibi

-- The least number with this many digits after its point whose value is not below a quantity, as its
-- digits without the point.
abbrev pub least_number : ℕ → ℕ → ℕ → ℕ
least_number thousandths places numerator = (thousandths - 1) * 10 ^ places / (1000 * numerator) + 1

-- that number, where it has at most 17 digits
abbrev pub few_digits : ℕ → Option ℕ
few_digits number = if nat_lt number (10 ^ 17) then Some number else None

-- a number of at most 17 digits, this many of them after the point, that has exactly the quantity as
-- its value in a scale
abbrev pub exact_number : ℕ → ℕ → ℕ → Option ℕ
exact_number thousandths places numerator =
    let number = least_number thousandths places numerator in
    if nat_lt number (10 ^ 17) && thousandths_of number places (times numerator) == thousandths
    then Some number else None

-- its digits before and after the point
abbrev pub form_of : ℕ → Scale → ℕ → Form
form_of places scale number = record {
  whole = number / 10 ^ places;
  fraction = number % 10 ^ places;
  places = places;
  scale = scale;
}

-- the form at a place: by the digits after the point, and then by the scale
abbrev pub form_at : ℕ → ℕ → Option Form
form_at thousandths place =
    let places = place / 13 in
    let scale = scale_at (place % 13) in
    option_map (form_of places scale) (exact_number thousandths places (scale_numerator scale))

-- how many forms there are: 18 numbers of digits after the point, with 13 scales each
abbrev pub form_count : ℕ
form_count = 18 * 13

-- the first of this many forms that writes the quantity
unfoldable pub first_form : ℕ → ℕ → Option Form
first_form thousandths zero = None
first_form thousandths (suc n) = option_or (first_form thousandths n) (form_at thousandths n)

-- this many digits, zeros first
abbrev pub zero_padded : ℕ → ℕ → List ℕ
zero_padded places n = replicate (places - length (decimal n)) 48 ++ decimal n

-- the text of a form: with no point where no digit follows it, and no digit before the point where
-- that were a zero
abbrev pub form_text : Form → List ℕ
form_text form =
    if form.places == 0 then decimal form.whole ++ scale_suffix form.scale
    else (if form.whole == 0 then [] else decimal form.whole)
    ++ (codes "." ++ (zero_padded form.places form.fraction ++ scale_suffix form.scale))

-- no form is needed below 10^17 thousandths
abbrev pub printed_form : ℕ → Option Form
printed_form thousandths = if nat_lt thousandths (10 ^ 17) then None else first_form thousandths form_count

-- the units, or the thousandths where they are no whole number of units
abbrev pub plain_text : ℕ → List ℕ
plain_text thousandths =
    if thousandths % 1000 == 0 then decimal (thousandths / 1000) else decimal thousandths ++ codes "m"

abbrev pub text_by_form : Option Form → ℕ → List ℕ
text_by_form None thousandths = plain_text thousandths
text_by_form (Some form) thousandths = form_text form

-- What is printed of a quantity: the form, where there is one.
abbrev pub quantity_text : ℕ → List ℕ
quantity_text thousandths = text_by_form (printed_form thousandths) thousandths
