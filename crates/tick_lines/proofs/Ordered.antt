-- Arrays are read in order.
use Rattle.std.proofs.Common.{◌≡◌, List, [], ◌∷◌, Option, Some, None, Result, Ok, refl, sym, subst}
use Rattle.std.specs.List.{AllZip}
use Rattle.serde_json.specs.Data.{Data, Items}
use Rattle.serde_json.specs.Find.{as_array}
use Rattle.json_fields.specs.rule.Fields.{items_list}
use Rattle.json_fields.specs.rule.Reading.{◌>>=◌, each}
use Rattle.json_fields.proofs.Steps.{bind_ok}
use Rattle.json_fields.proofs.Only.{same_value}
use Rattle.tick_lines.specs.declared.fault.TickLineFault.{TickLineFault}
use Rattle.tick_lines.specs.rule.Fields.{items_from, items_of}
use Rattle.tick_lines.specs.rule.Listings.{listing_of}
use Rattle.tick_lines.specs.rule.Results.{result_of}
use Rattle.tick_lines.specs.rule.Entries.{entry_of}
use Rattle.tick_lines.specs.state.Laws.{SaysInOrder, InOrder}
use Rattle.tick_lines.proofs.Parts.{line_parts, entry_parts}

each_ok : {A B E : Type 0} (f : A → Result B E) (xs : List A) (ys : List B) → each f xs ≡ Ok ys
    → AllZip (λ x y. f x ≡ Ok y) xs ys
each_ok f [] [] e = tt
each_ok f [] (y ∷ ys) e = absurd (cc)
each_ok f (x ∷ xs) ys e =
    let first = bind_ok (f x) _ ys e in
    let rest = bind_ok (each f xs) _ ys first.2 in
    let same = same_value _ ys rest.2 in
    subst (λ (all : List _). AllZip (λ x y. f x ≡ Ok y) (x ∷ xs) all) same (first.1, each_ok f xs rest.0 rest.1)

items_in_order : {A : Type 0} (read : Data → Result A TickLineFault) (d : Data) (found : Option Items) (all : List A)
    → as_array d ≡ found → (items_from found >>= each read) ≡ Ok all → SaysInOrder read (Some d) all
items_in_order read d None all is e = absurd (cc)
items_in_order read d (Some items) all is e = (items, is, each_ok read (items_list items) all e)

says_in_order : {A : Type 0} (read : Data → Result A TickLineFault) (found : Option Data) (all : List A)
    → (items_of found >>= each read) ≡ Ok all → SaysInOrder read found all
says_in_order read None all e = sym (same_value [] all e)
says_in_order read (Some d) all e = items_in_order read d (as_array d) all refl e

pub in_order : InOrder
in_order = record {
  entries = λ d line e. says_in_order entry_of _ line.entries (line_parts d line e).entries;
  listings = λ d entry e. says_in_order listing_of _ entry.listings (entry_parts d entry e).listings;
  results = λ d entry e. says_in_order result_of _ entry.results (entry_parts d entry e).results;
}
