-- The tokens of a value that fit are those of a plain value that nests no deeper than there is room.
use Rattle.std.proofs.Common.{◌≡◌, ◌==◌, ◌∙◌, ◌&&◌, ℕ, zero, suc, ◌+◌, ◌-◌, ◌≤◌, List, [], ◌++◌, Bool, true}
use Rattle.std.proofs.Common.{false, Some, None, is_some, refl, sym, ap, arith, true≢false}
use Rattle.std.specs.Prelude.{nat_lt, if◌then◌else◌}
use Rattle.std.proofs.lemmas.List.{append-nil, append_assoc}
use Rattle.json.specs.Token.{Token}
use Rattle.json.specs.Json as json
use Rattle.json.specs.Json.{Json}
use Rattle.json.specs.Tree.{json_tokens, items_tokens, members_tokens, depth, items_depth, members_depth}
use Rattle.json_fields.specs.state.Borrowed.{whole, is_plain, items_are_plain, members_are_plain}
use Rattle.serde_json.specs.Read.{max_depth}
use Rattle.json_fields.specs.state.Tape.{one_less, one_more, room_if, room_after, fits, fits_from}

opened_from : (b : Bool) (room : ℕ) (ts : List Token)
    → fits_from (if b then None else Some (room - 1)) (λ n. fits n ts) ≡ true → fits (room - 1) ts ≡ true
opened_from true room ts e = absurd (true≢false (sym e))
opened_from false room ts e = e

-- where an array or an object opens there is room
opens : (room : ℕ) (ts : List Token) → fits_from (one_less room) (λ n. fits n ts) ≡ true
    → (inside : ℕ) × (room ≡ suc inside) × (fits inside ts ≡ true)
opens zero ts e = absurd (true≢false (sym e))
opens (suc r) ts e =
    let less : suc r - 1 ≡ r = omega arith in
    (r, refl, ap (λ n. fits n ts) (sym less) ∙ opened_from (suc r == 0) (suc r) ts e)

closed_from : (b : Bool) (r : ℕ) (ts : List Token)
    → fits_from (if b then Some (r + 1) else None) (λ n. fits n ts) ≡ true → fits (suc r) ts ≡ true
closed_from true r ts e =
    let more : r + 1 ≡ suc r = omega arith in
    ap (λ n. fits n ts) (sym more) ∙ e
closed_from false r ts e = absurd (true≢false (sym e))

-- behind its end there is as much room as before it
closes : (r : ℕ) (ts : List Token) → fits_from (one_more r) (λ n. fits n ts) ≡ true → fits (suc r) ts ≡ true
closes r ts e = closed_from (nat_lt r max_depth) r ts e

plain_from : (b : Bool) (room : ℕ) (ts : List Token) → fits_from (room_if b room) (λ n. fits n ts) ≡ true
    → (b ≡ true) × (fits room ts ≡ true)
plain_from true room ts e = (refl, e)
plain_from false room ts e = absurd (true≢false (sym e))

both : (a b : Bool) → a ≡ true → b ≡ true → a && b ≡ true
both a b p q = rw (p, q) refl

mutual
  unfolding room_after

  pub fits-json : (j : Json) (room : ℕ) (rest : List Token) → fits room (json_tokens j ++ rest) ≡ true
      → (is_plain j ≡ true) × (depth j ≤ room) × (fits room rest ≡ true)
  fits-json json.null room rest e = (refl, omega arith, e)
  fits-json (json.boolean b) room rest e = (refl, omega arith, e)
  fits-json (json.number s) room rest e =
      let p = plain_from (is_some (whole s)) room rest e in
      (p.0, omega arith, p.1)
  fits-json (json.string s) room rest e = (refl, omega arith, e)
  fits-json (json.array js) room rest e =
      let o = opens room (items_tokens js ++ rest) e in
      let i = fits-items js o.0 rest o.2 in
      (i.0, omega (arith, o.1, i.1), ap (λ n. fits n rest) o.1 ∙ i.2)
  fits-json (json.object ms) room rest e =
      let o = opens room (members_tokens ms ++ rest) e in
      let m = fits-members ms o.0 rest o.2 in
      (m.0, omega (arith, o.1, m.1), ap (λ n. fits n rest) o.1 ∙ m.2)

  fits-items : (js : json.Items) (r : ℕ) (rest : List Token) → fits r (items_tokens js ++ rest) ≡ true
      → (items_are_plain js ≡ true) × (items_depth js ≤ r) × (fits (suc r) rest ≡ true)
  fits-items json.no_items r rest e = (refl, omega arith, closes r rest e)
  fits-items (json.item j js) r rest e =
      let f = fits-json j r (items_tokens js ++ rest)
      (ap (fits r) (sym (append_assoc (json_tokens j) (items_tokens js) rest)) ∙ e) in
      let i = fits-items js r rest f.2 in
      (both _ _ f.0 i.0, omega (arith, f.1, i.1), i.2)

  fits-members : (ms : json.Members) (r : ℕ) (rest : List Token) → fits r (members_tokens ms ++ rest) ≡ true
      → (members_are_plain ms ≡ true) × (members_depth ms ≤ r) × (fits (suc r) rest ≡ true)
  fits-members json.no_members r rest e = (refl, omega arith, closes r rest e)
  fits-members (json.member k j ms) r rest e =
      let f = fits-json j r (members_tokens ms ++ rest)
      (ap (fits r) (sym (append_assoc (json_tokens j) (members_tokens ms) rest)) ∙ e) in
      let m = fits-members ms r rest f.2 in
      (both _ _ f.0 m.0, omega (arith, f.1, m.1), m.2)

-- a value all of whose tokens fit is plain, and nests no deeper than a line may
pub fits_plain : (j : Json) (ts : List Token) → fits max_depth ts ≡ true → ts ≡ json_tokens j
    → (is_plain j ≡ true) × (depth j ≤ max_depth)
fits_plain j ts fit spelled =
    let f = fits-json j max_depth [] (ap (fits max_depth) (append-nil (json_tokens j) ∙ sym spelled) ∙ fit) in
    (f.0, f.1)
