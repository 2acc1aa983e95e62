-- Each percentage that was read has its signal's capacity.
use Rattle.std.proofs.Common.{◌≡◌, ◌∙◌, ℕ, Bool, true, false, Option, Some, None, Result, Ok, Err, refl, ap, sym, subst}
use Rattle.std.specs.Prelude.{IfOk, if◌then◌else◌}
use Rattle.serde_json.specs.Data.{Data}
use Rattle.json_fields.specs.rule.Reading.{◌>>=◌}
use Rattle.quantity.specs.state.Limit.{HasItsCapacity}
use Rattle.quantity.specs.declared.limit.Limit.{Limit}
use Rattle.quantity.specs.declared.limit.Limit.TheVariants.{Percent, Quantity}
use Rattle.json_fields.specs.rule.Quantities.{limit_in}
use Rattle.json_fields.specs.declared.fault.FieldFault.{FieldFault}
use Rattle.json_fields.specs.rule.SignalMaps.{in_map}
use Rattle.signals.specs.declared.by_signal.BySignal.{BySignal}
use Rattle.signals.specs.rule.BySignal.{of}
use Rattle.node_lines.specs.declared.fault.NodeFault.{NodeFault}
use Rattle.node_lines.specs.rule.Limits.{is_off, with_capacity, limit_at, reclaim_at}
use Rattle.node_lines.specs.state.Limits.{HaveTheirCapacity, ReclaimsHaveTheirCapacity}
use Rattle.node_lines.specs.rule.Maps.{or_config, map_of}
use Rattle.node_lines.proofs.LawLemmas.{map_read}

has_it : (capacity : Option ℕ) (limit kept : Limit) → with_capacity capacity limit ≡ Ok kept
    → HasItsCapacity capacity kept
has_it capacity (Quantity n) kept e =
    let same : Quantity n ≡ kept = cc in
    subst (HasItsCapacity capacity) same tt
has_it None (Percent n) kept e = absurd (cc)
has_it (Some c) (Percent n) kept e =
    let same : Percent n ≡ kept = cc in
    subst (HasItsCapacity (Some c)) same refl

kept_has : (capacity : Option ℕ) (r : Result Limit NodeFault) (kept : Limit)
    → ((limit : Limit) → r ≡ Ok limit → HasItsCapacity capacity limit)
    → (r >>= λ limit. Ok (Some limit)) ≡ Ok (Some kept) → HasItsCapacity capacity kept
kept_has capacity (Ok limit) kept has e =
    let same : limit ≡ kept = cc in
    has kept (ap (λ (l : Limit). Ok l) same)
kept_has capacity (Err fault) kept has e = absurd (cc)

on_has : (capacity : Option ℕ) (limit kept : Limit) (off : Bool)
    → (if off then Ok None else (with_capacity capacity limit >>= λ l. Ok (Some l))) ≡ Ok (Some kept)
    → HasItsCapacity capacity kept
on_has capacity limit kept true e = absurd (cc)
on_has capacity limit kept false e = kept_has capacity (with_capacity capacity limit) kept (has_it capacity limit) e

limit_from : (capacity : Option ℕ) (read : Result Limit FieldFault) (kept : Limit)
    → (or_config read >>= λ limit. if is_off limit then Ok None else
    (with_capacity capacity limit >>= λ l. Ok (Some l))) ≡ Ok (Some kept)
    → HasItsCapacity capacity kept
limit_from capacity (Ok limit) kept e = on_has capacity limit kept (is_off limit) e
limit_from capacity (Err fault) kept e = absurd (cc)

limit_has : (capacity : Option ℕ) (found : Option Data) (kept : Limit) → limit_at capacity found ≡ Ok (Some kept)
    → HasItsCapacity capacity kept
limit_has capacity None kept e = absurd (cc)
limit_has capacity (Some d) kept e = limit_from capacity (limit_in d) kept e

reclaim_from : (capacity : Option ℕ) (read : Result Limit FieldFault) (kept : Limit)
    → (or_config read >>= λ limit. with_capacity capacity limit) ≡ Ok kept → HasItsCapacity capacity kept
reclaim_from capacity (Ok limit) kept e = has_it capacity limit kept e
reclaim_from capacity (Err fault) kept e = absurd (cc)

reclaim_has : (capacity : Option ℕ) (found : Option Data) (kept : Limit) → reclaim_at capacity found ≡ Ok kept
    → HasItsCapacity capacity kept
reclaim_has capacity None kept e =
    let same : Quantity 0 ≡ kept = cc in
    subst (HasItsCapacity capacity) same tt
reclaim_has capacity (Some d) kept e = reclaim_from capacity (limit_in d) kept e

pub limits_have : (capacity : BySignal (Option ℕ)) (found : Option Data)
    (r : Result (BySignal (Option Limit)) NodeFault)
    → r ≡ map_of (λ signal. limit_at (of capacity signal)) found → IfOk r (HaveTheirCapacity capacity)
limits_have capacity found (Ok all) e = λ signal limit set.
    let read = map_read (λ s. limit_at (of capacity s)) found all (sym e) signal in
    limit_has (of capacity signal) (in_map found signal) limit (read ∙ ap (λ (l : Option Limit). Ok l) set)
limits_have capacity found (Err fault) e = tt

pub reclaims_have : (capacity : BySignal (Option ℕ)) (found : Option Data) (r : Result (BySignal Limit) NodeFault)
    → r ≡ map_of (λ signal. reclaim_at (of capacity signal)) found → IfOk r (ReclaimsHaveTheirCapacity capacity)
reclaims_have capacity found (Ok all) e = λ signal.
    reclaim_has (of capacity signal) (in_map found signal) (of all signal)
    (map_read (λ s. reclaim_at (of capacity s)) found all (sym e) signal)
reclaims_have capacity found (Err fault) e = tt
