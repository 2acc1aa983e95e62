-- Which fault is answered for a map.
use Rattle.std.proofs.Common.{◌≡◌, Option, Result, Err, inl, inr}
use Rattle.std.specs.Prelude.{not}
use Rattle.serde_json.specs.Data.{Data}
use Rattle.json_fields.proofs.Only.{Only, only_ok, only_bind, only_refused}
use Rattle.json_fields.proofs.Steps.{bind_err}
use Rattle.signals.specs.declared.signal.Signal.{Signal}
use Rattle.signals.specs.declared.signal.Signal.TheVariants.{MemoryAvailable, NodefsAvailable, ImagefsAvailable}
use Rattle.signals.specs.declared.signal.Signal.TheVariants.{NodefsInodesFree, ImagefsInodesFree, PidAvailable}
use Rattle.json_fields.specs.declared.scope.Scope.{Scope}
use Rattle.json_fields.specs.rule.SignalMaps.{is_signal_map, in_map, read_each, read_map}

-- a property of the fault of each signal is one of the fault of all
pub each_only : {A E : Type 0} (P : E → Type 0) (read : Signal → Result A E)
    → ((signal : Signal) → Only P (read signal))
    → Only P (read_each read)
unfolding read_each
each_only P read one =
    only_bind P _ _ (one MemoryAvailable) (λ a.
    only_bind P _ _ (one NodefsAvailable) (λ b.
    only_bind P _ _ (one ImagefsAvailable) (λ c.
    only_bind P _ _ (one NodefsInodesFree) (λ d.
    only_bind P _ _ (one ImagefsInodesFree) (λ f.
    only_bind P _ _ (one PidAvailable) (λ g. only_ok P _))))))

pub map_only : {A E : Type 0} (P : E → Type 0) (scope : Scope) (fault : E) (read : Signal → Option Data → Result A E)
    (found : Option Data) → P fault → ((signal : Signal) (d : Option Data) → Only P (read signal d))
    → Only P (read_map scope fault read found)
unfolding read_map
map_only P scope fault read found is one =
    only_bind P _ _ (only_refused P (not (is_signal_map scope found)) fault is) (λ alone.
    each_only P (λ s. read s (in_map found s)) (λ s. one s (in_map found s)))

-- a fault of all is that of one signal
pub each_err : {A E : Type 0} (read : Signal → Result A E) (fault : E) → read_each read ≡ Err fault
    → (signal : Signal) × (read signal ≡ Err fault)
unfolding read_each
each_err read fault e = elim (bind_err (read MemoryAvailable) _ fault e) [
  | inl a ↦ (MemoryAvailable, a)
  | inr a ↦ elim (bind_err (read NodefsAvailable) _ fault a.2) [
    | inl b ↦ (NodefsAvailable, b)
    | inr b ↦ elim (bind_err (read ImagefsAvailable) _ fault b.2) [
      | inl c ↦ (ImagefsAvailable, c)
      | inr c ↦ elim (bind_err (read NodefsInodesFree) _ fault c.2) [
        | inl d ↦ (NodefsInodesFree, d)
        | inr d ↦ elim (bind_err (read ImagefsInodesFree) _ fault d.2) [
          | inl f ↦ (ImagefsInodesFree, f)
          | inr f ↦ elim (bind_err (read PidAvailable) _ fault f.2) [
            | inl g ↦ (PidAvailable, g)
            | inr g ↦ let last = g.2 in absurd (cc)
          ]
        ]
      ]
    ]
  ]
]
