-- The readiness gates of a pod (Kubernetes, "Pod Lifecycle", "Pod readiness"; "Labels and Selectors", "Syntax and
-- character set", for the names that a condition type has).
use Rattle.std.specs.Prelude.{ℕ, ◌-◌, ◌+◌, ◌==◌, ◌&&◌, ◌||◌, Bool, List, length, slice_index, nat_lt, nat_le, Option}
use Rattle.std.specs.Prelude.{Some, None, position, take, drop}
use Rattle.std.specs.List.{list_all}
use Rattle.std.specs.Char.{is_ascii_alphanumeric}
use Rattle.manifest.specs.rule.Names.{is_name}

-- a pod has no more gates (this profile's limit)
abbrev pub most_gates : ℕ
most_gates = 16

-- a letter, a digit, `-`, `_` or `.`
abbrev pub is_type_byte : ℕ → Bool
is_type_byte b = is_ascii_alphanumeric b || (b == 45 || (b == 95 || b == 46))

-- a letter or digit at both ends
abbrev pub has_type_ends : List ℕ → Bool
has_type_ends s = is_ascii_alphanumeric (slice_index s 0) && is_ascii_alphanumeric (slice_index s (length s - 1))

-- the part of a condition type without its prefix: 1 to 63 of these bytes
unfoldable pub is_plain_type : List ℕ → Bool
is_plain_type s = nat_lt 0 (length s) && nat_le (length s) 63 && list_all is_type_byte s && has_type_ends s

-- the place of the first slash
abbrev pub slash_in : List ℕ → Option ℕ
slash_in s = position (λ b. b == 47) s

-- cut at a slash: the name of an object in front of it, and a plain type after it
abbrev pub is_type_cut_at : List ℕ → Option ℕ → Bool
is_type_cut_at s None = is_plain_type s
is_type_cut_at s (Some i) = is_name (take i s) && is_plain_type (drop (i + 1) s)

-- a condition type: a qualified name, with or without a prefix and a slash
abbrev pub is_condition_type : List ℕ → Bool
is_condition_type s = is_type_cut_at s (slash_in s)
