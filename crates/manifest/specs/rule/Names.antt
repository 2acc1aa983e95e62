-- Names of Kubernetes' objects (Kubernetes, "Object Names and IDs").
use Rattle.std.specs.Prelude.{ℕ, ◌-◌, ◌==◌, ◌&&◌, ◌||◌, Bool, List, length, slice_index, nat_lt, nat_le}
use Rattle.std.specs.List.{list_all}

-- `a` to `z` and `0` to `9`
abbrev pub is_alphanumeric : ℕ → Bool
is_alphanumeric b = (nat_le 97 b && nat_le b 122) || (nat_le 48 b && nat_le b 57)

abbrev pub is_label_byte : ℕ → Bool
is_label_byte b = is_alphanumeric b || b == 45

abbrev pub is_name_byte : ℕ → Bool
is_name_byte b = is_label_byte b || b == 46

-- a letter or digit at both ends
abbrev pub has_ends : List ℕ → Bool
has_ends s = is_alphanumeric (slice_index s 0) && is_alphanumeric (slice_index s (length s - 1))

-- the name of an object: 1 to 253 bytes, with a letter or digit at both ends
unfoldable pub is_name : List ℕ → Bool
is_name s = nat_lt 0 (length s) && nat_le (length s) 253 && list_all is_name_byte s && has_ends s

-- a namespace's or container's name: at most 63 bytes, and no point
unfoldable pub is_label : List ℕ → Bool
is_label s = nat_lt 0 (length s) && nat_le (length s) 63 && list_all is_label_byte s && has_ends s
