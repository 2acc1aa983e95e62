-- The texts that are reasons with which a node ends a pod (Kubernetes, "Pod Lifecycle"; which bytes they have is this
-- project's extended format).
use Rattle.std.specs.Prelude.{ℕ, ◌==◌, ◌&&◌, ◌||◌, Bool, List, length, slice_index, nat_lt, nat_le}
use Rattle.std.specs.Prelude.{Option, Some, None, if◌then◌else◌}
use Rattle.std.specs.List.{list_all}
use Rattle.std.specs.Char.{is_ascii_alphabetic, is_ascii_alphanumeric}

-- a letter, a digit, `-`, `_`, `.` or `/`
abbrev pub is_reason_byte : ℕ → Bool
is_reason_byte b = is_ascii_alphanumeric b || (b == 45 || (b == 95 || (b == 46 || b == 47)))

-- 1 to 63 of these, a letter first
unfoldable pub is_reason : List ℕ → Bool
is_reason s =
    nat_lt 0 (length s) && nat_le (length s) 63 && list_all is_reason_byte s && is_ascii_alphabetic (slice_index s 0)

-- the reason that a text is, if it is one
abbrev pub reason_of : List ℕ → Option (List ℕ)
reason_of s = if is_reason s then Some s else None
