-- Numbers of the API's type int32.
use Rattle.std.specs.Prelude.{ℕ, ℤ, pos, negsuc, int_le, ◌^◌, ◌-◌, ◌&&◌, Bool}

abbrev pub max_int32 : ℕ
max_int32 = 2 ^ 31 - 1

-- from -2^31 to 2^31 - 1
abbrev pub is_int32 : ℤ → Bool
is_int32 z = int_le (negsuc max_int32) z && int_le z (pos max_int32)
