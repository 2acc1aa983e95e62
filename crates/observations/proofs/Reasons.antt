-- A reason is short enough to be kept.
use Rattle.std.proofs.Common.{◌≡◌, ℕ, ◌≤◌, Bool, true, false, List, length, refl, arith}
use Rattle.std.specs.Prelude.{◌&&◌, nat_lt, nat_le, slice_index}
use Rattle.std.specs.List.{list_all}
use Rattle.std.specs.Char.{is_ascii_alphabetic}
use Rattle.std.proofs.lemmas.Bool.{leb-true}
use Rattle.observations.specs.rule.Reasons.{is_reason, is_reason_byte}

by_second : (s : List ℕ) (a b c d : Bool) → nat_le (length s) 63 ≡ b → (((a && b) && c) && d) ≡ true → length s ≤ 63
by_second s true true c d is e = leb-true (length s) 63 is
by_second s true false c d is e = absurd (cc)
by_second s false b c d is e = absurd (cc)

pub short : (s : List ℕ) → is_reason s ≡ true → length s ≤ 63
unfolding is_reason
short s e = by_second s (nat_lt 0 (length s)) (nat_le (length s) 63) (list_all is_reason_byte s)
    (is_ascii_alphabetic (slice_index s 0)) refl e
