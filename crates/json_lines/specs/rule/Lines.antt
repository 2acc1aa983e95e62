-- The lines of a text, and the content of each by itself.
use Rattle.std.specs.Prelude.{ℕ, ◌==◌, ◌||◌, Bool, List, [], ◌∷◌, Option, None}
use Rattle.std.specs.Prelude.{if◌then◌else◌}
use Rattle.std.specs.List.{list_all}
use Rattle.std.specs.Str.{is_utf8}
use Rattle.serde_json.specs.Data.{Data}
use Rattle.serde_json.specs.Read.{read}

-- a byte put before the first of the lines
abbrev pub in_front : ℕ → List (List ℕ) → List (List ℕ)
in_front b [] = (b ∷ []) ∷ []
in_front b (l ∷ ls) = (b ∷ l) ∷ ls

-- cut at each newline; a last part without one is a line if it isn't empty
abbrev pub lines_of : List ℕ → List (List ℕ)
lines_of [] = []
lines_of (b ∷ bs) = if b == 10 then [] ∷ lines_of bs else in_front b (lines_of bs)

-- a space, a tab or a carriage return
abbrev pub is_blank_byte : ℕ → Bool
is_blank_byte b = b == 32 || b == 9 || b == 13

-- the most bytes of a line, 1 MiB
abbrev pub longest_line : ℕ
longest_line = 1048576

-- spaces, tabs and carriage returns alone
abbrev pub is_blank : List ℕ → Bool
is_blank l = list_all is_blank_byte l

-- a line's JSON value
unfoldable pub json_in : List ℕ → Option Data
json_in line = if is_utf8 line then read line else None
