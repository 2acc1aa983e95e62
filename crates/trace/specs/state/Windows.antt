-- How much of a text is read ahead at once.
use Rattle.std.specs.Prelude.{ℕ, ◌<◌, ◌≤◌, ◌+◌, ◌*◌, Bool, if◌then◌else◌, length, min, max}
use Rattle.roster.specs.rule.Roll.{Roll}

-- in bytes, 64 KiB
abbrev pub smallest_window : ℕ
smallest_window = 65536

-- in bytes, 4 MiB
abbrev pub greatest_window : ℕ
greatest_window = 4194304

-- the lines of a window show no more pods together
abbrev pub most_shown : ℕ
most_shown = 262144

-- nor do the lines of a window have more pods than these, unless as many ticks come before it as it has lines
abbrev pub first_shown : ℕ
first_shown = 1024

-- a line takes as much memory as this many pods, in addition to the pods that it shows
abbrev pub weight_of_line : ℕ
weight_of_line = 8

-- this many lines, each of which shows all pods, are one alone or show no more than a window may
abbrev pub AreFew : Roll → ℕ → Type 0
AreFew roll lines = 1 < lines → lines * (length roll.pods + weight_of_line) ≤ most_shown

-- these lines are no more than the ticks before them, are one alone, or show few pods
abbrev pub AreEarly : Roll → ℕ → ℕ → Type 0
AreEarly roll ticks lines = ticks < lines → 1 < lines → lines * (length roll.pods + weight_of_line) ≤ first_shown

-- how many bytes the window has after one that had this many: twice as many, but as many as the first window if a line
-- was read in vain, with pods that changed meanwhile
abbrev pub window_behind : ℕ → Bool → ℕ
window_behind had some_in_vain =
    if some_in_vain then smallest_window else max smallest_window (min (had * 2) greatest_window)
