-- A history is a list of records, oldest first. A place is a number below its length.
use Rattle.std.specs.Prelude.{◌≡◌, ℕ, suc, zero, ◌-◌, ◌<◌, ◌≤◌, List, [], ◌∷◌, length, take, Option, Some, None}

-- one record: its moment, and the entry
pub record Recorded (A : Type 0) : Type 0 where
  pub moment : ℕ
  pub entry : A

abbrev pub recorded : {A : Type 0} → ℕ → A → Recorded A
recorded moment entry = record { moment = moment; entry = entry }

-- a history with the same moments, and with what f makes of each entry
abbrev pub project : {A B : Type 0} → (A → B) → List (Recorded A) → List (Recorded B)
project f [] = []
project f (x ∷ h) = recorded x.moment (f x.entry) ∷ project f h

-- the entry at a place
abbrev pub entry_at : {A : Type 0} → List (Recorded A) → ℕ → Option A
entry_at [] t = None
entry_at (x ∷ h) zero = Some x.entry
entry_at (x ∷ h) (suc t) = entry_at h t

-- the moment of a place
abbrev pub moment_at : {A : Type 0} → List (Recorded A) → ℕ → Option ℕ
moment_at [] t = None
moment_at (x ∷ h) zero = Some x.moment
moment_at (x ∷ h) (suc t) = moment_at h t

-- the moment of the last record, if there is one
abbrev pub last_moment : {A : Type 0} → List (Recorded A) → Option ℕ
last_moment h = moment_at h (length h - 1)

-- the history up to a place, and with it
abbrev pub up_to : {A : Type 0} → List (Recorded A) → ℕ → List (Recorded A)
up_to h t = take (suc t) h

-- P holds of the history up to the place
pub record HoldsAt {A : Type 0} (P : List (Recorded A) → Type 0) (h : List (Recorded A)) (t : ℕ) : Type 0 where
  pub within : t < length h
  pub so : P (up_to h t)

-- P holds at place t, and at no place before it
pub record IsFirst (P : ℕ → Type 0) (t : ℕ) : Type 0 where
  pub holds : P t
  pub none_before : (u : ℕ) → u < t → P u → ⊥

-- P comes true at the place: it holds of the history up to it, and of none up to an earlier place
abbrev pub ComesTrue : {A : Type 0} → (List (Recorded A) → Type 0) → List (Recorded A) → ℕ → Type 0
ComesTrue P h t = IsFirst (HoldsAt P h) t

-- the first place at which P holds, if there is one
abbrev pub IsFirstPlace : (ℕ → Type 0) → Option ℕ → Type 0
IsFirstPlace P None = (t : ℕ) → P t → ⊥
IsFirstPlace P (Some t) = IsFirst P t

-- the moment of the first place at which P holds, if there is one
abbrev pub IsFirstMoment : {A : Type 0} → List (Recorded A) → (ℕ → Type 0) → Option ℕ → Type 0
IsFirstMoment h P None = (t : ℕ) → P t → ⊥
IsFirstMoment h P (Some m) = (t : ℕ) × IsFirst P t × (moment_at h t ≡ Some m)

-- of n places, all from place u on agree on whether C holds
pub record IsSteady (n : ℕ) (C : ℕ → Type 0) (u : ℕ) : Type 0 where
  pub within : u < n
  pub same : (v w : ℕ) → u ≤ v → v < n → u ≤ w → w < n → C v → C w

-- the moment of C's last transition: that of the least place from which on it is the same
abbrev pub IsTransition : {A : Type 0} → List (Recorded A) → (ℕ → Type 0) → Option ℕ → Type 0
IsTransition h C m = IsFirstMoment h (IsSteady (length h) C) m

-- P holds at place t, and at no place after it
pub record IsLast (P : ℕ → Type 0) (t : ℕ) : Type 0 where
  pub holds : P t
  pub none_after : (u : ℕ) → t < u → P u → ⊥
