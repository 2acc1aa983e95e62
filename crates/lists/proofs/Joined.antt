-- The items of chunks: how many there are, and where each is.
use Rattle.std.proofs.Common.{◌≡◌, ◌∙◌, ◌≤◌, ◌<◌, ℕ, zero, suc, ◌+◌, ◌*◌, ◌/◌, ◌%◌, List, [], ◌∷◌, ◌++◌, length, get_or}
use Rattle.std.proofs.Common.{append-nil, refl, ap, sym, subst, arith}
use Rattle.std.specs.Prelude.{Vec}
use Rattle.std.specs.Global.{Global}
use Rattle.std.proofs.lemmas.List.{length-append, get_or_append_left, get_or-append-add, append_assoc}
use Rattle.lists.specs.state.Chunks.{joined, AreFull, AreChunks}

-- no items
pub none_chunks : {X : Type 0} (full : List (Vec X Global)) (last : List X) → full ≡ [] → last ≡ []
    → AreChunks full last 0
none_chunks full last e f = record {
  full = subst AreFull (sym e) (λ k d low. absurd (omega (arith, low)));
  fits = omega (arith, ap length f);
  counted = sym (ap length (ap (λ chunks. joined chunks last) e ∙ f));
}

-- an item more
pub joined_more : {X : Type 0} (full : List (Vec X Global)) (last : List X) (x : X)
    → joined full (last ++ x ∷ []) ≡ joined full last ++ x ∷ []
joined_more [] last x = refl
joined_more (chunk ∷ full) last x = ap (λ xs. chunk.items ++ xs) (joined_more full last x)
    ∙ sym (append_assoc chunk.items (joined full last) (x ∷ []))

-- the last chunk among the full ones
pub joined_next : {X : Type 0} (full : List (Vec X Global)) (chunk : Vec X Global)
    → joined (full ++ chunk ∷ []) [] ≡ joined full chunk.items
joined_next [] chunk = append-nil chunk.items
joined_next (c ∷ full) chunk = ap (λ xs. c.items ++ xs) (joined_next full chunk)

first_full : {X : Type 0} (chunk : Vec X Global) (full : List (Vec X Global)) → AreFull (chunk ∷ full)
    → length chunk.items ≡ 64
first_full chunk full all = all 0 chunk (omega (arith))

later_full : {X : Type 0} (chunk : Vec X Global) (full : List (Vec X Global)) → AreFull (chunk ∷ full) → AreFull full
later_full chunk full all k d low = all (suc k) d (omega (arith, low))

pub joined_length : {X : Type 0} (full : List (Vec X Global)) (last : List X) → AreFull full
    → length (joined full last) ≡ 64 * length full + length last
joined_length [] last all = omega (arith)
joined_length (chunk ∷ full) last all =
    omega (
      arith,
      length-append chunk.items (joined full last),
      first_full chunk full all,
      joined_length full last
          (later_full chunk full all),
    )

-- an item of a full chunk
in_full : {X : Type 0} (full : List (Vec X Global)) (last : List X) (chunk within : ℕ) (d : Vec X Global) (x : X)
    → AreFull full → within < 64
    → chunk < length full → get_or (joined full last) (64 * chunk + within) x ≡ get_or (get_or full chunk d).items
    within x
in_full [] last chunk within d x all low less = absurd (omega (arith, less))
in_full (f ∷ full) last zero within d x all low less =
    ap (λ n. get_or (f.items ++ joined full last) n x) {x = 64 * 0 + within} {y = within} (omega (arith))
    ∙ get_or_append_left f.items (joined full last) x within (omega (arith, low, first_full f full all))
in_full (f ∷ full) last (suc chunk) within d x all low less =
    ap (λ n. get_or (f.items ++ joined full last) n x) {x = 64 * suc chunk + within}
    {y = length f.items + (64 * chunk + within)} (omega (arith, first_full f full all))
    ∙ get_or-append-add f.items (joined full last) (64 * chunk + within) x
    ∙ in_full full last chunk within d x (later_full f full all) low (omega (arith, less))

-- an item of the last one
in_last : {X : Type 0} (full : List (Vec X Global)) (last : List X) (within : ℕ) (x : X) → AreFull full
    → get_or (joined full last) (64 * length full + within) x ≡ get_or last within x
in_last [] last within x all = ap (λ n. get_or last n x) {x = 64 * 0 + within} {y = within} (omega (arith))
in_last (f ∷ full) last within x all =
    ap (λ n. get_or (f.items ++ joined full last) n x) {x = 64 * suc (length full) + within}
    {y = length f.items + (64 * length full + within)} (omega (arith, first_full f full all))
    ∙ get_or-append-add f.items (joined full last) (64 * length full + within) x
    ∙ in_last full last within x (later_full f full all)

-- the item at a place is that of the place's chunk
pub item_in_full : {X : Type 0} (full : List (Vec X Global)) (last : List X) (place : ℕ) (d : Vec X Global) (x : X)
    → AreFull full
    → place / 64 < length full → get_or (joined full last) place x ≡ get_or (get_or full (place / 64) d).items
    (place % 64) x
item_in_full full last place d x all less =
    ap (λ n. get_or (joined full last) n x) {x = place} {y = 64 * (place / 64) + place % 64} (omega (arith))
    ∙ in_full full last (place / 64) (place % 64) d x all (omega (arith)) less

pub item_in_last : {X : Type 0} (full : List (Vec X Global)) (last : List X) (place : ℕ) (x : X) → AreFull full
    → place / 64 ≡ length full → get_or (joined full last) place x ≡ get_or last (place % 64) x
item_in_last full last place x all same =
    ap (λ n. get_or (joined full last) n x) {x = place} {y = 64 * length full + place % 64} (omega (arith, same))
    ∙ in_last full last (place % 64) x all

-- a place behind the full chunks is one of the last chunk
pub behind_full : {X : Type 0} (full : List (Vec X Global)) (last : List X) (place : ℕ) → AreFull full
    → place < length (joined full last) → length last ≤ 64 → length full ≤ place / 64
    → (place / 64 ≡ length full) × (place % 64 < length last)
behind_full full last place all within fits behind =
    let size = joined_length full last all in
    (omega (arith, size, within, fits, behind), omega (arith, size, within, fits, behind))

-- with room for it in the last chunk
pub more_chunks : {X : Type 0} (full : List (Vec X Global)) (last : List X) (x : X) (count : ℕ) → AreFull full
    → length last < 64
    → count ≡ length (joined full last) → AreChunks full (last ++ x ∷ []) (count + 1)
more_chunks full last x count all low same = record {
  full = all;
  fits = omega (arith, length-append last (x ∷ []), low);
  counted = ap (λ n. n + 1) same ∙ sym (length-append (joined full last) (x ∷ []))
      ∙ ap length (sym (joined_more full last x));
}
