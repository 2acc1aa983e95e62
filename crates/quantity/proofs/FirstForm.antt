-- The first form that writes a quantity.
use Rattle.std.proofs.Common.{◌≡◌, ◌<◌, ◌+◌, ◌-◌, ◌⊎◌, ⊎_elim, inl, inr, ℕ, zero, suc, sym, refl, arith, true, false}
use Rattle.std.proofs.Common.{Some, None}
use Rattle.std.specs.Prelude.{Option}
use Rattle.std.specs.Option.{is_some}
use Rattle.quantity.specs.state.Printed.{first_form, form_at}
use Rattle.quantity.specs.declared.form.Form.{Form}

pub first_of_none : (q : ℕ) → first_form q 0 ≡ None
unfolding first_form
first_of_none q = refl

pub first_more_none : (q n : ℕ) → first_form q n ≡ None → form_at q n ≡ None → first_form q (suc n) ≡ None
unfolding first_form
first_more_none q n before here = rw (before, here) refl

first_more_some : (q n : ℕ) (form : Form) → first_form q n ≡ None → form_at q n ≡ Some form
    → first_form q (suc n) ≡ Some form
unfolding first_form
first_more_some q n form before here = rw (before, here) refl

first_stays : (q n : ℕ) (form : Form) → first_form q n ≡ Some form → first_form q (suc n) ≡ Some form
unfolding first_form
first_stays q n form before = rw before refl

first_stays_for : (q n more : ℕ) (form : Form) → first_form q n ≡ Some form → first_form q (more + n) ≡ Some form
first_stays_for q n zero form before = let e : 0 + n ≡ n = omega arith in rw e before
first_stays_for q n (suc more) form before =
    let e : suc more + n ≡ suc (more + n) = omega arith in
    rw e (first_stays q (more + n) form (first_stays_for q n more form before))

pub first_is : (q n total : ℕ) (form : Form) → first_form q n ≡ None → form_at q n ≡ Some form → n < total
    → first_form q total ≡ Some form
first_is q n total form before here below =
    let s = first_stays_for q (suc n) (total - suc n) form (first_more_some q n form before here) in
    let e : (total - suc n) + suc n ≡ total = omega (arith, below) in
    rw e at s

-- where a form writes the quantity, a first one does
first_next : (q n : ℕ) (before here : Option Form) → first_form q n ≡ before → form_at q n ≡ here
    → (first_form q (suc n) ≡ None) ⊎ ((form : Form) × (first_form q (suc n) ≡ Some form))
first_next q n None None b h = inl (first_more_none q n b h)
first_next q n None (Some form) b h = inr (form, first_more_some q n form b h)
first_next q n (Some form) here b h = inr (form, first_stays q n form b)

pub first_exists : (q n total : ℕ) (here : Form) → form_at q n ≡ Some here → n < total → (form : Form)
    × (first_form q total ≡ Some form)
first_exists q n total here is below = by (first_form q n) refl
  where
    by : (before : Option Form) → first_form q n ≡ before → (form : Form) × (first_form q total ≡ Some form)
    by None b = (here, first_is q n total here b is below)
    by (Some form) b =
        let s = first_stays_for q n (total - n) form b in
        let e : (total - n) + n ≡ total = omega (arith, below) in
        (form, rw e at s)

-- the first form is one of them
last_or_before : (q n : ℕ) (form : Form) (before here : Option Form) → first_form q n ≡ before → form_at q n ≡ here
    → first_form q (suc n) ≡ Some form → (form_at q n ≡ Some form) ⊎ (first_form q n ≡ Some form)
last_or_before q n form None None b f h = let none = first_more_none q n b f in absurd (cc)
last_or_before q n form None (Some here) b f h = let some = first_more_some q n here b f in inl (cc)
last_or_before q n form (Some before) here b f h = let some = first_stays q n before b in inr (cc)

pub first_is_at : (q total : ℕ) (form : Form) → first_form q total ≡ Some form → (n : ℕ) × (n < total)
    × (form_at q n ≡ Some form)
first_is_at q zero form h = let none = first_of_none q in absurd (cc)
first_is_at q (suc n) form h =
    ⊎_elim (λ (here : form_at q n ≡ Some form). (n, omega arith, here))
    (λ (before : first_form q n ≡ Some form). let rest = first_is_at q n form before in
    (rest.0, omega (arith, rest.1), rest.2))
    (last_or_before q n form (first_form q n) (form_at q n) refl refl h)

-- what the loop sees
pub first_is_some : (q n total : ℕ) (form : Option Form) → first_form q n ≡ None → form ≡ form_at q n
    → is_some form ≡ true → n < total → form ≡ first_form q total
first_is_some q n total None before is some below = absurd (cc)
first_is_some q n total (Some form) before is some below = sym (first_is q n total form before (sym is) below)

pub first_more_is_none : (q n : ℕ) (form : Option Form) → first_form q n ≡ None → form ≡ form_at q n
    → is_some form ≡ false → first_form q (n + 1) ≡ None
first_more_is_none q n None before is none =
    let e : n + 1 ≡ suc n = omega arith in
    rw e (first_more_none q n before (sym is))
first_more_is_none q n (Some form) before is none = absurd (cc)
