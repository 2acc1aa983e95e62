-- Whether the newest instance is to be started again, and from when on.
use Rattle.std.proofs.Common.{◌≡◌, ℕ, ℤ, ◌<◌, ◌≤◌, Bool, List, [], ◌∷◌, Option, Some, None, refl, subst, sym, ap, ◌∙◌}
use Rattle.std.proofs.Common.{arith}
use Rattle.std.specs.Prelude.{◌↔◌, IsSome, IsSomeAnd, IfSome, IsTrue}
use Rattle.histories.specs.rule.Histories.{IsFirstMoment, last_moment}
use Rattle.histories.proofs.First.{IsFirstMoment-unique}
use Rattle.histories.proofs.Lists.{some_given}
use Rattle.manifest.specs.declared.own_restarts.OwnRestarts.{OwnRestarts}
use Rattle.restarts.specs.rule.Own.{WantsRestartBy}
use Rattle.manifest.specs.declared.policy.Policy.{Policy}
use Rattle.manifest.specs.declared.pod.Role.{Role}
use Rattle.manifest.specs.declared.pod.ContainerSpec.{ContainerSpec}
use Rattle.state_diff.specs.declared.seen.Seen.{Seen}
use Rattle.state_diff.specs.declared.seen.CriState.TheVariants.{Running}
use Rattle.state_diff.specs.rule.Instances.{Tick, Ends, ListedAs, IsNewest, IsExitCode}
use Rattle.state_diff.specs.state.Differ.{IsNewestSeen, IsOfNewest}
use Rattle.state_diff.proofs.Unique.{IsNewest-unique}
use Rattle.restarts.specs.rule.Exits.{Exit}
use Rattle.restarts.specs.rule.Delays.{IsRestartDue}
use Rattle.restarts.proofs.LawLemmas.{one_delay}
use Rattle.containers.specs.rule.Ticks.{ContainerTick, listings}
use Rattle.containers.specs.rule.Exits.{IsExitOf, AreExitsOf, AreExits, IsToRestart}
use Rattle.containers.proofs.ListLemmas.{rising_one}
use Rattle.containers.proofs.ViewLemmas.{coded}

wanted_code : (P : ℤ → Type 0) (o : Option ℤ) → IsSomeAnd o P → (code : ℤ) × (o ≡ Some code) × P code
wanted_code P None q = absurd q
wanted_code P (Some code) q = (code, refl, q)

-- by the newest instance and its code
pub restarts_by : (policy : Policy) (spec : ContainerSpec) (h : List ContainerTick) (own : Option OwnRestarts)
    (role : Role) (o : Option Seen)
    → own ≡ spec.own_restarts → role ≡ spec.role → IsNewestSeen (listings h) o → (a : ℕ)
    → (IsSomeAnd o (λ s. (s.attempt ≡ a) × IsSomeAnd s.code (λ code. WantsRestartBy policy own role code))
    ↔ IsToRestart policy spec h a)
restarts_by policy spec h own role None has same none a = (
  (λ q. absurd q),
  (λ t. absurd (none a t.newest.listed.0 t.newest.listed.1)),
)
restarts_by policy spec h own role (Some s) has same is a = (
  (λ q.
      let w = wanted_code (λ code. WantsRestartBy policy own role code) s.code q.1 in
      let P : ℕ → Type 0 = λ b. IsNewest (listings h) b in
      let Q : ℕ → Type 0 = λ b. IsExitCode (listings h) b w.0 in
      let R : Role → Type 0 = λ r. WantsRestartBy policy own r w.0 in
      let O : Option OwnRestarts → Type 0 = λ x. WantsRestartBy policy x spec.role w.0 in
      record {
        newest = subst P q.0 is.newest;
        code = w.0;
        exited = subst Q q.0 (is.code w.0 w.1);
        wanted = subst O has (subst R same w.2);
      }),
  (λ t.
      let e : s.code ≡ Some t.code = coded (listings h) (Some s) is t.code (a, t.newest, t.exited) in
      let P : Option ℤ → Type 0 = λ o. IsSomeAnd o (λ code. WantsRestartBy policy own role code) in
      let R : Role → Type 0 = λ r. WantsRestartBy policy own r t.code in
      let O : Option OwnRestarts → Type 0 = λ x. WantsRestartBy policy x spec.role t.code in (
        IsNewest-unique (listings h) s.attempt a is.newest t.newest,
        subst P (sym e)
            (subst R (sym same) (subst O (sym has) t.wanted)),
      )),
)

-- the exits of a container are one list
exit_same : (k : List Tick) (a : ℕ) (e f : Exit) → IsExitOf k a e → IsExitOf k a f → e ≡ f
exit_same k a e f is is' =
    let m : Some e.moment ≡ Some f.moment = IsFirstMoment-unique k (Ends k a) (Some e.moment) (Some f.moment)
    is.moment is'.moment in
    let m' : e.moment ≡ f.moment = cc in
    let x : Some is.run.exit ≡ Some is'.run.exit = IsFirstMoment-unique k (Ends k a) (Some is.run.exit)
    (Some is'.run.exit) is.run.exits is'.run.exits in
    let x' : is.run.exit ≡ is'.run.exit = cc in
    let s : is.run.start ≡ is'.run.start = IsFirstMoment-unique k (ListedAs k a Running) is.run.start is'.run.start
    is.run.starts is'.run.starts in
    let same : e.entry ≡ f.entry = is.run.lasts ∙ rw (s, x') (sym is'.run.lasts) in
    let P : ℕ → Type 0 = λ m. e ≡ record { moment = m; entry = e.entry } in
    let Q : ℕ → Type 0 = λ r. e ≡ record { moment = f.moment; entry = r } in
    subst Q same (subst P m' refl)

exits_same : (k : List Tick) (attempts : List ℕ) (exits others : List Exit) → AreExitsOf k attempts exits
    → AreExitsOf k attempts others → exits ≡ others
exits_same k [] [] [] are are' = refl
exits_same k [] [] (f ∷ others) are are' = absurd are'
exits_same k [] (e ∷ exits) others are are' = absurd are
exits_same k (a ∷ attempts) [] others are are' = absurd are
exits_same k (a ∷ attempts) (e ∷ exits) [] are are' = absurd are'
exits_same k (a ∷ attempts) (e ∷ exits) (f ∷ others) are are' =
    ap (λ x. x ∷ exits) (exit_same k a e f are.0 are'.0) ∙ ap (λ xs. f ∷ xs)
    (exits_same k attempts exits others are.1 are'.1)

pub exits_one : (k : List Tick) (exits others : List Exit) → AreExits k exits → AreExits k others → exits ≡ others
exits_one k exits others are are' =
    let same : are.attempts ≡ are'.attempts = rising_one are.attempts are'.attempts are.in_order are'.in_order
    (λ b. ((λ c. (are'.all b).1 ((are.all b).0 c)), (λ c. (are.all b).1 ((are'.all b).0 c)))) in
    let P : List ℕ → Type 0 = λ ys. AreExitsOf k ys exits in
    exits_same k are'.attempts exits others (subst P same are.each) are'.each

-- and so is the moment from which on the restart is due
pub due_one : (max_restart_delay : ℕ) (exits : List Exit) (d e : ℕ) → IsRestartDue max_restart_delay exits (Some d)
    → IsRestartDue max_restart_delay exits (Some e) → d ≡ e
due_one max_restart_delay exits d e (last, delay, l, is, s) (last', delay', l', is', s') =
    let both : Some last ≡ Some last' = sym l ∙ l' in
    let one : last ≡ last' = cc in
    let two : delay ≡ delay' = (one_delay max_restart_delay exits).1 delay delay' is is' in
    omega (arith, one, two, s, s')

pub due_by : (max_restart_delay : ℕ) (exits : List Exit) (o last_at : Option ℕ) (at : ℕ) (b : Bool)
    → IsRestartDue max_restart_delay exits o
    → (IsTrue b ↔ IsSomeAnd o (λ d. (d ≤ at) × IfSome last_at (λ last. last < d)))
    → (IsTrue b
    ↔ ((due : ℕ) × IsRestartDue max_restart_delay exits (Some due) × (due ≤ at) × IfSome last_at (λ last. last < due)))
due_by max_restart_delay exits None last_at at b none iff = (
  (λ e. absurd (iff.0 e)),
  (λ w.
      let d : IsRestartDue max_restart_delay exits (Some w.0) = w.1 in
      let P : List Exit → Type 0 = λ es. last_moment es ≡ Some d.0 in
      let e : P [] = subst P none d.2 in
      absurd (let f : None ≡ Some d.0 = e in cc)),
)
due_by max_restart_delay exits (Some d) last_at at b is iff = (
  (λ e. let w = iff.0 e in (d, is, w.0, w.1)),
  (λ w.
      let same : w.0 ≡ d = due_one max_restart_delay exits w.0 d w.1 is in
      let P : ℕ → Type 0 = λ k. (k ≤ at) × IfSome last_at (λ last. last < k) in
      iff.1 (subst P same (w.2, w.3))),
)

-- the restart of one that has exited at the moment is backed off
pub backs_off_by : (policy : Policy) (spec : ContainerSpec) (h : List ContainerTick) (attempt exited_at : Option ℕ)
    (at : ℕ) (b : Bool)
    → ((a : ℕ) → ((attempt ≡ Some a) ↔ IsToRestart policy spec h a))
    → IsOfNewest (listings h) (λ a. IsFirstMoment (listings h) (Ends (listings h) a)) exited_at
    → (IsTrue b ↔ (IsSome attempt × (exited_at ≡ Some at)))
    → (IsTrue b ↔ ((a : ℕ) × IsToRestart policy spec h a × IsFirstMoment (listings h) (Ends (listings h) a) (Some at)))
backs_off_by policy spec h attempt exited_at at b to of iff = (
  (λ e.
      let w = iff.0 e in
      let a = some_given attempt w.0 in
      let t = (to a.0).0 a.1 in
      let P : Option ℕ → Type 0 = λ o. IsFirstMoment (listings h) (Ends (listings h) a.0) o in
      (a.0, t, subst P w.1 (of.some a.0 t.newest))),
  (λ w.
      let e : attempt ≡ Some w.0 = (to w.0).1 w.1 in
      let P : Option ℕ → Type 0 = λ o. IsSome o in
      iff.1 (
        subst P (sym e) refl,
        IsFirstMoment-unique (listings h) _ exited_at (Some at) (of.some w.0 w.1.newest)
            w.2,
      )),
)
