-- The newest samples, after one more tick; they are one.
use Rattle.std.proofs.Common.{◌≡◌, ◌∙◌, ℕ, ◌<◌, Bool, true, false, List, [], ◌∷◌, ◌++◌, length, Option, Some, None}
use Rattle.std.proofs.Common.{refl, ap, sym, subst, arith}
use Rattle.std.specs.Prelude.{◌↔◌, IsTrue, IsSome, not, option_map, unwrap_or, if◌then◌else◌, IsSomeAnd}
use Rattle.std.specs.Option.{option_flatten, option_or}
use Rattle.histories.proofs.Places.{kept, added, up_to-old, up_to-new}
use Rattle.histories.proofs.Last.{IsLast-old, IsLast-new, IsLast-unique}
use Rattle.histories.proofs.First.{none_more}
use Rattle.histories.proofs.Growth.{grows_entry}
use Rattle.histories.specs.rule.Histories.{entry_at}
use Rattle.manifest.specs.declared.pod.PodSpec.{PodSpec}
use Rattle.observations.specs.declared.usage.Sampling.{Sampling}
use Rattle.observations.specs.declared.usage.Sampling.TheVariants.{Unsaid, Unsampled, Sampled}
use Rattle.observations.specs.declared.usage.Usage.{Usage}
use Rattle.pod_state.specs.rule.Pods.{PodTick, IsEnd, HasEnded, counted, PodEntry}
use Rattle.pod_state.proofs.EndLemmas.{IsEnd-unique, end_old, counted_all}
use Rattle.pod_piece.specs.declared.status.NewestUsage.{NewestUsage}
use Rattle.pod_piece.specs.rule.Usage.{sample_said, unsampled_said, Says, IsLastSaid, IsNewestSample, IsUnsampled}
use Rattle.pod_piece.specs.rule.Usage.{AreNewestSamples, IsUsageOf}
use Rattle.pod_piece.specs.state.Usage.{nothing, newer}

-- what the last tick says of it that says something, with one more
pub said_more : {A : Type 0} (said : PodEntry → Option A) (h : List PodTick) (x : PodTick) (v s : Option A)
    → said x.entry ≡ s → IsLastSaid said h v → IsLastSaid said (h ++ x ∷ []) (option_or s v)
said_more {A = A} said h x None None e none =
    none_more (length h) _ _ _ (grows_entry (Says said) h x) none
    (λ has. let w : false ≡ true = subst (λ (o : Option A). IsSome o) e has in absurd (cc))
said_more {A = A} said h x (Some last) None e is = (
  is.0,
  IsLast-old (length h) _ _ _ (grows_entry (Says said) h x)
      (λ has. let w : false ≡ true = subst (λ (o : Option A). IsSome o) e has in absurd (cc)) is.0 is.1,
  kept (λ entry. said entry ≡ Some last) h x is.0 is.2,
)
said_more {A = A} said h x v (Some new) e is = (
  length h,
  IsLast-new (length h) _ _ _ (grows_entry (Says said) h x) (subst (λ (o : Option A). IsSome o) (sym e) refl),
  added (λ entry. said entry ≡ Some new) h x e,
)

abbrev sampled_in : (Usage → Option ℕ) → PodEntry → Option (Option ℕ)
sampled_in resource entry = sample_said resource entry.sampling

abbrev unsampled_in : PodEntry → Option Bool
unsampled_in entry = unsampled_said entry.sampling

-- the newest sample of a resource
sample_kept : (resource : Usage → Option ℕ) (h : List PodTick) (x : PodTick) (old : Option ℕ)
    → x.entry.sampling ≡ Unsaid → IsNewestSample resource h old → IsNewestSample resource (h ++ x ∷ []) old
sample_kept resource h x old e is = record {
  last = is.last;
  is_last = said_more (sampled_in resource) h x is.last None (ap (sample_said resource) e) is.is_last;
  amount_is = is.amount_is;
}

sample_gone : (resource : Usage → Option ℕ) (h : List PodTick) (x : PodTick) (old : Option ℕ)
    → x.entry.sampling ≡ Unsampled → IsNewestSample resource h old → IsNewestSample resource (h ++ x ∷ []) None
sample_gone resource h x old e is = record {
  last = Some None;
  is_last = said_more (sampled_in resource) h x is.last (Some None) (ap (sample_said resource) e) is.is_last;
  amount_is = refl;
}

sample_new : (resource : Usage → Option ℕ) (h : List PodTick) (x : PodTick) (old : Option ℕ) (new : Usage)
    → x.entry.sampling ≡ Sampled new → IsNewestSample resource h old
    → IsNewestSample resource (h ++ x ∷ []) (option_or (resource new) old)
sample_new resource h x old new e is = by (resource new) (ap (sample_said resource) e)
  where
    by : (o : Option ℕ) → sample_said resource x.entry.sampling ≡ option_map (λ amount. Some amount) o
        → IsNewestSample resource (h ++ x ∷ []) (option_or o old)
    by None said = record {
      last = is.last;
      is_last = said_more (sampled_in resource) h x is.last None said is.is_last;
      amount_is = is.amount_is;
    }
    by (Some amount) said = record {
      last = Some (Some amount);
      is_last = said_more (sampled_in resource) h x is.last (Some (Some amount)) said is.is_last;
      amount_is = refl;
    }

-- whether there is none
unsampled_more : (h : List PodTick) (x : PodTick) (old : Bool) (s : Option Bool)
    → unsampled_said x.entry.sampling ≡ s → IsUnsampled h old → IsUnsampled (h ++ x ∷ []) (unwrap_or s old)
unsampled_more h x old None e is = record {
  last = is.last;
  is_last = said_more unsampled_in h x is.last None e is.is_last;
  is = is.is;
}
unsampled_more h x old (Some new) e is = record {
  last = Some new;
  is_last = said_more unsampled_in h x is.last (Some new) e is.is_last;
  is = refl;
}

-- of each
samples_more : (h : List PodTick) (x : PodTick) (usage : NewestUsage) (s : Sampling) → x.entry.sampling ≡ s
    → AreNewestSamples h usage
    → AreNewestSamples (h ++ x ∷ []) (newer usage s)
samples_more h x usage Unsaid e are = record {
  memory = sample_kept (λ u. u.memory) h x usage.samples.memory e are.memory;
  volumes = sample_kept (λ u. u.volumes) h x usage.samples.volumes e are.volumes;
  logs = sample_kept (λ u. u.logs) h x usage.samples.logs e are.logs;
  writable = sample_kept (λ u. u.writable) h x usage.samples.writable e are.writable;
  inodes = sample_kept (λ u. u.inodes) h x usage.samples.inodes e are.inodes;
  pids = sample_kept (λ u. u.pids) h x usage.samples.pids e are.pids;
  unsampled = unsampled_more h x usage.is_unsampled None (ap unsampled_said e) are.unsampled;
}
samples_more h x usage Unsampled e are = record {
  memory = sample_gone (λ u. u.memory) h x usage.samples.memory e are.memory;
  volumes = sample_gone (λ u. u.volumes) h x usage.samples.volumes e are.volumes;
  logs = sample_gone (λ u. u.logs) h x usage.samples.logs e are.logs;
  writable = sample_gone (λ u. u.writable) h x usage.samples.writable e are.writable;
  inodes = sample_gone (λ u. u.inodes) h x usage.samples.inodes e are.inodes;
  pids = sample_gone (λ u. u.pids) h x usage.samples.pids e are.pids;
  unsampled = unsampled_more h x usage.is_unsampled (Some true) (ap unsampled_said e) are.unsampled;
}
samples_more h x usage (Sampled new) e are = record {
  memory = sample_new (λ u. u.memory) h x usage.samples.memory new e are.memory;
  volumes = sample_new (λ u. u.volumes) h x usage.samples.volumes new e are.volumes;
  logs = sample_new (λ u. u.logs) h x usage.samples.logs new e are.logs;
  writable = sample_new (λ u. u.writable) h x usage.samples.writable new e are.writable;
  inodes = sample_new (λ u. u.inodes) h x usage.samples.inodes new e are.inodes;
  pids = sample_new (λ u. u.pids) h x usage.samples.pids new e are.pids;
  unsampled = unsampled_more h x usage.is_unsampled (Some false) (ap unsampled_said e) are.unsampled;
}

no_sample : (resource : Usage → Option ℕ) → IsNewestSample resource [] None
no_sample resource = record { last = None; is_last = λ t has. has; amount_is = refl }

-- where no tick is
pub no_usage : (pod : PodSpec) (evicted : Option ℕ) → IsUsageOf pod evicted [] nothing
no_usage pod evicted = record {
  end = None;
  is_end = λ t s. let lt : t < 0 = s.within in absurd (omega arith);
  newest = record {
    memory = no_sample (λ u. u.memory);
    volumes = no_sample (λ u. u.volumes);
    logs = no_sample (λ u. u.logs);
    writable = no_sample (λ u. u.writable);
    inodes = no_sample (λ u. u.inodes);
    pids = no_sample (λ u. u.pids);
    unsampled = record { last = None; is_last = λ t has. has; is = refl };
  };
}

-- what a pod that has ended used stays
usage_ended : (pod : PodSpec) (evicted : Option ℕ) (h : List PodTick) (x : PodTick) (usage : NewestUsage)
    → IsUsageOf pod evicted h usage → HasEnded pod evicted h
    → IsUsageOf pod evicted (h ++ x ∷ []) usage
usage_ended pod evicted h x usage is (t, end) =
    let same : is.end ≡ Some t = IsEnd-unique pod evicted h is.end (Some t) is.is_end end in
    record {
      end = Some t;
      is_end = end_old pod evicted h x t end;
      newest = subst (λ (k : List PodTick). AreNewestSamples k usage)
          (ap (counted h) same ∙ sym (up_to-old h x t end.holds.within)) is.newest;
    }

-- and until then the tick counts
usage_lives : (pod : PodSpec) (evicted end : Option ℕ) (h : List PodTick) (x : PodTick) (usage : NewestUsage)
    → IsUsageOf pod evicted h usage → IsEnd pod evicted h None
    → IsEnd pod evicted (h ++ x ∷ []) end → IsUsageOf pod evicted (h ++ x ∷ []) (newer usage x.entry.sampling)
usage_lives pod evicted end h x usage is none now =
    let same : is.end ≡ None = IsEnd-unique pod evicted h is.end None is.is_end none in
    let before : AreNewestSamples h usage = subst (λ (k : List PodTick). AreNewestSamples k usage)
    (ap (counted h) same) is.newest in
    record {
      end = end;
      is_end = now;
      newest = subst (λ (k : List PodTick). AreNewestSamples k (newer usage x.entry.sampling))
          (sym (counted_all pod evicted h x none end now)) (samples_more h x usage x.entry.sampling refl before);
    }

-- after one more tick, where a flag says whether the pod had ended before it
pub usage_more : (pod : PodSpec) (evicted end : Option ℕ) (h : List PodTick) (x : PodTick) (usage : NewestUsage)
    (ended : Bool) → IsUsageOf pod evicted h usage
    → (IsTrue ended ↔ HasEnded pod evicted h) → IsEnd pod evicted (h ++ x ∷ []) end
    → IsUsageOf pod evicted (h ++ x ∷ []) (if not ended then newer usage x.entry.sampling else usage)
usage_more pod evicted end h x usage true is says now = usage_ended pod evicted h x usage is (says.0 refl)
usage_more pod evicted end h x usage false is says now = usage_lives pod evicted end h x usage is
    (still is.end is.is_end) now
  where
    still : (o : Option ℕ) → IsEnd pod evicted h o → IsEnd pod evicted h None
    still None e = e
    still (Some t) e = absurd (let w : IsTrue false = says.1 (t, e) in cc)

-- where the last tick evicts the pod
pub usage_evicted : (pod : PodSpec) (h : List PodTick) (x : PodTick) (usage : NewestUsage)
    → IsUsageOf pod None (h ++ x ∷ []) usage → IsEnd pod None h None
    → IsEnd pod (Some (length h)) (h ++ x ∷ []) (Some (length h)) → IsUsageOf pod (Some (length h)) (h ++ x ∷ []) usage
usage_evicted pod h x usage is none now = record {
  end = Some (length h);
  is_end = now;
  newest = subst (λ (k : List PodTick). AreNewestSamples k usage)
      (counted_all pod None h x none is.end is.is_end ∙ sym (up_to-new h x)) is.newest;
}

-- The newest samples are one

same_said : {A : Type 0} (said : PodEntry → Option A) (o : Option PodEntry) (a b : A)
    → IsSomeAnd o (λ entry. said entry ≡ Some a)
    → IsSomeAnd o (λ entry. said entry ≡ Some b) → Some a ≡ Some b
same_said said None a b e f = absurd e
same_said said (Some entry) a b e f = sym e ∙ f

pub one_said : {A : Type 0} (said : PodEntry → Option A) (h : List PodTick) (o p : Option A)
    → IsLastSaid said h o → IsLastSaid said h p → o ≡ p
one_said said h None None v w = refl
one_said said h None (Some b) none (t, last, is) = absurd (none t last.holds)
one_said said h (Some a) None (t, last, is) none = absurd (none t last.holds)
one_said said h (Some a) (Some b) (t, last, is) (u, last', is') =
    let At : ℕ → Type 0 = λ k. IsSomeAnd (entry_at h k) (λ entry. said entry ≡ Some a) in
    same_said said (entry_at h u) a b (subst At (IsLast-unique _ t u last last') is) is'

one_sample : (resource : Usage → Option ℕ) (h : List PodTick) (o p : Option ℕ)
    → IsNewestSample resource h o → IsNewestSample resource h p → o ≡ p
one_sample resource h o p v w =
    v.amount_is ∙ ap option_flatten (one_said (sampled_in resource) h v.last w.last v.is_last w.is_last)
    ∙ sym w.amount_is

one_flag : (h : List PodTick) (b c : Bool) → IsUnsampled h b → IsUnsampled h c → b ≡ c
one_flag h b c v w =
    v.is ∙ ap (λ (o : Option Bool). unwrap_or o false) (one_said unsampled_in h v.last w.last v.is_last w.is_last)
    ∙ sym w.is

one_of_each : (h : List PodTick) (one other : NewestUsage) → AreNewestSamples h one → AreNewestSamples h other
    → one ≡ other
one_of_each h one other v w =
    let m = one_sample (λ u. u.memory) h one.samples.memory other.samples.memory v.memory w.memory in
    let s = one_sample (λ u. u.volumes) h one.samples.volumes other.samples.volumes v.volumes w.volumes in
    let l = one_sample (λ u. u.logs) h one.samples.logs other.samples.logs v.logs w.logs in
    let o = one_sample (λ u. u.writable) h one.samples.writable other.samples.writable v.writable w.writable in
    let n = one_sample (λ u. u.inodes) h one.samples.inodes other.samples.inodes v.inodes w.inodes in
    let p = one_sample (λ u. u.pids) h one.samples.pids other.samples.pids v.pids w.pids in
    let f = one_flag h one.is_unsampled other.is_unsampled v.unsampled w.unsampled in
    λ i. record {
      samples = record { memory = m i; volumes = s i; logs = l i; writable = o i; inodes = n i; pids = p i };
      is_unsampled = f i;
    }

pub one_usage : (pod : PodSpec) (evicted : Option ℕ) (h : List PodTick) (one other : NewestUsage)
    → IsUsageOf pod evicted h one → IsUsageOf pod evicted h other → one ≡ other
one_usage pod evicted h one other v w =
    let same : v.end ≡ w.end = IsEnd-unique pod evicted h v.end w.end v.is_end w.is_end in
    let Newest : Option ℕ → Type 0 = λ end. AreNewestSamples (counted h end) one in
    one_of_each (counted h w.end) one other (subst Newest same v.newest) w.newest
