use Rattle.std.proofs.Common.{◌≡◌, [], ◌∷◌, inl, inr, subst, sym}
use Rattle.std.proofs.lemmas.Bool.{iff_false}
use Rattle.manifest.specs.declared.pod.ContainerSpec.{ContainerSpec}
use Rattle.qos.specs.rule.Container.{HasSomeRequestOrLimit}
use Rattle.qos.specs.rule.Class.{IsOfClass}
use Rattle.qos.proofs.pod.pod_class.Goals as goal

pub returns-then-has_some_request_or_limit : goal.returns-then-has_some_request_or_limit
returns-then-has_some_request_or_limit c =
    let same = c.as_one-one.ensures in
    inl (
      subst HasSomeRequestOrLimit same (c.has_some_request_or_limit.ensures.0 c.if-has_some_request_or_limit.true),
      subst (λ (one : ContainerSpec). IsOfClass (one ∷ []) c.class_of.result) same c.class_of.ensures,
    )

pub returns-else-has_some_request_or_limit : goal.returns-else-has_some_request_or_limit
returns-else-has_some_request_or_limit c =
    let same = c.as_one-one.ensures in
    inr (
      (λ own. iff_false c.has_some_request_or_limit.ensures c.if-has_some_request_or_limit.false
          (subst HasSomeRequestOrLimit (sym same) own)),
      c.qos_class.ensures,
    )
