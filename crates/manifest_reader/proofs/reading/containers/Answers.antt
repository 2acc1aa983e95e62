use Rattle.std.proofs.Common.{◌∙◌, rules}
use Rattle.serde_json.specs.View.{view}
use Rattle.manifest_reader.specs.rule.Manifest.{container_of}
use Rattle.manifest_reader.proofs.EachItem.{one_more}
use Rattle.manifest_reader.proofs.Placed.{all_of_pushed}
use Rattle.manifest_reader.proofs.reading.containers.Goals as goal

pub loop-value-preserved : goal.loop-value-preserved
loop-value-preserved c =
    let read_on = one_more view (container_of c.args.own c.args.place) c.args.values.now c.loop-value.value-index
    c.value-item.result c.loop-value.all.items c.in_ok-container.container c.loop-value-test.true c.value-item.is
    c.in_ok-container.ensures.gives in
    record {
      read = rw c.in-Ok.ensures.items (read_on ∙ c.loop-value.invariant.read);
      as_many = search rules;
      of = rw c.in-Ok.ensures.items
          (all_of_pushed c.args.place c.loop-value.all.items c.in_ok-container.container c.loop-value.invariant.of
          c.in_ok-container.ensures.of);
    }
