use Rattle.event_list.proofs.Cut.{end_before}
use Rattle.event_list.proofs.text.add_eviction_words.Goals as goal

pub whole_or_nothing-requires : goal.whole_or_nothing-requires
whole_or_nothing-requires c =
    end_before c.args.text.now c.add_key_and_order-added.new.text c.len-length.result c.len-length.ensures
    c.add_key_and_order-added.ensures.more
