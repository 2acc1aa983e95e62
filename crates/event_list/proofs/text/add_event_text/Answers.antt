use Rattle.event_list.proofs.Cut.{end_before}
use Rattle.event_list.proofs.text.add_event_text.Goals as goal

pub whole_or_nothing-requires : goal.whole_or_nothing-requires
whole_or_nothing-requires c =
    end_before c.args.text.now c.add_line-added.new.text c.len-length.result c.len-length.ensures
    c.add_line-added.ensures.more
