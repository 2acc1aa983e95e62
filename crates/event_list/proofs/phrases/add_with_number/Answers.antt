use Rattle.std.proofs.Common.{string_bytes}
use Rattle.event_list.proofs.Cut.{end_before, added_twice}
use Rattle.event_list.proofs.phrases.add_with_number.Goals as goal

pub whole_or_nothing-requires : goal.whole_or_nothing-requires
whole_or_nothing-requires g c =
    end_before c.args.text.now c.push_str-added.new.self c.len-length.result c.len-length.ensures
    (added_twice c.push_str-added.result (string_bytes c.args.text.now) c.args.words.now
    (string_bytes c.push_str.new.self) c.format.result.now (string_bytes c.push_str-added.new.self)
    c.in_ok-push_str.ensures.bytes c.push_str-added.ensures.bytes)
