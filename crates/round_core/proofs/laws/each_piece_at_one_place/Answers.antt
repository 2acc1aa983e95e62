use Rattle.round_core.proofs.Rounds.{one_place, no_place, weight_after}
use Rattle.round_core.proofs.laws.each_piece_at_one_place.Goals as goal

pub returns : goal.returns
returns c =
    record {
      one = one_place;
      weights = λ entries workers steps weight. weight_after entries weight workers steps;
      no_stranger = no_place;
    }
