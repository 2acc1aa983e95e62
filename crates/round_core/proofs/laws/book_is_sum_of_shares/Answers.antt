use Rattle.round_core.proofs.Rounds.{book_is_shares}
use Rattle.round_core.proofs.laws.book_is_sum_of_shares.Goals as goal

pub returns : goal.returns
returns c = book_is_shares
