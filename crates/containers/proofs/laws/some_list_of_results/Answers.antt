use Rattle.containers.proofs.FoundLemmas as found
use Rattle.containers.proofs.laws.some_list_of_results.Goals as goal

pub returns : goal.returns
returns c = found.some_list_of_results
