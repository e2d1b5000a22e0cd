use Rattle.derivation.proofs.Ladder.{first_success_is_cheapest_lem}
use Rattle.derivation.proofs.first_success_is_cheapest.Goals as goal

pub returns : goal.returns
returns g c = first_success_is_cheapest_lem
