use Rattle.derivation.proofs.Pruning.{pruning_loses_nothing_lem}
use Rattle.derivation.proofs.pruning_loses_nothing.Goals as goal

pub returns : goal.returns
returns g c = pruning_loses_nothing_lem
