use Rattle.lines.proofs.Causes.{faults_have_causes_lem}
use Rattle.lines.proofs.faults_have_causes.Goals as goal

pub returns : goal.returns
returns c = faults_have_causes_lem
