use Rattle.round.proofs.Recognising.{recogniser_chart}
use Rattle.round.proofs.recognise.Goals as goal

pub returns-clause-recogniser : goal.returns-clause-recogniser
returns-clause-recogniser g c = recogniser_chart c.round.ensures.round
