use Rattle.std.proofs.Common.{arith}
use Rattle.sentences.proofs.Asking.{told}
use Rattle.sentences.proofs.desk.Held.ask.Goals as goal

pub returns-clause-asked : goal.returns-clause-asked
returns-clause-asked g c calls leads =
    let room = c.new-chart.ensures.room.greatest 20 (omega arith) (omega arith) in
    told g.S.Scale.scale c.args.self.now.grammar.now c.args.ladder.now _ _ _ c.tree.result c.args.self.now.fits c.requires.few
    (record { room = room; span = omega arith; costs = c.requires.costs; nodes = c.requires.nodes })
    calls leads c.tree.ensures.asked (c.tree.ensures.cheapest calls leads tt)
