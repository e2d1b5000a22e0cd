use Rattle.std.proofs.Common.{length, arith}
use Rattle.table.proofs.Views.{view_true}
use Rattle.tree.proofs.Held.{placed}
use Rattle.tree.proofs.Ground.{grounded}
use Rattle.tree.proofs.Trees.{extracted, whole_room}
use Rattle.tree.proofs.write.extract.Goals as goal

pub write-requires-clause-grounded : goal.write-requires-clause-grounded
write-requires-clause-grounded g c = grounded g.met.S.Scale.lawful c.requires.finished c.args.table.now.kinds (λ b e a x is. (placed c.args.table.now g.C.Chart.sound b e a is).kind)

pub write-requires-clause-held : goal.write-requires-clause-held
write-requires-clause-held g c = (_, view_true _ _ _ _ _ _ _ c.requires.held)

pub write-requires-clause-room : goal.write-requires-clause-room
write-requires-clause-room g c =
    let some = (g.C.Chart.sound.bounded c.args.table.now.chart.now _ _ _ c.requires.held).order in
    omega (arith, whole_room (length c.args.text.now) c.args.rules.now.categories some, c.requires.room)

pub returns : goal.returns
returns g c =
    let some = (g.C.Chart.sound.bounded c.args.table.now.chart.now _ _ _ c.requires.held).order in
    extracted c.write.result c.args.nodes.now c.write.new.nodes some c.write.ensures.few c.write.ensures.wrote
