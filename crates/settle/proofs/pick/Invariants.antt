use Rattle.settle.specs.Chains.{Picked}
use Rattle.settle.proofs.pick.Given as goal

abbrev pub invariant-loop-category : goal.invariant-loop-category
invariant-loop-category g l = Picked g.S.Scale.scale (g.R.Row.costs l.row) l.settled l.category l.best
