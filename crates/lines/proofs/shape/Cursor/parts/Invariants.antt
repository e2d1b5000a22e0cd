use Rattle.std.proofs.Common.{◌≡◌, [], length, vec_items}
use Rattle.lines.specs.Shape.{parts_on, left}
use Rattle.lines.proofs.shape.Cursor.parts.Given as goal

abbrev pub invariant-loop-parts : goal.invariant-loop-parts
invariant-loop-parts l = parts_on (vec_items l.parts) (left l.self) ≡ parts_on [] (left l.initial.self)

abbrev pub decreases-loop-parts : goal.decreases-loop-parts
decreases-loop-parts l = length (left l.self)
