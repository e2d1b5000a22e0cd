-- The kinds of rules by number.
use Rattle.std.specs.Prelude.{ℕ}
use Rattle.tree.specs.declared.node.Kind.{Kind}
use Rattle.tree.specs.declared.node.Kind.TheVariants.{Word, Chain, Binary}

abbrev pub kind_number : Kind → ℕ
kind_number Word = 0
kind_number Chain = 1
kind_number Binary = 2
