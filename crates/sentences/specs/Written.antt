-- What is written: the lines of refusals and of trees.
use Rattle.std.specs.Prelude.{◌≡◌, ℕ, ◌-◌, List, [], ◌++◌, Some, None, Ok, Err, Option, Result, codes, decimal, slice_get, slice_index_or}
use Rattle.refusals.specs.declared.Refusal.{Refusal as Cause}
use Rattle.refusals.specs.Numbers.{number}
use Rattle.lines.specs.declared.fault.LineFault.{LineFault}
use Rattle.lines.specs.declared.fault.Stop.{Stop}
use Rattle.lines.specs.declared.fault.Stop.TheVariants.{Refusal}
use Rattle.derivation.specs.Grammar.{Grammar}
use Rattle.derivation.specs.Derivation.{Derivation}
use Rattle.tree.specs.declared.node.Node.{Node}
use Rattle.tree.specs.Preorder.{preorder}
use Rattle.render.specs.Render.{render}

-- a fault, or what was read
abbrev pub or_fault : {X : Type 0} → Result X LineFault → Result X (Stop LineFault)
or_fault (Ok x) = Ok x
or_fault (Err fault) = Err (Refusal fault)

-- (refused NUMBER LINE)
abbrev pub refusal_line : Cause → ℕ → List ℕ
refusal_line refusal line = codes "(refused " ++ (decimal (number refusal) ++ (codes " " ++ (decimal line ++ codes ")\n")))

-- (tree COST RUNG KEPT TREE), of a cost and a tree as they are written
abbrev pub tree_line : List ℕ → ℕ → ℕ → List ℕ → List ℕ
tree_line cost rung kept tree = codes "(tree " ++ (cost ++ (codes " " ++ (decimal rung ++ (codes " " ++ (decimal kept ++ (codes " " ++ (tree ++ codes ")\n")))))))

-- the name of a category, of those that a grammar has
abbrev pub title : List (List ℕ) → ℕ → List ℕ
title names category = slice_index_or names category []

-- the spelling of the word that is held at a place from 1 on, of those that a grammar has; nothing where no word is held
abbrev pub spelling : List (List ℕ) → Option ℕ → List ℕ
spelling names None = []
spelling names (Some word) = slice_index_or names word []

abbrev pub spelled : List (List ℕ) → List ℕ → ℕ → List ℕ
spelled names held place = spelling names (slice_get held (place - 1))

-- where the nodes begin with those of a derivation, a text was added: the line of its tree, if its cost is written so
abbrev pub TreeAdded : (ℕ → List ℕ) → (ℕ → List ℕ) → List Node → Option (List ℕ) → ℕ → ℕ → List ℕ → List ℕ → Type 0
TreeAdded titles spellings nodes cost rung kept before after =
    (g : Grammar) (ws : List ℕ) (A b e : ℕ) (d : Derivation g ws A b e) (rest : List Node) → nodes ≡ preorder d ++ rest
    → (text : List ℕ) × (after ≡ before ++ text) × ((written : List ℕ) → cost ≡ Some written → text ≡ tree_line written rung kept (render titles spellings d))
