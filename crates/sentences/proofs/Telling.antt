-- A tree that is found and written answers its sentence.
use Rattle.std.proofs.Common.{◌≡◌, ℕ, List, ◌++◌, drop, Some, None, Ok, Err, Option, Result, sym, ap, ◌∙◌, subst, inl}
use Rattle.std.proofs.lemmas.List.{take-append-drop}
use Rattle.refusals.specs.declared.Refusal.{Refusal}
use Rattle.derivation.specs.Scale.{Scale}
use Rattle.tree.specs.declared.node.Node.{Node}
use Rattle.search.specs.declared.best.Tree.{Tree}
use Rattle.sentences.specs.Written.{title, spelled, TreeAdded}
use Rattle.sentences.specs.Sentence.{Language, Requested, Heard, hindrance}
use Rattle.sentences.specs.Serving.{Asked, Found}

module _ {Cost : Type 0} (s : Scale Cost) (cost_text : Cost → Option (List ℕ)) (l : Language) (ladder : List Cost) (number : ℕ) (held : List ℕ) (nodes : List Node) (tree : Tree Cost) (before after : List ℕ) where
  abbrev Added : List ℕ → Type 0
  Added words = TreeAdded (title l.categories) (spelled l.words words) nodes (cost_text tree.cost) tree.rung tree.kept before after

  requested : (d : Option Refusal) (words : List ℕ) → Asked s l ladder held nodes d words (Ok tree) → Added held → (text : List ℕ) × Requested s cost_text l ladder number d words text × (after ≡ before ++ text)
  requested (Some r) words asked added = cc
  requested None words asked added =
      let handed = asked.1 in
      let begins = sym (take-append-drop tree.nodes nodes) ∙ ap (λ (ns : List Node). ns ++ drop tree.nodes nodes) handed.written in
      let told = subst Added asked.0 added l.grammar words _ _ _ handed.derivation (drop tree.nodes nodes) begins in
      (told.0, inl (record { tree = tree; nodes = nodes; handed = handed; line = told.2 }), told.1)

  answered : (heard : Result (List ℕ) Refusal) → Found s l ladder held nodes heard (Ok tree) → Added held → (text : List ℕ) × Heard s cost_text l ladder number heard text × (after ≡ before ++ text)
  answered (Ok words) found added = requested (hindrance s ladder words) words found added
  answered (Err r) found added = cc

  -- the same, where grammar, words and nodes were lent again for writing
  pub answered_by : (heard : Result (List ℕ) Refusal) (m : Language) (words : List ℕ) (lent : List Node) → m ≡ l → words ≡ held → lent ≡ nodes → Found s l ladder held nodes heard (Ok tree) → TreeAdded (title m.categories) (spelled m.words words) lent (cost_text tree.cost) tree.rung tree.kept before after → (text : List ℕ) × Heard s cost_text l ladder number heard text × (after ≡ before ++ text)
  answered_by heard m words lent same put is found added = let here = rw (same, put, is) at added in answered heard found here
