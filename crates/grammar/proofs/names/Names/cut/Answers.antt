use Rattle.std.proofs.Common.{map, vec_items, sym, ap, ◌∙◌}
use Rattle.std.proofs.lemmas.List.{take-map}
use Rattle.grammar.proofs.names.Names.cut.Goals as goal

pub returns : goal.returns
returns c = ap (map vec_items) c.truncate.ensures.items ∙ sym (take-map vec_items c.args.n _)
