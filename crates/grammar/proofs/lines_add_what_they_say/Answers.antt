use Rattle.grammar.proofs.Added.{top_added, lexical_added, chain_added, binary_added}
use Rattle.grammar.proofs.lines_add_what_they_say.Goals as goal

pub returns : goal.returns
returns c = record { top = top_added; lexical = lexical_added; chain = chain_added; binary = binary_added }
