use Rattle.std.proofs.Common.{codes, refl}
use Rattle.std.proofs.lemmas.Slice.{pushed}
use Rattle.render.proofs.Reading.{shows_none, shows_word, shows_chain, shows_binary}
use Rattle.render.proofs.+show.Goals as goal

pub returns-in_default-clause-text : goal.returns-in_default-clause-text
returns-in_default-clause-text g t c = shows_none (g.S.Spelling.titles c.args.names.now) (g.S.Spelling.spellings c.args.names.now) c.args.nodes.now c.args.nodes.now _ _ c.in_default.ensures.cases

pub returns-in_ok-word-in-Word-clause-text : goal.returns-in_ok-word-in-Word-clause-text
returns-in_ok-word-in-Word-clause-text g t c =
    let (is, long) = c.in-Some.ensures.cases in
    shows_word (g.S.Spelling.titles c.args.names.now) (g.S.Spelling.spellings c.args.names.now) c.args.nodes.now c.in-Some.node.now c.in-Some.others.now is _ _ c.in_ok-open.ensures _ c.in-Word.is (rw c.from.ensures at c.in_ok-word-in-Word.ensures)

pub returns-in_ok-extend_from_slice-in-Chain-clause-text : goal.returns-in_ok-extend_from_slice-in-Chain-clause-text
returns-in_ok-extend_from_slice-in-Chain-clause-text g t c =
    let (is, long) = c.in-Some.ensures.cases in
    let did = c.in_ok-left-in-Chain.ensures in
    shows_chain (g.S.Spelling.titles c.args.names.now) (g.S.Spelling.spellings c.args.names.now) c.args.nodes.now c.in-Some.node.now c.in-Some.others.now is _ _ c.in_ok-open.ensures _ _ _ c.in-Chain.is did.text (pushed (codes ")") refl c.in_ok-extend_from_slice-in-Chain.was c.extend_from_slice.ensures.items)

pub returns-in_ok-extend_from_slice-in-Binary-2-clause-text : goal.returns-in_ok-extend_from_slice-in-Binary-2-clause-text
returns-in_ok-extend_from_slice-in-Binary-2-clause-text g t c =
    let (is, long) = c.in-Some.ensures.cases in
    let one = c.in_ok-middle-in-Binary.ensures in
    let two = c.in_ok-left-in-Binary.ensures in
    shows_binary (g.S.Spelling.titles c.args.names.now) (g.S.Spelling.spellings c.args.names.now) c.args.nodes.now c.in-Some.node.now c.in-Some.others.now is _ _ c.in_ok-open.ensures _ _ _ _ _ _ c.in-Binary.is one.text (pushed (codes " ") refl c.in_ok-extend_from_slice-in-Binary.was c.extend_from_slice-in-Binary.ensures.items) two.text (pushed (codes ")") refl c.in_ok-extend_from_slice-in-Binary-2.was c.extend_from_slice-in-Binary-2.ensures.items)
