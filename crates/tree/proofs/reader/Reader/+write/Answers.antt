use Rattle.std.proofs.Common.{ap, arith, length-set, length-take, length-drop, length-append}
use Rattle.std.proofs.lemmas.List.{get_or_read}
use Rattle.tree.specs.Ways.{no_chain, no_binary}
use Rattle.tree.proofs.Ranking.{top}
use Rattle.tree.proofs.Held.{placed}
use Rattle.tree.proofs.Trees.{wrote_word, wrote_chain, wrote_binary, span_sum}
use Rattle.tree.proofs.reader.Reader.+write.Goals as goal

pub write_ranked-unreachable-requires-in_default-way : goal.write_ranked-unreachable-requires-in_default-way
write_ranked-unreachable-requires-in_default-way g t c = let (step, way) = c.requires.ranked.ways _ _ (top c.requires.ranked c.from.ensures c.in-Some.is _ _ c.requires.room).0 in c.in_default-way.ensures.found step way

pub write_ranked-write-rights-requires : goal.write_ranked-write-rights-requires
write_ranked-write-rights-requires g t c κs within =
    let (is, some, room) = top c.requires.ranked c.from.ensures c.in-Some.is _ _ c.requires.room in
    let (inside, makes, of) = (rw c.in-Binary.is at c.in-Some-way.ensures.found).gives in
    let read = get_or_read _ c.in-Binary.rule _ inside c.index-in-Binary.ensures no_binary in
    let low = of.first in
    let high = of.last in
    let spans = span_sum c.args.span.begin c.in-Binary.split c.args.span.end c.args.self.now.rules.now.categories low high in
    let long = simp (length-take, length-drop, length-set) at c.write-lefts.auto.nodes in
    (omega arith, (within.0, (within.1.0, (within.1.1, (c.requires.grounded, ((of.right, rw (c.right.ensures.begin, c.right.ensures.end, ap (λ r. r.right) read) of.has_right), simp (c.right.ensures.begin, c.right.ensures.end, length-take, length-drop, length-append, length-set) (omega (arith, simp (c.left.ensures.begin, c.left.ensures.end) at c.write-lefts.ensures.few))))))))

pub write_ranked-returns-in-Word : goal.write_ranked-returns-in-Word
write_ranked-returns-in-Word g t c =
    let (is, some, room) = top c.requires.ranked c.from.ensures c.in-Some.is _ _ c.requires.room in
    let w = rw c.in-Word.is at c.in-Some-way.ensures.found in
    let p = placed c.args.self.now.table.now g.C.Chart.sound _ _ _ w.held in
    rw c.node.ensures (wrote_word c.args.ranks.now c.args.category c.args.span.begin c.args.span.end c.in-Some.rank c.in-Word.rule c.args.nodes.now w p.first (omega (arith, p.last, c.args.self.now.whole)) is some (omega arith))

pub write_ranked-returns-in-Chain : goal.write_ranked-returns-in-Chain
write_ranked-returns-in-Chain g t c =
    let (is, some, room) = top c.requires.ranked c.from.ensures c.in-Some.is _ _ c.requires.room in
    let w = rw c.in-Chain.is at c.in-Some-way.ensures.found in
    wrote_chain c.args.ranks.now c.args.category c.args.span.begin c.args.span.end c.in-Some.rank c.in-Chain.rule c.index.result.now.part c.write_ranked.result c.args.nodes.now _ c.write_ranked.new.nodes w is (rw c.node-in-Chain.ensures) (omega arith) (ap (λ r. r.part) (get_or_read _ c.in-Chain.rule _ w.gives.0 c.index.ensures no_chain)) c.write_ranked.ensures

pub write_ranked-returns-in-Binary : goal.write_ranked-returns-in-Binary
write_ranked-returns-in-Binary g t c =
    let (is, some, room) = top c.requires.ranked c.from.ensures c.in-Some.is _ _ c.requires.room in
    let w = rw c.in-Binary.is at c.in-Some-way.ensures.found in
    let r = c.index-in-Binary.result.now in
    let read = get_or_read _ c.in-Binary.rule r w.gives.0 c.index-in-Binary.ensures no_binary in
    let lefts = rw (c.left.ensures.begin, c.left.ensures.end) at c.write-lefts.ensures in
    let rights = rw (c.right.ensures.begin, c.right.ensures.end) at c.write-rights.ensures in
    wrote_binary c.args.ranks.now c.args.category c.args.span.begin c.in-Binary.split c.args.span.end c.in-Some.rank c.in-Binary.rule r.left r.right c.write-lefts.result c.write-rights.result c.args.nodes.now _ c.write-lefts.new.nodes c.write-rights.new.nodes w is some (rw c.node-in-Binary.ensures) (omega arith) (ap (λ r. r.left) read) (ap (λ r. r.right) read) lefts.few rights.few lefts.wrote rights.wrote
