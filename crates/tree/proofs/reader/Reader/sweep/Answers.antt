use Rattle.std.proofs.Common.{◌<◌, sym, ap, ◌∙◌, arith}
use Rattle.std.proofs.lemmas.Bool.{true≢false}
use Rattle.std.specs.Option.{is_some}
use Rattle.tree.proofs.Ranking.{absent, given, lacking, swept_skip, swept_mark}
use Rattle.tree.proofs.reader.Reader.sweep.Goals as goal
use Rattle.tree.proofs.reader.Reader.sweep.Goals.{then-is_none+then-is_some, else-is_none, else-is_none-via-then-is_none+else-is_some, else-is_none-via-else-is_none}

pub loop-category-preserved : goal.loop-category-preserved
loop-category-preserved g c =
    let few = c.args.self.now.rules.now.few in
    let small : c.loop-category.category < 64 = omega arith in
    elim c.if-is_none.branch [
      | then-is_none+then-is_some w ↦ rw w.ranks-is (let (step, way) = given w.way.result w.if-is_some.ensures _ _ w.way.ensures.found in swept_mark c.args.ranks.now c.loop-category.ranks c.args.level c.loop-category.category c.requires.some small c.loop-category.invariant (record { fresh = absent _ w.if-is_none.ensures; step = step; way = way }))
      | else-is_none w ↦ rw w.ranks-is (elim w.else-is_none.branch [
        | else-is_none-via-then-is_none+else-is_some w' ↦ swept_skip c.args.ranks.now c.loop-category.ranks c.args.level c.loop-category.category c.loop-category.invariant (λ z. lacking _ w'.if-is_some.ensures _ _ w'.way.ensures.found)
        | else-is_none-via-else-is_none w' ↦ swept_skip c.args.ranks.now c.loop-category.ranks c.args.level c.loop-category.category c.loop-category.invariant (λ z t way. true≢false (sym w'.if-is_none.ensures ∙ ap is_some z))
      ])
    ]
