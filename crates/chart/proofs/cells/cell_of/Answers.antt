use Rattle.std.proofs.Common.{◌∙◌}
use Rattle.chart.specs.Triangle.{tri}
use Rattle.chart.proofs.Entries.{square, entry, cell_closed}
use Rattle.chart.proofs.cells.cell_of.Goals as goal

pub returns : goal.returns
unfolding square tri
returns c =
    let b = c.args.b in
    let e = c.args.e in
    let r = c.from.ensures ∙ entry b e c.requires.first c.requires.order c.requires.last in
    record { number = r; closed = r ∙ cell_closed b e c.requires.first c.requires.order }
