-- What a cell keeps, offer by offer. It stands here since the cell's ghost members cite it.
use Rattle.std.proofs.Common.{◌≡◌, ℕ, refl, sym, ap, ◌∙◌, subst}
use Rattle.std.specs.Borrow.{Bor}
use Rattle.derivation.specs.Bounds.{Entries}
use Rattle.chart.specs.declared.meaning.Chart as chart
use Rattle.scale.specs.declared.Scale as scale
use Rattle.settle.specs.Rows.{RowLaws}
use Rattle.table.specs.Memory.{Framed}
use Rattle.table.proofs.Views.{framed_none, framed_then}
use Rattle.cell.specs.declared.task.Task.{Task}
use Rattle.cell.specs.declared.cell.Cell.{Cell}
use Rattle.cell.specs.Open.{open_over, open_to, Beside}

module _ {S C B Cost : Type 0} {met : scale.Ghosts S Cost} {over : chart.Ghosts C} where
  beside_then : (x y z : Cell S C B Cost met over) → Beside x y → Beside y z → Beside x z
  beside_then x y z one two =
      let d = met.scale.neutral in
      let at = λ (task : Bor (Task Cost B)) (b e : ℕ). Framed d task.now.rules.now.categories b e (over.seen y.chart.now) y.costs.now (over.seen z.chart.now) z.costs.now in
      record {
        task = two.task ∙ one.task;
        first = two.first ∙ one.first;
        last = two.last ∙ one.last;
        chart = two.chart ∙ one.chart;
        costs = two.costs ∙ one.costs;
        framed = framed_then d x.task.now.rules.now.categories one.framed
            (subst (λ task. at task x.b x.e) one.task (subst (λ b. at y.task b x.e) one.first (subst (λ e. at y.task y.b e) one.last two.framed)));
      }

  -- the same costs may stay
  pub same_open : (limit : B → Entries Cost) (x y : Cell S C B Cost met over) → Beside x y → open_to limit y ≡ open_to limit x
  same_open limit x y kept =
      let at = λ (task : Bor (Task Cost B)) (b e : ℕ). open_over met.scale limit task.now b e in
      ap (λ task. at task y.b y.e) kept.task ∙ ap (λ b. at x.task b y.e) kept.first ∙ ap (λ e. at x.task x.b e) kept.last

  pub cell_laws : (limit : B → Entries Cost) → RowLaws {Row = Cell S C B Cost met over} (λ cell. cell.task.now.rules.now.categories) (open_to limit) Beside
  cell_laws limit = record {
    same = λ x. record { task = refl; first = refl; last = refl; chart = refl; costs = refl; framed = framed_none _ _ _ _ };
    then = beside_then;
    sized = λ x y kept. ap (λ (task : Bor (Task Cost B)). task.now.rules.now.categories) kept.task;
    opens = λ x y kept A c h. subst (λ P. P A c) (sym (same_open limit x y kept)) h;
    opened = λ x y kept A c h. subst (λ P. P A c) (same_open limit x y kept) h;
  }
