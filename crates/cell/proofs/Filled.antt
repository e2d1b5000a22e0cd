-- What the three steps of filling make of a cell.
use Rattle.std.proofs.Common.{◌≡◌, ℕ, List, length, None, sym, subst, arith}
use Rattle.std.specs.Prelude.{vec_items}
use Rattle.std.specs.Borrow.{Bor}
use Rattle.derivation.specs.Grammar.{grammar}
use Rattle.derivation.specs.Scale.{Lawful}
use Rattle.derivation.specs.Bounds.{Entries}
use Rattle.derivation.specs.Table.{Table}
use Rattle.chart.specs.declared.meaning.Chart as chart
use Rattle.scale.specs.declared.Scale as scale
use Rattle.settle.specs.declared.direction.Direction.TheVariants.{Up}
use Rattle.settle.specs.Column.{Grown}
use Rattle.settle.specs.Chains.{Settled}
use Rattle.table.specs.Memory.{view}
use Rattle.cell.specs.declared.task.Task.{Task}
use Rattle.cell.specs.declared.cell.Cell.{Cell}
use Rattle.cell.specs.Cell.{Single, Pair, Closes}
use Rattle.cell.specs.Open.{costs_in, column_of, lexical_of, binaries_of, chains_of, text_of, open_over, open_to, Beside}
use Rattle.cell.specs.Laws.{cell_laws}
use Rattle.cell.proofs.Cells.{closes_all}

module _ {S C B Cost : Type 0} {met : scale.Ghosts S Cost} {over : chart.Ghosts C} where
  -- what is said of one cell is said of the cell before
  along : (P : Bor (Task Cost B) → ℕ → ℕ → Type 0) (x y : Cell S C B Cost met over) → Beside x y → P y.task y.b y.e → P x.task x.b x.e
  along P x y kept h = subst (λ task. P task x.b x.e) kept.task (subst (λ b. P y.task b x.e) kept.first (subst (λ e. P y.task y.b e) kept.last h))

  -- what holds of a cell as it was made and of what it left holds of what it was made of
  pub of_made : (P : Bor (Task Cost B) → ℕ → ℕ → C → List Cost → C → List Cost → Type 0) (x : Cell S C B Cost met over) {task : Bor (Task Cost B)} {b e : ℕ} {chart chart' last : C} {costs costs' last' : List Cost} → x.task ≡ task → x.b ≡ b → x.e ≡ e → x.chart.now ≡ chart → x.costs.now ≡ costs → chart' ≡ last → costs' ≡ last' → P x.task x.b x.e x.chart.now x.costs.now last last' → P task b e chart costs chart' costs'
  of_made P x {task} {b} {e} {chart} {chart'} {last} {costs} {costs'} {last'} t f l ch co now now' h =
      subst (λ z. P z b e chart costs chart' costs') t (subst (λ z. P x.task z e chart costs chart' costs') f (subst (λ z. P x.task x.b z chart costs chart' costs') l
      (subst (λ z. P x.task x.b x.e z costs chart' costs') ch (subst (λ z. P x.task x.b x.e x.chart.now z chart' costs') co
      (subst (λ z. P x.task x.b x.e x.chart.now x.costs.now z costs') (sym now) (subst (λ z. P x.task x.b x.e x.chart.now x.costs.now last z) (sym now') h))))))

  -- the costs of one cell under the names of another
  abbrev pub costs_by : Cell S C B Cost met over → Bor (Task Cost B) → Table Cost
  costs_by x task = view met.scale.neutral task.now.rules.now.categories (over.seen x.chart.now) x.costs.now

  module _ (lawful : Lawful met.scale) (limit : B → Entries Cost) (x x₁ x₂ x₃ : Cell S C B Cost met over) (kept₁ : Beside x x₁) (kept₂ : Beside x₁ x₂) (kept₃ : Beside x₂ x₃) where
    kept-two : Beside x x₂
    kept-two = (cell_laws limit).then x x₁ x₂ kept₁ kept₂

    pub kept-all : Beside x x₃
    kept-all = (cell_laws limit).then x x₂ x₃ kept-two kept₃

    pub filled : ((A : ℕ) → costs_in x A x.b x.e ≡ None) → Grown met.scale (open_to limit x) (Single met.scale (lexical_of x) (text_of x) x.b x.e) (column_of x) (column_of x₁) → Grown met.scale (open_to limit x₁) (Pair met.scale (binaries_of x₁) (costs_in x₁) x₁.b x₁.e (length (binaries_of x₁))) (column_of x₁) (column_of x₂) → Settled met.scale (open_to limit x₂) Up (chains_of x₂) (column_of x₂) (column_of x₃) → Closes met.scale (grammar x.task.now.rules.now) (limit x.task.now.bound.now) x.task.now.ceiling (text_of x) (costs_in x) (costs_by x₃ x.task) x.b x.e
    filled blank one two three =
        let s = met.scale in
        let at = λ (y : Cell S C B Cost met over) (task : Bor (Task Cost B)) (b e : ℕ). λ (A : ℕ). costs_by y task A b e in
        let one' = along (λ task b e. Grown s (open_to limit x) (Single s (lexical_of x) (text_of x) x.b x.e) (column_of x) (at x₁ task b e)) x x₁ kept₁ one in
        let two' = along (λ task b e. Grown s (open_over s limit task.now b e) (Pair s (vec_items task.now.rules.now.binaries) (costs_by x₁ task) b e (length (vec_items task.now.rules.now.binaries))) (at x₁ task b e) (at x₂ task b e)) x x₁ kept₁
        (along (λ task b e. Grown s (open_to limit x₁) (Pair s (binaries_of x₁) (costs_in x₁) x₁.b x₁.e (length (binaries_of x₁))) (column_of x₁) (at x₂ task b e)) x₁ x₂ kept₂ two) in
        let three' = along (λ task b e. Settled s (open_over s limit task.now b e) Up (vec_items task.now.rules.now.chains) (at x₂ task b e) (at x₃ task b e)) x x₂ kept-two
        (along (λ task b e. Settled s (open_to limit x₂) Up (chains_of x₂) (column_of x₂) (at x₃ task b e)) x₂ x₃ kept₃ three) in
        let first = x.placed.first in
        let order = x.placed.order in
        let covered = x.covered in
        closes_all lawful (grammar x.task.now.rules.now) (limit x.task.now.bound.now) x.task.now.ceiling (text_of x) (costs_in x) (costs_by x₁ x.task) (costs_by x₂ x.task) (costs_by x₃ x.task) x.b x.e blank one' two' three'
        kept₁.framed.elsewhere kept-all.framed.elsewhere first (omega arith)
