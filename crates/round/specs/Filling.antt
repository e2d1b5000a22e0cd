-- What holds after some cells of a round are filled.
use Rattle.std.specs.Prelude.{◌≡◌, ℕ, ◌+◌, ◌<◌, ◌≤◌, List, None, Option}
use Rattle.derivation.specs.Grammar.{Grammar}
use Rattle.derivation.specs.Scale.{Scale}
use Rattle.derivation.specs.Bounds.{Entries}
use Rattle.derivation.specs.Table.{Table, ClosedAt, Reached}
use Rattle.chart.specs.Meaning.{Seen}
use Rattle.table.specs.Memory.{Moved, Alike, Ready}

-- the cell of x to y is filled, when those that end before e are, and the k shortest that end at e
pub record Late (e k x y : ℕ) : Type 0 where
  pub first : 1 ≤ x
  pub order : x ≤ y
  pub column : y ≤ e
  pub back : y ≡ e → e < x + k

pub record Sofar {Cost : Type 0} (s : Scale Cost) (g : Grammar) (entry : Entries Cost) (ceiling : Option Cost) (ws : List ℕ) (v : Table Cost) (e k : ℕ) : Type 0 where
  pub closed : (x y : ℕ) → Late e k x y → ClosedAt s g entry ceiling ws v x y
  pub reached : Reached s g entry ceiling ws v
  pub rest : (A x y : ℕ) → (Late e k x y → ⊥) → v A x y ≡ None

-- nothing has changed but cells that end at e
pub record Spread {Cost : Type 0} (d : Cost) (kinds e : ℕ) (before : Seen) (costs : List Cost) (after : Seen) (costs' : List Cost) : Type 0 where
  pub alike : Alike before after
  pub earlier : (x y A : ℕ) → y < e → after.holds x y A ≡ before.holds x y A
  pub moved : Moved d before.words kinds before costs after costs'

-- a chart that was started for n words and some categories, beside a row of costs that is long enough
pub record Fitted (n kinds : ℕ) (chart : Seen) (long : ℕ) : Type 0 where
  pub text : chart.words ≡ n
  pub ready : Ready kinds chart long
