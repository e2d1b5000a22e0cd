-- What a chart means: which constituents it may hold, and what each call does to the set that it holds.
use Rattle.std.specs.Prelude.{◌≡◌, ℕ, ◌+◌, ◌<◌, ◌≤◌, Bool, true, false, ◌&&◌, ◌||◌, Option, MatchOption, ◌==◌, nat_le, nat_lt}
use Rattle.chart.specs.Limits.{most_words, most_categories}

-- a set of constituents, by first word, last word and category
abbrev pub Holds : Type 0
Holds = ℕ → ℕ → ℕ → Bool

-- (b, e, a) is a constituent that a chart of n words and g categories may hold
pub record Inside (n g b e a : ℕ) : Type 0 where
  pub first : 1 ≤ b
  pub order : b ≤ e
  pub last : e ≤ n
  pub kind : a < g

-- the same as a test
abbrev pub inside : ℕ → ℕ → ℕ → ℕ → ℕ → Bool
inside n g b e a = (nat_le 1 b && nat_le b e) && (nat_le e n && nat_lt a g)

-- (x, y, z) is the constituent (b, e, a), as a test
abbrev pub same : ℕ → ℕ → ℕ → ℕ → ℕ → ℕ → Bool
same b e a x y z = x == b && (y == e && z == a)

-- h' is h and, if r, also (b, e, a), and nothing else
abbrev pub Adds : Holds → Holds → Bool → ℕ → ℕ → ℕ → Type 0
Adds h h' r b e a = (x y z : ℕ) → h' x y z ≡ (h x y z || (r && same b e a x y z))

-- h' is the same set as h
abbrev pub Unaltered : Holds → Holds → Type 0
Unaltered h h' = (x y z : ℕ) → h' x y z ≡ h x y z

-- no constituent is held
abbrev pub Empty : Holds → Type 0
Empty h = (x y z : ℕ) → h x y z ≡ false

-- m splits the words b to e: a p over b to m and a q over m + 1 to e are held
abbrev pub Splits : Holds → ℕ → ℕ → ℕ → ℕ → ℕ → Type 0
Splits h p q b e m = (b ≤ m) × (m < e) × (h b m p ≡ true) × (h (m + 1) e q ≡ true)

-- r is the lowest split, or none if there is none
abbrev pub Lowest : Holds → ℕ → ℕ → ℕ → ℕ → Option ℕ → Type 0
Lowest h p q b e r =
    MatchOption r ((k : ℕ) → Splits h p q b e k → ⊥) (λ m. Splits h p q b e m × ((k : ℕ) → k < m → Splits h p q b e k → ⊥))

-- the set of a chart of n words and g categories, of whatever is marked: what lies outside is never held
unfoldable pub limited : ℕ → ℕ → Holds → Holds
limited n g marked b e a = inside n g b e a && marked b e a

-- what is seen of a chart: how many words it can take, the numbers of words and categories it was last started with, and the set
pub record Seen : Type 0 where
  pub room : ℕ
  pub words : ℕ
  pub categories : ℕ
  pub holds : Holds

-- what every chart keeps: its limits, and that it holds no constituent but those of its words and categories
pub record Sound {C : Type 0} (seen : C → Seen) : Type 0 where
  pub most : (c : C) → (seen c).room ≤ most_words
  pub within : (c : C) → (seen c).words ≤ (seen c).room
  pub kinds : (c : C) → (seen c).categories ≤ most_categories
  pub bounded : (c : C) (b e a : ℕ) → (seen c).holds b e a ≡ true → Inside (seen c).words (seen c).categories b e a

-- a chart is started: emptied for n words and g categories, or answered no and unaltered where either is too many
pub record Starts (n g : ℕ) (before : Seen) (answer : Bool) (after : Seen) : Type 0 where
  pub told : answer ≡ (nat_le n before.room && nat_le g most_categories)
  pub room : after.room ≡ before.room
  pub started : answer ≡ true → (after.words ≡ n) × (after.categories ≡ g) × Empty after.holds
  pub refused : answer ≡ false → (after.words ≡ before.words) × (after.categories ≡ before.categories) × Unaltered before.holds after.holds

-- (b, e, a) is put: added, and nothing else, or answered no where the chart may not hold it
pub record Puts (b e a : ℕ) (before : Seen) (answer : Bool) (after : Seen) : Type 0 where
  pub told : answer ≡ inside before.words before.categories b e a
  pub room : after.room ≡ before.room
  pub words : after.words ≡ before.words
  pub categories : after.categories ≡ before.categories
  pub adds : Adds before.holds after.holds answer b e a
