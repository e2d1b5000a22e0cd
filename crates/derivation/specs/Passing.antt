-- Which derivations pass in a round: all without a ceiling; with one, those that nowhere exceed it together with the bound's entry.
use Rattle.std.specs.Prelude.{ℕ, ◌-◌, List, Some, None, Option}
use Rattle.derivation.specs.Grammar.{Grammar}
use Rattle.derivation.specs.Scale.{Scale, Within}
use Rattle.derivation.specs.Derivation.{Derivation, cost, word, chain, binary}
use Rattle.derivation.specs.Bounds.{Entries, Filled}

-- a cost beside the entry for what is around it, under a ceiling or none: an entry of none admits nothing
abbrev pub Admits : {Cost : Type 0} → Scale Cost → Option Cost → Option Cost → Cost → Type 0
Admits s None entry c = Unit {0}
Admits s (Some ceiling) entry c = Filled entry (λ x. Within s (s.join c x) ceiling)

-- d by itself, over the words b to e of n
abbrev pub Fine : {Cost : Type 0} (s : Scale Cost) (entry : Entries Cost) (ceiling : Option Cost) (n : ℕ) {g : Grammar} {ws : List ℕ} {A b e : ℕ} → Derivation g ws A b e → Type 0
Fine s entry ceiling n {A = A} {b = b} {e = e} d = Admits s ceiling (entry A (b - 1) (n - e)) (cost s d)

-- d and each derivation inside it
abbrev pub Passes : {Cost : Type 0} (s : Scale Cost) (entry : Entries Cost) (ceiling : Option Cost) (n : ℕ) {g : Grammar} {ws : List ℕ} {A b e : ℕ} → Derivation g ws A b e → Type 0
Passes s entry ceiling n {g = g} {ws = ws} (word r at here) = Fine s entry ceiling n {g = g} {ws = ws} (word r at here)
Passes s entry ceiling n {g = g} {ws = ws} (chain r at d) = Fine s entry ceiling n {g = g} {ws = ws} (chain r at d) × Passes s entry ceiling n d
Passes s entry ceiling n {g = g} {ws = ws} (binary r at d f) = Fine s entry ceiling n {g = g} {ws = ws} (binary r at d f) × Passes s entry ceiling n d × Passes s entry ceiling n f
