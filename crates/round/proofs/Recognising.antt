-- A round without a ceiling is a run of the recogniser.
use Rattle.std.proofs.Common.{◌≡◌, ℕ, ◌+◌, true, List, length, None}
use Rattle.derivation.specs.Grammar.{Grammar}
use Rattle.derivation.specs.Scale.{Scale}
use Rattle.derivation.specs.Derivation.{Derivation, word, chain, binary}
use Rattle.derivation.specs.Bounds.{Entries}
use Rattle.derivation.specs.Recogniser.{Constituents, ClosedSet}
use Rattle.derivation.proofs.Table.{all_pass}
use Rattle.chart.specs.Meaning.{Seen}
use Rattle.round.specs.Round.{Round}
use Rattle.round.specs.Recogniser.{RecogniserChart}

-- a set that is closed under the rules has all that is derivable
derivable_in : {g : Grammar} {ws : List ℕ} (set : Constituents) → ClosedSet g ws set → {A b e : ℕ} → Derivation g ws A b e → set b e A ≡ true
derivable_in set closed (word {k = k} {i = i} r at here) = closed.words k i r at here
derivable_in set closed (chain {k = k} {b = b} {e = e} r at d) = closed.chains k b e r at (derivable_in set closed d)
derivable_in set closed (binary {k = k} {b = b} {m = m} {e = e} r at d f) = closed.binaries k b m e r at (derivable_in set closed d) (derivable_in set closed f)

pub recogniser_chart : {Cost : Type 0} {s : Scale Cost} {g : Grammar} {entry : Entries Cost} {ws : List ℕ} {before after : List Cost} {chart : Seen} → Round s g entry None ws before chart after → RecogniserChart s g ws chart after
recogniser_chart {s = s} {g = g} {entry = entry} {ws = ws} {chart = chart} round = record {
  recognised = record {
    closed = record {
      words = λ k i r at here. holds (word r at here);
      chains = λ k b e r at part. holds (chain r at (tree r.part b e part));
      binaries = λ k b m e r at left right. holds (binary r at (tree r.left b m left) (tree r.right (m + 1) e right));
    };
    least = λ other closed b e A held. derivable_in other closed (tree A b e held);
  };
  viterbi = λ A b e held.
      let kept = round.kept A b e held in
      record { tree = kept.tree; costs = kept.costs; least = λ f. kept.least f (all_pass s entry (length ws) f) };
} where
  tree : (A b e : ℕ) → chart.holds b e A ≡ true → Derivation g ws A b e
  tree A b e held = (round.kept A b e held).tree

  holds : {A b e : ℕ} → Derivation g ws A b e → chart.holds b e A ≡ true
  holds {A} {b} {e} d = round.passing A b e d (all_pass s entry (length ws) d)
