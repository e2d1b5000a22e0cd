use Rattle.std.proofs.Common.{◌≡◌, ℕ, ◌+◌, ◌<◌, ◌≤◌, Bool, true, false, ◌&&◌, Some, None, Option, MatchOption, rules, tests}
use Rattle.std.proofs.lemmas.Bool.{and_parts, and_from, both_ways}
use Rattle.std.proofs.lemmas.Iterator.{first_from_Range}
use Rattle.chart.specs.Meaning.{Holds, Splits, Lowest}
use Rattle.chart.specs.Bytes.{held}
use Rattle.chart.proofs.bytes.ByteChartChart.split.Goals as goal

-- the first number from b on, below e, at which the two constituents are held is the lowest split
module _ (h : Holds) (p q b e : ℕ) where
  abbrev holds : ℕ → Bool
  holds m = h b m p && h (m + 1) e q

  no_split : (m : ℕ) → (b ≤ m → m < e → holds m ≡ false) → Splits h p q b e m → ⊥
  no_split m none s = both_ways (holds m) (none s.0 s.1) (and_from (h b m p) (h (m + 1) e q) s.2 s.3)

  lowest_from : (r : Option ℕ) → MatchOption r ((k : ℕ) → b ≤ k → k < e → holds k ≡ false) (λ m. (b ≤ m) × (m < e) × (holds m ≡ true) × ((k : ℕ) → b ≤ k → k < m → holds k ≡ false)) → Lowest h p q b e r
  lowest_from None none = λ k s. no_split k (none k) s
  lowest_from (Some m) first =
      let both = and_parts (h b m p) (h (m + 1) e q) first.2 in
      ((first.0, first.1, both.0, both.1), λ k low s. no_split k (λ from _. first.3 k from low) s)

pub returns : goal.returns
returns c =
    let s = c.args.self.now in
    let h = held s.bytes.now s.extent.words s.extent.categories in
    lowest_from h c.args.p c.args.q c.args.b c.args.e c.find.result
    (first_from_Range _ _ _ _ (λ m. h c.args.b m c.args.p && h (m + 1) c.args.e c.args.q ≡ true) (λ m. h c.args.b m c.args.p && h (m + 1) c.args.e c.args.q ≡ false) c.find.ensures.ran
    (λ x q k. search (rules, tests))
    (λ x q k. search (rules, tests)))
