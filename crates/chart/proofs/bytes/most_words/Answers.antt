use Rattle.std.proofs.Common.{◌≡◌, ℕ, zero, suc, ◌+◌, ◌<◌, ◌≤◌, Some, None, Option, unwrap_or, MatchOption, inl, inr, rules, tests, arith}
use Rattle.std.proofs.lemmas.Bool.{cases_lt}
use Rattle.std.proofs.lemmas.Iterator.{first_from_Range}
use Rattle.chart.specs.Limits.{most_words, Greatest}
use Rattle.chart.specs.Bytes.{bytes_for}
use Rattle.chart.proofs.Marks.{bytes_mono}
use Rattle.chart.proofs.bytes.most_words.Goals as goal

-- the number before the first that the bytes are too few for, or the most words
before_first : (bytes : ℕ) (r : Option ℕ)
    → MatchOption r ((k : ℕ) → 0 ≤ k → k < most_words → bytes_for (k + 1) ≤ bytes) (λ n. (0 ≤ n) × (n < most_words) × (bytes < bytes_for (n + 1)) × ((k : ℕ) → 0 ≤ k → k < n → bytes_for (k + 1) ≤ bytes))
    → Greatest bytes_for bytes (unwrap_or r most_words)
before_first bytes None all = record { few = omega arith; fits = all 39 (omega arith) (omega arith); greatest = λ n low fits. low }
before_first bytes (Some zero) first = record { few = omega arith; fits = omega arith; greatest = λ n low fits. elim (cases_lt 0 n) [ inl over ↦ let up = bytes_mono 1 n over in omega (arith, first.2) | inr low ↦ low ] }
before_first bytes (Some (suc m)) first = record {
  few = omega (arith, first.1);
  fits = let next : m + 1 ≡ suc m = omega arith in rw next at (first.3 m (omega arith) (omega arith));
  greatest = λ n low fits. elim (cases_lt (suc m) n) [ inl over ↦ let up = bytes_mono (suc m + 1) n (omega arith) in absurd (omega (arith, first.2)) | inr low ↦ low ];
}

pub returns : goal.returns
returns c =
    rw c.unwrap_or.ensures (before_first c.args.bytes c.find.result (first_from_Range _ _ _ _ (λ n. c.args.bytes < bytes_for (n + 1)) (λ n. bytes_for (n + 1) ≤ c.args.bytes) c.find.ensures.ran (λ x q k. search (rules, tests)) (λ x q k. search (rules, tests))))
