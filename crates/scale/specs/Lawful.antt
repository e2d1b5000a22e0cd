-- Both scales are lawful.
use Rattle.std.specs.Prelude.{◌≡◌, ℕ, ◌≤◌, max, refl}
use Rattle.std.proofs.Common.{inl, inr, arith, le-ltb}
use Rattle.std.proofs.Math.Decide.{dec_le}
use Rattle.std.proofs.lemmas.Bool.Decides.{nat_tests}
use Rattle.derivation.specs.Scale.{Lawful}
use Rattle.scale.specs.Scales.{numbers, capped, sums, worsts}

-- numbers are lawful costs under each join that is associative and commutative, has 0 as its unit and keeps their order
numbers_lawful : (join : ℕ → ℕ → ℕ) → ((a b c : ℕ) → join (join a b) c ≡ join a (join b c)) → ((a b : ℕ) → join a b ≡ join b a) → ((a : ℕ) → join 0 a ≡ a) → ((a b c : ℕ) → a ≤ b → join a c ≤ join b c) → Lawful (numbers join)
numbers_lawful join assoc comm unit keeps = record {
  assoc = assoc;
  comm = comm;
  unit = unit;
  compares = λ a b. elim (dec_le a b) [ yes h ↦ inl (le-ltb b a h) | no h ↦ inr (le-ltb a b (omega arith)) ];
  trans = λ a b c h k. grind (arith, nat_tests);
  antisym = λ a b h k. grind (arith, nat_tests);
  least = λ a. grind (arith, nat_tests);
  free = refl;
  keeps = λ a b c h. let k : a ≤ b = grind (arith, nat_tests) in le-ltb _ _ (keeps a b c k);
}

pub sums_lawful : Lawful sums
sums_lawful = numbers_lawful capped (λ a b c. grind arith) (λ a b. omega arith) (λ a. omega arith) (λ a b c h. omega arith)

pub worsts_lawful : Lawful worsts
worsts_lawful = numbers_lawful max (λ a b c. omega arith) (λ a b. omega arith) (λ a. omega arith) (λ a b c h. omega arith)
