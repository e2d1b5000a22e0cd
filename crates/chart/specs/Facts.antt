-- A chart holds nothing outside. It stands here since the ghost members of each chart cite it.
use Rattle.std.specs.Prelude.{◌≡◌, ℕ, true, ◌&&◌, nat_le, nat_lt}
use Rattle.std.proofs.lemmas.Bool.{and_parts, leb-true, ltb-true}
use Rattle.chart.specs.Meaning.{Holds, Inside, inside, limited}

pub inside_tells : (n g b e a : ℕ) → inside n g b e a ≡ true → Inside n g b e a
inside_tells n g b e a h =
    let p = and_parts (nat_le 1 b && nat_le b e) (nat_le e n && nat_lt a g) h in
    let q = and_parts (nat_le 1 b) (nat_le b e) p.0 in
    let r = and_parts (nat_le e n) (nat_lt a g) p.1 in
    record { first = leb-true 1 b q.0; order = leb-true b e q.1; last = leb-true e n r.0; kind = ltb-true a g r.1 }

pub limited_bounded : (n g : ℕ) (marked : Holds) (b e a : ℕ) → limited n g marked b e a ≡ true → Inside n g b e a
unfolding limited
limited_bounded n g marked b e a h = inside_tells n g b e a (and_parts (inside n g b e a) (marked b e a) h).0
