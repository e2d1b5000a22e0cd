-- What a row of bytes marks: where the byte of a constituent lies, and what is marked after one is set or all are cleared.
use Rattle.std.proofs.Common.{◌≡◌, ℕ, ◌<◌, ◌≤◌, true, eqb, ◌≢◌, List, length, get_or, set, ap, arith, get_or-set_other, get_or-set_same}
use Rattle.std.proofs.lemmas.Bool.{eq-eqb, both_ways}
use Rattle.chart.specs.Limits.{most_categories}
use Rattle.chart.specs.Meaning.{Inside, same, Adds, Empty}
use Rattle.chart.specs.Bytes.{bytes_for, place, marked, held}
use Rattle.chart.proofs.Triangles.{tri_mono, tri_closed, cell_below, cell_apart}
use Rattle.chart.proofs.Within.{same_from, limited_empty, limited_adds}

-- a constituent's byte is among those of its words
pub place_below : (n g m b e a : ℕ) → g ≤ most_categories → n ≤ m → Inside n g b e a → place b e a < bytes_for m
place_below n g m b e a small le i =
    let k = i.kind in
    let l = i.last in
    omega (arith, cell_below b e m i.first i.order (omega arith), tri_closed m)

-- each constituent has a byte of its own
place_apart : (n g b e a x y z : ℕ) → g ≤ most_categories → Inside n g x y z → Inside n g b e a → place x y z ≡ place b e a → same b e a x y z ≡ true
place_apart n g b e a x y z small i j h =
    let k = i.kind in
    let l = j.kind in
    let c = cell_apart x y b e i.first i.order j.first j.order (omega arith) in
    same_from b e a x y z c.0 c.1 (omega arith)

pub set_adds : (bytes : List ℕ) (n g b e a : ℕ) → g ≤ most_categories → place b e a < length bytes → Inside n g b e a
    → Adds (held bytes n g) (held (set bytes (place b e a) 1) n g) true b e a
set_adds bytes n g b e a small fits i =
    limited_adds n g (marked bytes) (marked (set bytes (place b e a) 1)) b e a
    (λ _. eq-eqb (get_or (set bytes (place b e a) 1) (place b e a) 0) 1 (get_or-set_same bytes (place b e a) 1 0 fits))
    (λ x y z j s.
    let ne : place x y z ≢ place b e a = λ p. both_ways (same b e a x y z) s (place_apart n g b e a x y z small j i p) in
    ap (λ v. eqb v 1) (get_or-set_other bytes (place b e a) (place x y z) 1 0 ne))
    i

pub cleared_empty : (bytes : List ℕ) (n g : ℕ) → g ≤ most_categories → ((k : ℕ) → k < bytes_for n → get_or bytes k 0 ≡ 0) → Empty (held bytes n g)
cleared_empty bytes n g small none =
    limited_empty n g (marked bytes) (λ b e a i. ap (λ v. eqb v 1) (none (place b e a) (place_below n g n b e a small (omega arith) i)))

-- fewer words take no more bytes
pub bytes_mono : (m n : ℕ) → m ≤ n → bytes_for m ≤ bytes_for n
bytes_mono m n h = omega (arith, tri_mono m n h, tri_closed m, tri_closed n)
