-- The square of cell numbers, computed from the rule, and the cell's number at each entry that is read.
use Rattle.std.proofs.Common.{◌≡◌, ℕ, ◌+◌, ◌-◌, ◌*◌, ◌/◌, ◌≤◌, true, cond, leb, List, [], map, get_or, ap, ◌∙◌, mul_comm, arith}
use Rattle.std.specs.List.{range_with_len}
use Rattle.std.proofs.lemmas.List.FromFn.{get_or-map-range_with_len}
use Rattle.std.proofs.lemmas.Bool.{le-leb}
use Rattle.chart.specs.Limits.{most_words}
use Rattle.chart.specs.Triangle.{tri, cell}
use Rattle.chart.proofs.Triangles.{tri_closed}

-- the entry of the words b to e; 0 where b is past e
abbrev wanted : ℕ → ℕ → ℕ
wanted e b = cond (leb b e) (cell b e) 0

abbrev row : ℕ → List ℕ
row e = map (wanted e) (range_with_len 1 most_words)

unfoldable pub square : List (List ℕ)
square = map row (range_with_len 1 most_words)

pub entry : (b e : ℕ) → 1 ≤ b → b ≤ e → e ≤ most_words → get_or (get_or square (e - 1) []) (b - 1) 0 ≡ cell b e
unfolding square
entry b e p q r =
    let here : leb b e ≡ true = le-leb b e q in
    ap (λ xs. get_or xs (b - 1) 0) (get_or-map-range_with_len row 1 most_words (e - 1) e [] (omega arith) (omega arith))
    ∙ get_or-map-range_with_len (wanted e) 1 most_words (b - 1) b 0 (omega arith) (omega arith)
    ∙ ap (λ t. cond t (cell b e) 0) here

-- a cell's number in closed form
pub cell_closed : (b e : ℕ) → 1 ≤ b → b ≤ e → cell b e ≡ e * (e - 1) / 2 + b - 1
cell_closed b e p q =
    let up : (e - 1) + 1 ≡ e = omega arith in
    let c : tri (e - 1) ≡ (e - 1) * e / 2 = rw up at (tri_closed (e - 1)) in
    let m = mul_comm (e - 1) e in
    let d : tri (e - 1) ≡ e * (e - 1) / 2 = rw m at c in
    omega arith
