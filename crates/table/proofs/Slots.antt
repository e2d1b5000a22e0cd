-- The places of costs are apart.
use Rattle.std.proofs.Common.{◌≡◌, ℕ, ◌*◌, ◌/◌, ◌%◌, ◌<◌, sym, ap, ◌∙◌}
use lib.Arith.{digits_lt, digits_div, digits_mod}
use Rattle.chart.specs.Meaning.{Inside}
use Rattle.chart.specs.Triangle.{tri, cell}
use Rattle.chart.proofs.Triangles.{cell_below, cell_apart}
use Rattle.table.specs.Memory.{slot}

pub slot_below : (n g b e A : ℕ) → Inside n g b e A → slot g b e A < tri n * g
slot_below n g b e A i = digits_lt {q = cell b e} {m = tri n} {r = A} {c = g} (cell_below b e n i.first i.order i.last) i.kind

pub slot_apart : (n g b e A x y B : ℕ) → Inside n g b e A → Inside n g x y B → slot g b e A ≡ slot g x y B → (b ≡ x) × (e ≡ y) × (A ≡ B)
slot_apart n g b e A x y B i j is =
    let cells : cell b e ≡ cell x y = sym (digits_div (cell b e) {m = g} {r = A} i.kind) ∙ ap (λ k. k / g) is ∙ digits_div (cell x y) {m = g} {r = B} j.kind in
    let kinds : A ≡ B = sym (digits_mod (cell b e) {m = g} {r = A} i.kind) ∙ ap (λ k. k % g) is ∙ digits_mod (cell x y) {m = g} {r = B} j.kind in
    let c = cell_apart b e x y i.first i.order j.first j.order cells in
    (c.0, c.1, kinds)
