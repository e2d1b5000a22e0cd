use Rattle.std.proofs.Common.{◌≡◌, ℕ, ◌+◌, ◌*◌, ◌≤◌, take, length, sym, refl, ap, ap₂, ◌∙◌, subst, arith, length-take}
use Rattle.derivation.specs.Grammar.{grammar}
use Rattle.summary.specs.declared.Summary.{Summary}
use Rattle.summary.specs.declared.pair.Pair.{Pair}
use Rattle.summary.specs.Least.{LeastOutside}
use Rattle.summary.specs.Memory.{tri, place}
use Rattle.summary.specs.Filling.{Insides, Outsides}
use Rattle.summary.proofs.Placing.{front_same, put_beside, put_view, put_long}
use Rattle.summary.proofs.Order.{entries_is, place_fits, lengths_first}
use Rattle.summary.proofs.Longer.{insides_same}
use Rattle.summary.proofs.Around.{outsides_same, outsides_more}
use Rattle.summary.proofs.Summary.pair_row.Goals as goal

-- the row has room among the rows, and they in the memory
fits : {Cost : Type 0} (b : Summary Cost) (pair : Pair) → pair.span ≡ b.span → place pair.span pair.left pair.right * b.categories + b.categories ≤ (b.span + tri b.span) * b.categories
fits b pair same = subst (λ (n : ℕ). place pair.span pair.left pair.right * b.categories + b.categories ≤ (n + tri n) * b.categories) same (place_fits b.categories pair.span (pair.left + pair.right) pair.left pair.right refl pair.short)

room : {Cost : Type 0} (b : Summary Cost) (pair : Pair) (row : ℕ) → pair.span ≡ b.span → row ≡ place pair.span pair.left pair.right → row * b.categories + b.categories ≤ length b.memory.now
room b pair row same is = subst (λ (i : ℕ). i * b.categories + b.categories ≤ length b.memory.now) (sym is) (omega (arith, fits b pair same, b.room))

pub overflow_mul-row : goal.overflow_mul-row
overflow_mul-row g c = omega (arith, room c.args.self.now c.args.pair c.row.result c.requires.span c.row.ensures)

pub split_at_mut-before-requires : goal.split_at_mut-before-requires
split_at_mut-before-requires g c = omega (arith, room c.args.self.now c.args.pair c.row.result c.requires.span c.row.ensures)

pub slice_bounds-make_pair-end : goal.slice_bounds-make_pair-end
slice_bounds-make_pair-end g c = omega (arith, room c.args.self.now c.args.pair c.row.result c.requires.span c.row.ensures, c.split_at_mut-before.ensures.back_len)

pub slice_bounds-make_pair-end-2 : goal.slice_bounds-make_pair-end-2
slice_bounds-make_pair-end-2 g c = omega (arith, room c.args.self.now c.args.pair c.row.result c.requires.span c.row.ensures, c.split_at_mut-before.ensures.back_len, length-take c.args.self.now.categories c.split_at_mut-before.result.1.now)

pub make_pair-requires : goal.make_pair-requires
make_pair-requires g c =
    let s = g.S.Scale.scale in
    let b = c.args.self.now in
    let pair = c.args.pair in
    let size = b.categories in
    let all = grammar c.args.rules.now in
    let cut = c.split_at_mut-before.ensures in
    let front = c.split_at_mut-before.result.0.now in
    let same = front_same (place pair.span pair.left pair.right * size) b.memory.now front (rw c.row.ensures at cut.front) in
    let long : length (take size c.split_at_mut-before.result.1.now) ≡ size = omega (arith, room b pair c.row.result c.requires.span c.row.ensures, cut.back_len, length-take size c.split_at_mut-before.result.1.now) in
    record {
      room = cut.front_len ∙ ap₂ (λ i n. i * n) c.row.ensures (sym c.requires.same);
      long = long ∙ sym c.requires.same;
      lengths = subst (λ (n : ℕ). Insides s all n pair.span front) (sym c.requires.same) (insides_same s all size pair.span b.memory.now front (λ k h. same k (omega (arith, lengths_first size pair.span pair.left pair.right))) c.requires.lengths);
      pairs = subst (λ (n : ℕ). Outsides s all n pair.span (pair.left + pair.right) pair.left front) (sym c.requires.same) (outsides_same s all size pair.span pair.left pair.right b.memory.now front same c.requires.before);
    }

pub returns : goal.returns
returns g c =
    let s = g.S.Scale.scale in
    let b = c.args.self.now in
    let pair = c.args.pair in
    let size = b.categories in
    let base = place pair.span pair.left pair.right * size in
    let all = grammar c.args.rules.now in
    let cut = c.split_at_mut-before.ensures in
    let row = c.make_pair.new.row in
    let inside = room b pair (place pair.span pair.left pair.right) c.requires.span refl in
    let front = rw c.row.ensures at cut.front in
    let back = rw c.row.ensures at cut.back in
    let long : length row ≡ size = omega (arith, c.make_pair.auto.row, cut.back_len, room b pair c.row.result c.requires.span c.row.ensures, length-take size c.split_at_mut-before.result.1.now) in
    let beside = put_beside size base b.memory.now _ _ row front back inside long in
    let view_is = put_view size base b.memory.now _ _ row front back inside long in
    record {
      kept = record {
        categories = refl;
        span = refl;
        lent = refl;
        long = put_long size base b.memory.now _ _ row front back inside long;
        past = λ k h. beside.past k (omega (arith, fits b pair c.requires.span, entries_is size b.span));
      };
      exact = outsides_more s all size pair.span pair.left pair.right _ pair.short
          (λ A. subst (λ o. LeastOutside s all A pair.left pair.right o) (ap (λ col. col A) view_is) (c.make_pair.ensures A))
          (outsides_same s all size pair.span pair.left pair.right b.memory.now _ beside.ahead c.requires.before);
      lengths = insides_same s all size pair.span b.memory.now _ (λ k h. beside.ahead k (omega (arith, lengths_first size pair.span pair.left pair.right))) c.requires.lengths;
    }
