use Rattle.std.proofs.Common.{◌≡◌, ℕ, ◌+◌, ◌-◌, ◌*◌, ◌≤◌, length, sym, refl, ap, subst, arith, length-take}
use Rattle.derivation.specs.Grammar.{grammar}
use Rattle.summary.specs.declared.Summary.{Summary}
use Rattle.summary.specs.Least.{LeastInside}
use Rattle.summary.specs.Filling.{Insides}
use Rattle.summary.proofs.Placing.{row_before, front_same, put_beside, put_view, put_long}
use Rattle.summary.proofs.Order.{entries_is, lengths_all}
use Rattle.summary.proofs.Longer.{insides_same, insides_more}
use Rattle.summary.proofs.Summary.length_row.Goals as goal

-- the row has room in the memory
room : {Cost : Type 0} (b : Summary Cost) (n : ℕ) → 1 ≤ n → n ≤ b.span → (n - 1) * b.categories + b.categories ≤ length b.memory.now
room b n some within = omega (arith, row_before b.categories (n - 1) b.span (omega arith), lengths_all b.categories b.span, b.room)

pub make_length-requires-clause-before : goal.make_length-requires-clause-before
make_length-requires-clause-before g c =
    let s = g.S.Scale.scale in
    let b = c.args.self.now in
    let rules = c.args.rules.now in
    let n = c.args.n in
    let front = c.split_at_mut-shorter.result.0.now in
    subst (λ (size : ℕ). Insides s (grammar rules) size (n - 1) front) (sym c.requires.same)
    (insides_same s (grammar rules) b.categories (n - 1) b.memory.now front (front_same ((n - 1) * b.categories) b.memory.now front c.split_at_mut-shorter.ensures.front) c.requires.before)

pub returns : goal.returns
returns g c =
    let s = g.S.Scale.scale in
    let b = c.args.self.now in
    let n = c.args.n in
    let size = b.categories in
    let base = (n - 1) * size in
    let all = grammar c.args.rules.now in
    let cut = c.split_at_mut-shorter.ensures in
    let row = c.make_length.new.row in
    let fits = room b n c.requires.some c.requires.within in
    let long : length row ≡ size = omega (arith, c.make_length.auto.row, cut.back_len, length-take size c.split_at_mut-shorter.result.1.now, fits) in
    let beside = put_beside size base b.memory.now _ _ row cut.front cut.back fits long in
    let view_is = put_view size base b.memory.now _ _ row cut.front cut.back fits long in
    record {
      kept = record {
        categories = refl;
        span = refl;
        lent = refl;
        long = put_long size base b.memory.now _ _ row cut.front cut.back fits long;
        past = λ k h. beside.past k (omega (arith, row_before size (n - 1) b.span (omega (arith, c.requires.some, c.requires.within)), lengths_all size b.span, entries_is size b.span));
      };
      exact = insides_more s all size n _
          (λ A. subst (λ o. LeastInside s all A n o) (ap (λ col. col A) view_is) (c.make_length.ensures A))
          (insides_same s all size (n - 1) b.memory.now _ beside.ahead c.requires.before);
      beside = beside;
    }
