-- `start`: cleared vectors hold nothing, either way.
use Rattle.std.proofs.Common.{◌≡◌, ℕ, ◌<◌, ◌++◌, get_or, drop, refl, rules}
use Rattle.std.proofs.lemmas.List.{places}
use Rattle.std.proofs.lemmas.Bool.{true≢false}
use Rattle.vectors.specs.Vectors.{vectors_for}
use Rattle.vectors.proofs.Marks.{cleared_empty, cleared_starts, cleared_ends}
use Rattle.vectors.proofs.VectorChartChart.start.Goals as goal

pub invariant_of-self-then-admits-3 : goal.invariant_of-self-then-admits-3
invariant_of-self-then-admits-3 c =
    let ok = c.admits.ensures.fact c.if-admits.true in
    let n = vectors_for c.args.n in
    let now = c.fill.new.self ++ drop n c.args.self.now.vectors.now in
    let zeros : (k : ℕ) → k < n → get_or c.fill.new.self k 0 ≡ 0 = search (rules, places) in
    let all : (k : ℕ) → k < n → get_or now k 0 ≡ 0 = search (rules, places) in
    record {
      fits = search (rules, places);
      starts = cleared_starts now c.args.n c.args.g ok.1 all;
      ends = cleared_ends now c.args.n c.args.g ok.1 all;
    }

pub returns-then-admits : goal.returns-then-admits
returns-then-admits c =
    let ok = c.admits.ensures.fact c.if-admits.true in
    let n = vectors_for c.args.n in
    let now = c.fill.new.self ++ drop n c.args.self.now.vectors.now in
    let zeros : (k : ℕ) → k < n → get_or c.fill.new.self k 0 ≡ 0 = search (rules, places) in
    let all : (k : ℕ) → k < n → get_or now k 0 ≡ 0 = search (rules, places) in
    record {
      told = cc;
      room = refl;
      started = λ _. (refl, refl, cleared_empty now c.args.n c.args.g ok.1 all);
      refused = λ e. absurd (true≢false e);
    }
