use Rattle.std.proofs.Common.{◌≡◌, ℕ, ◌<◌, ◌++◌, get_or, drop, refl, arith, rules}
use Rattle.std.proofs.lemmas.List.{places}
use Rattle.std.proofs.lemmas.Bool.{true≢false}
use Rattle.chart.proofs.Marks.{cleared_empty}
use Rattle.chart.proofs.bytes.ByteChartChart.start.Goals as goal

pub returns-then-admits : goal.returns-then-admits
returns-then-admits c =
    let ok = c.admits.ensures.fact c.if-admits.true in
    let zeros : (k : ℕ) → k < c.bytes_for.result → get_or c.fill.new.self k 0 ≡ 0 = search (rules, places) in
    let all : (k : ℕ) → k < c.bytes_for.result → get_or (c.fill.new.self ++ drop c.bytes_for.result c.args.self.now.bytes.now) k 0 ≡ 0 = search (rules, places) in
    record {
      told = cc;
      room = refl;
      started = λ _. (refl, refl, cleared_empty (c.fill.new.self ++ drop c.bytes_for.result c.args.self.now.bytes.now) c.args.n c.args.g ok.1 (λ k h. all k (omega arith)));
      refused = λ e. absurd (true≢false e);
    }
