use Rattle.std.proofs.Common.{◌≡◌, ℕ, ◌-◌, ◌*◌, ◌≤◌, true, refl, ◌∙◌, subst, arith}
use Rattle.std.proofs.lemmas.Bool.{and_from, le-leb}
use Rattle.derivation.specs.Grammar.{grammar}
use Rattle.table.specs.Memory.{view, Cleared}
use Rattle.table.proofs.Views.{view_false, alike_none, moved_none}
use Rattle.round.proofs.Counts.{ending_most, number_most}
use Rattle.round.proofs.Columns.{columns_more, columns_all}
use Rattle.round.proofs.Spans.{sofar_none}
use Rattle.round.proofs.round.Goals as goal

pub loop-e-init : goal.loop-e-init
loop-e-init g c =
    let s = g.S.Scale.scale in
    let chart = g.C.Chart.seen c.start.new.self in
    let kinds = c.args.task.now.rules.now.categories in
    let yes : c.start.result ≡ true = c.start.ensures.told ∙ and_from _ _ (le-leb _ _ c.requires.roomy) (le-leb _ _ c.args.task.now.rules.now.few) in
    let started = c.start.ensures.started yes in
    record {
      columns = record {
        alike = alike_none _;
        moved = moved_none _ _ _ _ _;
        sofar = sofar_none (view s.neutral kinds chart c.clear.new.costs) (λ A x y. view_false s.neutral kinds chart c.clear.new.costs A x y (started.2 x y A));
        count = refl;
      };
      within = omega arith;
    }

pub overflow_add-held : goal.overflow_add-held
overflow_add-held g c =
    let m = g.C.Chart in
    let kinds = c.args.task.now.rules.now.categories in
    let e = c.loop-e.e in
    let few : kinds ≤ 64 = c.args.task.now.rules.now.few in
    let roomy = c.requires.roomy in
    let most = m.sound.most c.args.chart.now in
    let less = c.loop-e-test.true in
    let one = c.loop-e.auto.e in
    let so_far = number_most (m.seen c.loop-e.chart).holds kinds (e - 1) few (omega arith) in
    let here = ending_most (m.seen c.fill_ending-held.new.chart).holds kinds e e few in
    let inv = c.loop-e.invariant.columns.count in
    let is = c.fill_ending-held.ensures.number in
    omega arith

pub loop-e-preserved : goal.loop-e-preserved
loop-e-preserved g c =
    let did = c.fill_ending-held.ensures in
    let less = c.loop-e-test.true in
    let last = c.loop-e.invariant.within in
    record {
      columns = columns_more _ _ _ _ _ _ _ _ _ _ _ _ _ _ c.loop-e.auto.e c.loop-e.invariant.columns did.spread did.sofar did.number;
      within = omega arith;
    }

pub returns : goal.returns
returns g c =
    let m = g.C.Chart in
    let rules = c.args.task.now.rules.now in
    let yes : c.start.result ≡ true = c.start.ensures.told ∙ and_from _ _ (le-leb _ _ c.requires.roomy) (le-leb _ _ rules.few) in
    let started = c.start.ensures.started yes in
    let cleared = subst (λ (k : ℕ). Cleared g.S.Scale.scale.neutral (k * rules.categories) c.args.costs.now c.clear.new.costs) c.cells_of.ensures.sum c.clear.ensures in
    let columns = c.loop-e.invariant.columns in
    let within = c.loop-e.invariant.within in
    let left = c.loop-e-test.false in
    let did = columns_all _ (grammar rules) _ _ _ _ _ g.met.S.Scale.lawful _ _ _ _ _ started.0 started.1 cleared (m.sound.bounded c.loop-e.chart) (omega arith) columns in
    record { room = columns.alike.room ∙ c.start.ensures.room; round = did.0; count = did.1; number = did.2 }

pub returns-2 : goal.returns-2
returns-2 g c =
    let m = g.C.Chart in
    let rules = c.args.task.now.rules.now in
    let yes : c.start.result ≡ true = c.start.ensures.told ∙ and_from _ _ (le-leb _ _ c.requires.roomy) (le-leb _ _ rules.few) in
    let started = c.start.ensures.started yes in
    let cleared = subst (λ (k : ℕ). Cleared g.S.Scale.scale.neutral (k * rules.categories) c.args.costs.now c.clear.new.costs) c.cells_of.ensures.sum c.clear.ensures in
    let more = c.fill_ending-held.ensures in
    let columns = columns_more _ _ _ _ _ _ _ _ _ _ _ _ _ _ c.loop-e.auto.e c.loop-e.invariant.columns more.spread more.sofar more.number in
    let within = c.loop-e.invariant.within in
    let less = c.loop-e-test.true in
    let did = columns_all _ (grammar rules) _ _ _ _ _ g.met.S.Scale.lawful _ _ _ _ _ started.0 started.1 cleared (m.sound.bounded c.fill_ending-held.new.chart) (omega arith) columns in
    record { room = columns.alike.room ∙ c.start.ensures.room; round = did.0; count = did.1; number = did.2 }
