use Rattle.std.proofs.Common.{◌≡◌, true, is_ok, is_err, cond, Ok, Err, Result, OnErr, sym, refl, ap, ◌∙◌}
use Rattle.std.proofs.lemmas.Bool.{false≢true}
use Rattle.std.specs.Fn.{FnOnceReturnsAtMut}
use Rattle.grammar.specs.Drafts.{seen}
use Rattle.grammar.specs.Trying.{Later}
use Rattle.grammar.proofs.draft.Draft.attempt.Goals as goal

at_err : {T E P : Type 0} (r : Result T E) → is_err r ≡ true → OnErr r P → P
at_err (Ok x) is h = absurd (false≢true is)
at_err (Err e) is h = h

choice : {T E A : Type 0} (r : Result T E) (a b : A) → cond (is_ok r) a b ≡ cond (is_err r) b a
choice (Ok x) a b = refl
choice (Err e) a b = refl

pub cut-requires : goal.cut-requires
cut-requires g c =
    let s = c.args.self.now in
    let t = c.steps-tried.new.arg2 in
    let gave : FnOnceReturnsAtMut g.F.FnOnce c.args.steps s c.steps-tried.result t = record { shown = _; shows = refl; left = _; met = c.steps-tried.ensures; leaves = refl } in
    let later : Later (seen s) (seen t) = at_err c.steps-tried.result (sym c.if-is_err.ensures.value) (c.requires.names_alone c.steps-tried.result t gave) in
    rw (c.len-categories.ensures, c.len-words.ensures, later) s.fit

pub returns-then-is_err : goal.returns-then-is_err
returns-then-is_err g c =
    let s = c.args.self.now in
    let t = c.steps-tried.new.arg2 in
    let gave : FnOnceReturnsAtMut g.F.FnOnce c.args.steps s c.steps-tried.result t = record { shown = _; shows = refl; left = _; met = c.steps-tried.ensures; leaves = refl } in
    let later : Later (seen s) (seen t) = at_err c.steps-tried.result (sym c.if-is_err.ensures.value) (c.requires.names_alone c.steps-tried.result t gave) in
    (t, gave, c.cut.ensures ∙ rw (c.len-categories.ensures, c.len-words.ensures) later ∙ ap (λ b. cond b (seen s) (seen t)) c.if-is_err.ensures.value ∙ sym (choice c.steps-tried.result (seen t) (seen s)))

pub returns-else-is_err : goal.returns-else-is_err
returns-else-is_err g c =
    let s = c.args.self.now in
    let t = c.steps-tried.new.arg2 in
    let gave : FnOnceReturnsAtMut g.F.FnOnce c.args.steps s c.steps-tried.result t = record { shown = _; shows = refl; left = _; met = c.steps-tried.ensures; leaves = refl } in
    (t, gave, ap (λ b. cond b (seen s) (seen t)) c.if-is_err.ensures.value ∙ sym (choice c.steps-tried.result (seen t) (seen s)))
