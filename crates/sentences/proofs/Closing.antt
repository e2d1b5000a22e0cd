-- A closed grammar is that of the draft that was closed.
use Rattle.std.proofs.Common.{◌≡◌, ℕ, List, [], length, Some, None, Option, vec_items, unwrap_or, option_map, refl, ap, ◌∙◌, sym, subst}
use Rattle.std.specs.declared.vec.Vec.{Vec}
use Rattle.std.specs.declared.alloc.Global.{Global}
use Rattle.lines.specs.declared.shape.ScaleName.{ScaleName}
use Rattle.lines.specs.declared.shape.ScaleName.TheVariants.{Sum}
use Rattle.grammar.specs.declared.closed.Closed.{Closed}
use Rattle.grammar.specs.Listed.{listed}
use Rattle.grammar.specs.Moving.{shown}
use Rattle.grammar.specs.Seen.{Seen}
use Rattle.sentences.specs.Sentence.{Language, language, drafted}
use Rattle.sentences.specs.Answers.{ByScale, ByTop, LinesTold}

language_shown : (g : Closed) → language g ≡ drafted (shown g) g.rules.top
language_shown g =
    let over : ℕ → ℕ → Language = λ c v. record { grammar = record { top = g.rules.top; categories = c; vocabulary = v; lexical = vec_items g.rules.lexical; chains = vec_items g.rules.chains; binaries = vec_items g.rules.binaries }; categories = listed g.categories; words = listed g.words } in
    ap (λ c. over c g.rules.vocabulary) g.named ∙ ap (λ v. over (length (listed g.categories)) v) g.known

-- the ceilings of a ladder, or else an empty vector
pub ceilings : (ladder : Option (Vec ℕ Global)) (none : Vec ℕ Global) → vec_items none ≡ [] → unwrap_or (option_map vec_items ladder) [] ≡ vec_items (unwrap_or ladder none)
ceilings None none empty = sym empty
ceilings (Some v) none empty = refl

pub closed : (g : Closed) (draft : Seen) (scale : Option ScaleName) (ladder : Option (List ℕ)) (name : ScaleName) (weights : List ℕ) (lines : List (ℕ × List ℕ)) (before after : List ℕ) → shown g ≡ draft → unwrap_or scale Sum ≡ name → unwrap_or ladder [] ≡ weights → LinesTold (ByScale name (language g) weights) lines before after → LinesTold (ByTop draft.top (record { draft = draft; scale = scale; ladder = ladder })) lines before after
closed g draft scale ladder name weights lines before after is named weighed told =
    subst (λ (s : Seen). LinesTold (ByTop s.top (record { draft = s; scale = scale; ladder = ladder })) lines before after) is
    (rw (named, weighed, ← language_shown g) told)
