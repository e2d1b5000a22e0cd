use Rattle.std.proofs.Common.{◌≡◌, false, Option, Some, None, refl, sym, ◌∙◌, rules}
use Rattle.std.specs.Option.{is_some, IfSome}
use Rattle.table.proofs.Views.{view_false}
use Rattle.table.proofs.Table.known.Goals as goal

told : {Cost : Type 0} (P : Cost → Type 0) (o : Option Cost) (v : Option Cost) → (is_some o ≡ false → v ≡ None) → ((x : Cost) → P x → v ≡ Some x) → IfSome o P → o ≡ v
told P None v none some h = sym (none refl)
told P (Some x) v none some h = sym (some x h)

pub returns : goal.returns
returns g c = told _ c.then.result _ (λ e. view_false _ _ _ _ _ _ _ (sym c.has.ensures ∙ (sym c.then.ensures.variant ∙ e))) (λ x learnt. search rules) c.then.ensures.some
