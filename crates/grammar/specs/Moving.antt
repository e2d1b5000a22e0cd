-- Closing a draft, reopening a closed grammar, and its leases.
use Rattle.std.specs.Prelude.{◌≡◌, ℕ, ◌+◌, ◌-◌, ◌<◌, Bool, cond, ◌&&◌, List, [], length, Some, None, Ok, Err, vec_items, Option, Result, ◌==◌, ◌≢◌, nat_lt, slice_index_or}
use Rattle.refusals.specs.declared.Refusal.{Refusal}
use Rattle.refusals.specs.declared.Refusal.TheVariants.{WrongTop, LeasesOut, NinthLease, OtherGrammar}
use Rattle.refusals.specs.declared.Fault.{Fault}
use Rattle.derivation.specs.declared.tables.Rules.{Rules}
use Rattle.grammar.specs.declared.draft.Draft.{Draft}
use Rattle.grammar.specs.declared.closed.Closed.{Closed}
use Rattle.grammar.specs.declared.closed.Lease.{Lease}
use Rattle.grammar.specs.Listed.{listed}
use Rattle.grammar.specs.Seen.{Seen}
use Rattle.grammar.specs.Drafts.{seen}

-- a closed grammar as the draft that it was
abbrev pub shown : Closed → Seen
shown g = record { number = g.number; limit = g.limit; top = Some g.rules.top; categories = listed g.categories; words = listed g.words; lexical = vec_items g.rules.lexical; chains = vec_items g.rules.chains; binaries = vec_items g.rules.binaries }

-- a closed grammar and a draft hold proofs, so that they are not written out here: what is seen of them is
abbrev pub Closing : Draft → Result Closed (Fault × Draft) → Type 0
Closing d (Ok g) = (shown g ≡ seen d) × (g.out ≡ 0)
Closing d (Err e) = (d.top ≡ None) × (e ≡ (record { refusal = WrongTop; line = 0; byte = 0 }, d))

abbrev pub Reopening : Closed → Result Draft (Refusal × Closed) → Type 0
Reopening g (Ok d) = (g.out ≡ 0) × (seen d ≡ shown g)
Reopening g (Err e) = (0 < g.out) × (e ≡ (LeasesOut, g))

-- what no lease alters, and how many are out
pub record Sealed : Type 0 where
  pub rules : Rules
  pub categories : List (List ℕ)
  pub words : List (List ℕ)
  pub number : ℕ
  pub limit : ℕ
  pub out : ℕ

abbrev pub sealed : Closed → Sealed
sealed g = record { rules = g.rules; categories = listed g.categories; words = listed g.words; number = g.number; limit = g.limit; out = g.out }

abbrev pub with_out : Closed → ℕ → Sealed
with_out g n = record { rules = g.rules; categories = listed g.categories; words = listed g.words; number = g.number; limit = g.limit; out = n }

-- a lease has the number of its grammar; at most eight are out
abbrev pub drawing : Closed → Result Lease Refusal
drawing g = cond (nat_lt g.out 8) (Ok (record { number = g.number })) (Err NinthLease)

abbrev pub drawn : Closed → Sealed
drawn g = with_out g (cond (nat_lt g.out 8) (g.out + 1) g.out)

-- a lease of this grammar, which has one out
abbrev pub fitting : Closed → Lease → Bool
fitting g l = l.number == g.number && nat_lt 0 g.out

abbrev pub taking_in : Closed → Lease → Result (Unit {0}) (Refusal × Lease)
taking_in g l = cond (fitting g l) (Ok tt) (Err (OtherGrammar, l))

abbrev pub taken_in : Closed → Lease → Sealed
taken_in g l = with_out g (cond (fitting g l) (g.out - 1) g.out)

-- a number that is found is that of a name spelled so; where none is found, no name is spelled so
abbrev pub Spelled : List (List ℕ) → List ℕ → Option ℕ → Type 0
Spelled names name None = (k : ℕ) → k < length names → slice_index_or names k [] ≢ name
Spelled names name (Some k) = (k < length names) × (slice_index_or names k [] ≡ name)
