-- Opening a session over a closed grammar, and closing it again.
use Rattle.std.specs.Prelude.{◌≡◌, ◌<◌, ◌≤◌, Bool, cond, ◌&&◌, Ok, Err, Result, ◌==◌}
use Rattle.refusals.specs.declared.Refusal.{Refusal}
use Rattle.refusals.specs.declared.Refusal.TheVariants.{NinthLease, OtherGrammar}
use Rattle.grammar.specs.declared.closed.Closed.{Closed}
use Rattle.grammar.specs.declared.closed.Lease.{Lease}
use Rattle.grammar.specs.Moving.{Sealed, sealed, fitting, taken_in}
use Rattle.session.specs.declared.state.Session.{Session}
use Rattle.session.specs.State.{state, over, opened}

-- a session with no words and a lease of the grammar's number; or a ninth lease, refused
abbrev pub Opening : Closed → Result (Session × Lease) Refusal → Type 0
Opening g (Ok p) = (g.out < 8) × (state p.0 ≡ opened (over g)) × (p.1.number ≡ g.number)
Opening g (Err r) = (8 ≤ g.out) × (r ≡ NinthLease)

-- session and lease are of this grammar, and a lease is out
abbrev pub belongs : Closed → Session → Lease → Bool
belongs g s l = s.number == g.number && fitting g l

abbrev pub closing : Closed → Session → Lease → Result (Unit {0}) (Refusal × Session × Lease)
closing g s l = cond (belongs g s l) (Ok tt) (Err (OtherGrammar, s, l))

abbrev pub closed : Closed → Session → Lease → Sealed
closed g s l = cond (s.number == g.number) (taken_in g l) (sealed g)
