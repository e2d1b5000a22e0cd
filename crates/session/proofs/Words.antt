-- A word written among those held, and the earlier one written back.
use Rattle.std.proofs.Common.{◌≡◌, ℕ, ◌-◌, ◌≤◌, Bool, true, cond, ◌&&◌, leb, List, length, get_or, set, Ok, ap, ◌∙◌, arith, length-set, set-set, append-nil}
use Rattle.std.specs.List.{refill}
use Rattle.std.proofs.lemmas.Bool.{and_from, le-leb}
use Rattle.std.proofs.lemmas.List.{take_all, drop_all, set-get_or}
use Rattle.session.specs.State.{State, holding}
use Rattle.session.specs.Calls.{back}

-- a word written through the slice of the words
pub written : (xs ys : List ℕ) (i w : ℕ) → ys ≡ xs → refill (length xs) xs (set ys i w) ≡ set xs i w
written xs ys i w same =
    let long : length (set xs i w) ≡ length xs = length-set xs i w in
    let none = drop_all (length (set xs i w)) xs (omega arith) in
    rw (same, none, append-nil) (take_all (length xs) (set xs i w) (omega arith))

-- and taken back
pub written_back : (s : State) (ys : List ℕ) (place w earlier : ℕ) → ys ≡ set s.held (place - 1) w → earlier ≡ get_or s.held (place - 1) 0 → 1 ≤ place → place ≤ length s.held
    → back (Ok earlier) (holding s ys) place ≡ s
written_back s ys place w earlier now was first last =
    let inside : leb 1 place && leb place (length ys) ≡ true = and_from _ _ (le-leb 1 place first) (le-leb place (length ys) (rw (now, length-set) last)) in
    ap (λ (b : Bool). cond b (holding s (set ys (place - 1) earlier)) (holding s ys)) inside
    ∙ ap (λ (ws : List ℕ). holding s ws) (rw (now, was, set-set, set-get_or))
