-- Each session that fits a grammar is one to which calls lead: requests as many as its tally, and then its words.
use Rattle.std.proofs.Common.{◌≡◌, ℕ, zero, suc, ◌+◌, ◌<◌, ◌≤◌, List, [], ◌∷◌, ◌++◌, length, refl, sym, ap, subst, inr, arith, append_assoc, length-append}
use Rattle.std.proofs.lemmas.List.{append-nil}
use Rattle.session.specs.State.{State, Over}
use Rattle.session.specs.Runs.{Call, put_word, request, putting, asking, Leads, start, next}
use Rattle.sentences.proofs.Holding.{puts}

abbrev holds : Over → ℕ → List ℕ → State
holds o tally ws = record { held = ws; tally = tally; number = o.number }

asks : ℕ → List Call
asks zero = []
asks (suc n) = asks n ++ request ∷ []

asked : (o : Over) (n : ℕ) → n ≤ 4294967295 → Leads o (asks n) (holds o n [])
unfolding asks
asked o zero few = start
asked o (suc n) few = next (asked o n (omega arith)) (asking (holds o (suc n) []) (inr (ap (λ (t : ℕ). holds o t []) (omega arith))))

-- each word is one of a vocabulary
abbrev pub Known : ℕ → List ℕ → Type 0
Known vocabulary [] = Unit {0}
Known vocabulary (w ∷ ws) = (w < vocabulary) × Known vocabulary ws

pub known_more : (v : ℕ) (ws : List ℕ) (w : ℕ) → Known v ws → w < v → Known v (ws ++ w ∷ [])
known_more v [] w known less = (less, tt)
known_more v (u ∷ ws) w known less = (known.0, known_more v ws w known.1 less)

-- the words put, after those that are held
put_all : (o : Over) (tally : ℕ) (calls : List Call) (done ws : List ℕ) → Leads o calls (holds o tally done) → Known o.grammar.vocabulary ws → length done + length ws ≤ 40 → (more : List Call) × Leads o more (holds o tally (done ++ ws))
put_all o tally calls done [] leads known few = (calls, subst (λ (us : List ℕ). Leads o calls (holds o tally us)) (sym (append-nil done)) leads)
put_all o tally calls done (w ∷ ws) leads known few =
    let short : length done < 40 = omega arith in
    let after = (puts o (holds o tally done) w refl known.0 short).1 in
    let step : Leads o (calls ++ put_word w ∷ []) (holds o tally (done ++ w ∷ [])) = subst (λ (t : State). Leads o (calls ++ put_word w ∷ []) t) after (next leads (putting w)) in
    let rest = put_all o tally (calls ++ put_word w ∷ []) (done ++ w ∷ []) ws step known.1 (omega (arith, length-append done (w ∷ []))) in
    subst (λ (us : List ℕ). (more : List Call) × Leads o more (holds o tally us)) (append_assoc done (w ∷ []) ws) rest

pub reached : (o : Over) (s : State) → s.number ≡ o.number → s.tally ≤ 4294967295 → Known o.grammar.vocabulary s.held → length s.held ≤ 40 → (calls : List Call) × Leads o calls s
reached o s fits few known short =
    let is : holds o s.tally s.held ≡ s = ap (λ (n : ℕ). let t : State = record { held = s.held; tally = s.tally; number = n } in t) (sym fits) in
    subst (λ (t : State). (calls : List Call) × Leads o calls t) is (put_all o s.tally (asks s.tally) [] s.held (asked o s.tally few) known (omega arith))
