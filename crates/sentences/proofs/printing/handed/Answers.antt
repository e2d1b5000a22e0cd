use Rattle.std.proofs.Common.{rules, ◌≡◌, ℕ, List, ◌++◌, OnOk, codes, decimal, append_assoc, ◌∙◌}
use Rattle.std.proofs.lemmas.Result.{on_ok_weaker}
use Rattle.sentences.specs.Written.{tree_line}
use Rattle.sentences.proofs.printing.handed.Goals as goal

-- the parts of the line, one after the other
joined : (old head mid last new tree : List ℕ) → new ≡ last ++ codes ")\n" → last ≡ mid ++ tree → mid ≡ old ++ head → new ≡ old ++ (head ++ (tree ++ codes ")\n"))
joined old head mid last new tree a b c = rw (a, b, c) (simp append_assoc)

headed : (head cost tree : List ℕ) (rung kept : ℕ) → head ≡ codes "(tree " ++ (cost ++ (codes " " ++ (decimal rung ++ (codes " " ++ (decimal kept ++ codes " "))))) → head ++ (tree ++ codes ")\n") ≡ tree_line cost rung kept tree
headed head cost tree rung kept is = rw is (simp append_assoc)

pub returns : goal.returns
returns g c =
    let end : OnOk c.extend_from_slice-2.result (c.extend_from_slice-2.new.self.items ≡ c.show.new.out.items ++ codes ")\n") = search rules in
    on_ok_weaker c.extend_from_slice-2.result
    (λ ends h ws A b e d rest begins.
    let item : c.extend_from_slice.new.self.items ≡ c.args.out.now.items ++ c.as_bytes.result.now = search rules in (
      _,
      joined _ _ _ _ _ _ ends (c.in_ok-_left.ensures.text h ws A b e d rest begins).1 item,
      λ written costs. let head = rw costs at c.in_ok-head.ensures.ok in headed _ written _ _ _ (c.as_bytes.ensures.value ∙ head),
    ))
    end
