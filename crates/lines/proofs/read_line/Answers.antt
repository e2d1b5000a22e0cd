use Rattle.std.proofs.Common.{length, rules}
use Rattle.lines.specs.Form.{line_form, shown_if}
use Rattle.lines.specs.Said.{Says}
use Rattle.lines.proofs.Places.{form_inside, said_inside}
use Rattle.lines.proofs.read_line.Goals as goal

pub returns-clause-inside : goal.returns-clause-inside
returns-clause-inside c =
    let due = line_form c.args.allowed c.args.line.now in
    let says : Says shown_if c.form.result due = search rules in
    said_inside (length c.args.line.now) shown_if c.form.result due says (form_inside c.args.allowed c.args.line.now)
