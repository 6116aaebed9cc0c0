-- What is counted is accepted.
use Rattle.std.proofs.Common.{sym, subst}
use Rattle.report.specs.Degrees.{listed}
use Rattle.forms.specs.Fields.{codes_of}
use Rattle.forms.specs.FormLaw.{Accepted, ClosedLists}
use Rattle.forms.specs.Forms.{Lists}
use Rattle.forms.specs.Steps.{viewed}
use Rattle.forms.proofs.Accepting.{accepted_piled}
use Rattle.forms.proofs.count_cells.Goals as goal

pub returns-clause-law : goal.returns-clause-law
returns-clause-law g c = λ l h.
    let lists = c.in_ok-closed.closed in let form = c.args.form in
    let counts = listed c.in_ok-measure_over.field-0 in
    let closed : ClosedLists (viewed lists) =
    record { block = lists.block.closed; pads = lists.pads.closed; drawing = lists.drawing.closed } in
    subst (λ (x : Lists). Accepted form x counts) (c.in_ok-closed.ensures.whole l h)
    (accepted_piled (codes_of c.field_order-order.result) form (viewed lists) counts (sym c.in_ok-measure_over.ensures) closed)
